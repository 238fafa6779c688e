-- `products::prepare`: the products of the axes passed are set.
use Rattle.std.proofs.Common.{take}
use Rattle.planner.specs.Inner.{Products}
use Rattle.planner.proofs.products.prepare.Given as goal

abbrev pub invariant-loop-j : goal.invariant-loop-j
invariant-loop-j l = Products l.n (take l.j l.z) l.top l.products
