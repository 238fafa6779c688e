-- `products::set_axis`: after x turns p is the residue of x v, and the products of the numbers of size below x are set
-- (`set_more`).
use Rattle.std.proofs.Common.{◌≡◌, ◌*◌, ◌%◌, ◌<◌}
use Rattle.planner.proofs.products.ProductLaws.{Setting}
use Rattle.planner.proofs.products.set_axis.Given as goal

abbrev pub invariant-loop-x : goal.invariant-loop-x
invariant-loop-x l =
    (l.p ≡ (l.x * l.v) % l.n) × (l.p < l.n) × Setting l.n l.v l.axis l.x l.initial.products l.products
