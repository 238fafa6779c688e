-- `Lattice::record_owners` meets its contract: the table has the owners among the rows passed.
use Rattle.std.proofs.Common.{◌≡◌, length}
use Rattle.planner.specs.Sizes.{largest_modulus}
use Rattle.planner.proofs.rule.RuleIndex.{Owned}
use Rattle.planner.proofs.lattice.Lattice.record_owners.Given as goal

abbrev pub invariant-loop-i : goal.invariant-loop-i
invariant-loop-i l = (length l.owners ≡ largest_modulus) × Owned l.self (length l.yielded) l.owners
