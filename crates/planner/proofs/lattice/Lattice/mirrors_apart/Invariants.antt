-- `Lattice::mirrors_apart` meets its contract: no mirror passed, from number 1 on, has the residue of a row that the plan keeps
-- apart from its own.
use Rattle.std.proofs.Common.{◌≡◌, true, ℕ, ◌+◌, ◌<◌, length}
use Rattle.planner.proofs.rule.RuleIndex.{FreeBelow, RowFree}
use Rattle.planner.proofs.lattice.Lattice.mirrors_apart.Given as goal

abbrev pub invariant-loop-r : goal.invariant-loop-r
invariant-loop-r l = (l.apart ≡ true) × FreeBelow l.self l.i (l.r-index + 1)

abbrev pub invariant-rows : goal.invariant-rows
invariant-rows l = (l.apart ≡ true) × ((j : ℕ) → j < length l.yielded → RowFree l.self j)
