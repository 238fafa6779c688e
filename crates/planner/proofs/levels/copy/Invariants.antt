-- `levels::copy`: the numbers before j are the row's.
use Rattle.std.proofs.Common.{◌≡◌, ℕ, ◌<◌, length, get_or, pos}
use Rattle.planner.proofs.levels.copy.Given as goal

abbrev pub invariant-loop-j : goal.invariant-loop-j
invariant-loop-j l = (length l.places ≡ length l.row) × ((k : ℕ) → k < l.j → get_or l.places k (pos 0) ≡ get_or l.row k (pos 0))
