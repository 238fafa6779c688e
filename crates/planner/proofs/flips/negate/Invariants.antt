-- `flips::negate`: the components before the one at hand have the other sign, the others are as they were.
use mathlib.Core.Path.{◌≡◌}
use Prim.Native.Nat.{ℕ, ◌<◌, ◌≤◌}
use lib.IntN.{pos, neg_ℤ}
use lib.ListN.{get_or}
use Rattle.planner.proofs.flips.negate.Given as goal

abbrev pub invariant-loop-x : goal.invariant-loop-x
invariant-loop-x l =
    ((k : ℕ) → k < l.x-index → get_or l.h k (pos 0) ≡ neg_ℤ (get_or l.initial.h k (pos 0)))
    × ((k : ℕ) → l.x-index ≤ k → get_or l.h k (pos 0) ≡ get_or l.initial.h k (pos 0))
