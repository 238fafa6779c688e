-- `corners::next` meets its contract: from component j on stand zeros, and at none of these components could the row be raised.
use mathlib.Core.Path.{◌≡◌}
use Prim.Native.Nat.{ℕ, ◌≤◌, ◌<◌}
use lib.Dec.{T}
use lib.ListN.{length}
use Rattle.rank1.specs.Index.{index_list}
use Rattle.rank1.specs.Corners.{under_some}
use Rattle.lists.proofs.corners.NextLaws.{raised, cleared}
use Rattle.lists.proofs.corners.next.Given as goal

abbrev pub invariant-loop-j : goal.invariant-loop-j
invariant-loop-j l =
    (l.row ≡ cleared l.j l.initial.row)
    × ((i : ℕ) → l.j ≤ i → i < length l.initial.row → T (under_some (index_list (length l.initial.row) l.corners) (raised i l.initial.row)) → ⊥)
