-- `lists::nonzero_mask`: the bits set so far, and the components still to come that are not 0, make up those of the components that count.
use mathlib.Core.Path.{◌≡◌}
use Prim.Native.Nat.{◌<◌, ◌+◌, ◌^◌}
use lib.Count.{ones}
use lib.ListN.{drop}
use Rattle.rank1.specs.Index.{nonzeros}
use Rattle.lists.specs.Rows.{on_axes}
use Rattle.lists.proofs.nonzero_mask.Given as goal

abbrev pub invariant-loop-j : goal.invariant-loop-j
invariant-loop-j l =
    (l.counted ≡ on_axes l.row) × (l.mask < 2 ^ l.j) × (ones l.mask + nonzeros (drop l.j l.counted) ≡ nonzeros l.counted)
