-- `corners::fill` meets its contract: the first i rows of the list stand at the front, and the next one in `row`.
use mathlib.Core.Path.{◌≡◌}
use mathlib.Core.List.{[]}
use Prim.Native.Nat.{◌<◌, ◌*◌}
use lib.ListN.{length, get_or, take}
use Rattle.rank1.specs.Index.{index_list, run_of}
use Rattle.rank1.proofs.CornerLaws.{corner_rows}
use Rattle.lists.proofs.corners.fill.Given as goal

abbrev pub invariant-loop-i : goal.invariant-loop-i
invariant-loop-i l = record {
  more : l.i < length (corner_rows l.d (index_list l.d l.corners));
  next : get_or (corner_rows l.d (index_list l.d l.corners)) l.i [] ≡ take l.d l.row;
  so_far : take (l.i * l.d) l.rows ≡ run_of (take l.i (corner_rows l.d (index_list l.d l.corners)));
}
