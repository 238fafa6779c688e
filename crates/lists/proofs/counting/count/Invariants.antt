-- `counting::count` meets its contract. The invariant: the record is that of the first rows, as many as it has, and the rows that are left
-- are those behind them.
use mathlib.Core.Path.{◌≡◌}
use Prim.Native.Nat.{◌≤◌, ◌*◌}
use lib.ListN.{length, drop}
use Rattle.std.specs.Slice.Iter.{chunks_exact_rest, chunks_exact_size}
use Rattle.rank1.specs.Index.{rows_of}
use Rattle.rank1.specs.Named.{plan_number}
use Rattle.lists.specs.Inner.{summed}
use Rattle.lists.proofs.counting.count.Given as goal

abbrev pub invariant-loop-row : goal.invariant-loop-row
invariant-loop-row l = record {
  can_next : (goal.iterator-loop-row).can_next l.row-iterator;
  is_finite : (goal.iterator-loop-row).is_finite l.row-iterator;
  size : chunks_exact_size l.row-iterator ≡ l.d;
  within : l.tally.m * l.d ≤ length l.rows;
  left : chunks_exact_rest l.row-iterator ≡ drop (l.tally.m * l.d) l.rows;
  so_far : l.tally ≡ summed (plan_number l.plan) l.d (rows_of l.d l.tally.m l.rows);
}
