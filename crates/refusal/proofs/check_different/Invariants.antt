-- `refusal::check_different` meets its contract. The invariant: two of the rows that are left are equal just where two of all are. Measure:
-- the numbers that are left.
use Rattle.std.proofs.Common.{◌≡◌, length}
use Rattle.rank1.specs.Index.{index_list}
use Rattle.rank1.specs.Refusal.{repeats}
use Rattle.refusal.proofs.check_different.Given as goal

abbrev pub invariant-loop-row : goal.invariant-loop-row
invariant-loop-row l = repeats (index_list l.d l.rest) ≡ repeats (index_list l.d l.rows)

abbrev pub decreases-loop-row : goal.decreases-loop-row
decreases-loop-row l = length l.rest
