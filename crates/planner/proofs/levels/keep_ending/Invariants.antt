-- `planner::levels::keep_ending` meets its contract. The invariant: the numbers of the rows that passed the test stand at the front of
-- `out` (`keep-turn`).
use lib.ListN.{length}
use Rattle.planner.proofs.levels.LevelLaws.{Keeping}
use Rattle.planner.proofs.levels.keep_ending.Given as goal

abbrev pub invariant-loop-row : goal.invariant-loop-row
invariant-loop-row l = Keeping l.rows.d l.fn.j (length l.yielded) l.rows.numbers.now l.initial.out l.out l.at
