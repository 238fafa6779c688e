-- `rounds::lower`: the vector found last is first below some bound, and the work serves the next round (Lowering). Measure: its largest
-- component, which falls (lower_less). A round that finds nothing ends them at the gentlest vector (lower_ends).
use mathlib.Core.Path.{◌≡◌}
use lib.ListN.{length}
use Rattle.rank1.specs.Search.{largest}
use Rattle.planner.proofs.rounds.RoundLaws.{Lowering}
use Rattle.planner.proofs.rounds.lower.Given as goal

abbrev pub invariant-loop : goal.invariant-loop
invariant-loop l = Lowering l.s l.z l.work × (length l.best ≡ l.s.task.rows.d)

abbrev pub decreases-loop : goal.decreases-loop
decreases-loop l = largest l.z
