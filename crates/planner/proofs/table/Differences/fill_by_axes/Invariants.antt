-- `Differences::fill_by_axes`: the table has differences of the list.
use Rattle.planner.specs.Table.{FoundOf}
use Rattle.planner.proofs.table.Differences.fill_by_axes.Given as goal

abbrev pub invariant-loop-axis : goal.invariant-loop-axis
invariant-loop-axis l = FoundOf l.rows l.self
