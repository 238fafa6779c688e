-- `planner::axes::set_swaps` meets its contract. The invariant: the axes that are marked can change places; at the start none is.
use Rattle.planner.specs.Lists.{rows_in}
use Rattle.planner.specs.Exchange.{Swaps}
use Rattle.planner.proofs.axes.set_swaps.Given as goal

abbrev pub invariant-loop-j : goal.invariant-loop-j
invariant-loop-j l = Swaps l.rows.d (rows_in l.rows) l.swaps
