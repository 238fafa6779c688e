-- `planner::axes::set_swaps_of` meets its contract. The invariant: the axes that are marked can change places.
use Rattle.planner.specs.Lists.{rows_in}
use Rattle.planner.specs.Exchange.{Swaps}
use Rattle.planner.proofs.axes.set_swaps_of.Given as goal

abbrev pub invariant-loop-i : goal.invariant-loop-i
invariant-loop-i l = Swaps l.rows.d (rows_in l.rows) l.swaps
