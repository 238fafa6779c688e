-- `Search::complete`: the values of component at below v are passed (PassedOf). Measure: the components left to fix.
use Rattle.std.proofs.Common.{◌-◌}
use Rattle.planner.proofs.search.SearchSteps.{PassedOf}
use Rattle.planner.proofs.search.Search.+complete.Given as goal

abbrev pub decreases-complete : goal.decreases-complete
decreases-complete l = l.self.now.task.rows.d - l.at

abbrev pub invariant-loop-v : goal.invariant-loop-v
invariant-loop-v l = PassedOf l.self l.at l.initial.z l.initial.work l.z l.work l.v
