-- `table::hash`: x is a remainder.
use Rattle.std.proofs.Common.{◌<◌}
use Rattle.planner.specs.Sizes.{slot_count}
use Rattle.planner.proofs.table.hash.Given as goal

abbrev pub invariant-loop-y : goal.invariant-loop-y
invariant-loop-y l = l.x < slot_count
