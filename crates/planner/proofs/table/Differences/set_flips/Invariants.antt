-- `Differences::set_flips`: the marks of the axes before j, which stand in the part that is lent, are right.
use Rattle.rank1.specs.Named.{plan_number}
use Rattle.planner.specs.Table.{MarkedBelow}
use Rattle.planner.proofs.table.Differences.set_flips.Given as goal

abbrev pub invariant-loop-j : goal.invariant-loop-j
invariant-loop-j l = MarkedBelow (plan_number l.plan) l.j l.self l.flip-items
