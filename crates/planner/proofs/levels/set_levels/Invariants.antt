-- `planner::levels::set_levels` meets its contract. The invariant: the levels before j are set.
use mathlib.Core.Path.{◌≡◌}
use Rattle.planner.specs.Levels.{LevelsTo}
use Rattle.planner.proofs.levels.set_levels.Given as goal

abbrev pub invariant-loop-j : goal.invariant-loop-j
invariant-loop-j l = LevelsTo l.rows.d l.top l.j l.rows.numbers.now l.list.levels l.list.sizes × (l.list ≡ record l.initial.list { levels = l.list.levels; sizes = l.list.sizes })
