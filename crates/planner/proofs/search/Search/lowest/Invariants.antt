-- `Search::lowest`: the start of the first component; of a later one what was found among the axes before i.
use Rattle.planner.specs.Stage.{Lowest}
use Rattle.planner.proofs.search.Search.lowest.Given as goal

abbrev pub invariant-loop-i : goal.invariant-loop-i
invariant-loop-i l = Lowest l.self l.at l.z l.low
