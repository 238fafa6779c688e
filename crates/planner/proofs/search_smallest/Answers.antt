-- `planner::search_smallest` meets its contract: the moduli that are run are those from 1 to the ceiling.
use native.Mathlib.Omega.{arith}
use Rattle.planner.proofs.SearchCalls.{smallest_search}
use Rattle.planner.proofs.search_smallest.Goals as goal

pub search_between-requires : goal.search_between-requires
search_between-requires c = λ _. omega arith

pub returns : goal.returns
returns c =
    let s = c.args in
    smallest_search s.plan s.d s.rows.now s.ceiling s.z.now _ c.search_between.result c.search_between.ensures
