-- `planner::search_vector` meets its contract: the moduli that are run are n alone.
use Rattle.planner.proofs.SearchCalls.{vector_search}
use Rattle.planner.proofs.search_vector.Goals as goal

pub search_between-requires : goal.search_between-requires
search_between-requires c = λ l. l

pub returns : goal.returns
returns c =
    let s = c.args in
    vector_search s.plan s.d s.rows.now s.n s.z.now _ c.search_between.result c.search_between.ensures
