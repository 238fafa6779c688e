-- `corners::under_some` meets its contract: the chunks are the corners (`chunk_rows`).
use Rattle.std.proofs.Common.{rules, tests, length, ◌∙◌}
use Rattle.std.proofs.lemmas.Iterator.Search.{any_from_yields_List}
use Rattle.rank1.specs.Index.{index_list}
use Rattle.rank1.specs.Corners.{under}
use Rattle.refusal.proofs.ChunkLaws.{chunk_rows, any_is}
use Rattle.lists.proofs.corners.under_some.Goals as goal

pub returns : goal.returns
returns c =
    let row = c.args.row.now in
    let xs = c.args.corners.now in
    let d = length row in
    any_from_yields_List (under row) _ _ c.any.result c.any.ensures.ran
    (chunk_rows d c.requires c.chunks_exact.result xs c.chunks_exact.ensures.size c.chunks_exact.ensures.rest) (λ x b q k. search (rules, tests))
    ∙ any_is (under row) (index_list d xs)
