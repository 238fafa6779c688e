-- `refusal::stands` meets its contract: the chunks are the rows of the run (`chunk_rows`). There is none of no components.
use Rattle.std.proofs.Common.{rules, tests, length, ◌∙◌}
use Rattle.std.proofs.lemmas.Iterator.Search.{any_from_yields_List}
use Rattle.rank1.specs.Tests.{same_row}
use Rattle.rank1.specs.Index.{index_list}
use Rattle.rank1.proofs.TestLaws.{slices_same}
use Rattle.refusal.proofs.ChunkLaws.{chunk_rows, any_is}
use Rattle.refusal.proofs.stands.Goals as goal

pub returns-then-not-is_empty : goal.returns-then-not-is_empty
returns-then-not-is_empty c =
    let row = c.args.row.now in
    let xs = c.args.rows.now in
    let d = length row in
    any_from_yields_List (same_row row) _ _ c.any.result c.any.ensures.ran
    (chunk_rows d (search rules) c.chunks_exact.result xs c.chunks_exact.ensures.size c.chunks_exact.ensures.rest)
    (λ x b q k. let same = slices_same row x.now in search (rules, tests, same))
    ∙ any_is (same_row row) (index_list d xs)
