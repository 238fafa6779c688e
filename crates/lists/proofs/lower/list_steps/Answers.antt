-- `lower::list_steps` meets its contract: the chunks are the rows of the list (`chunk_rows`), and `row_steps` tells of each.
use Rattle.std.proofs.Common.{rules, tests, refl, zero-le, List, [], ℤ, true, false, length}
use Rattle.std.proofs.lemmas.Iterator.{cases_from_all}
use Rattle.std.proofs.lemmas.Bool.{MatchBool-at_true, MatchBool-at_false}
use Rattle.rank1.specs.Tests.{Decides}
use Rattle.rank1.specs.Index.{index_list}
use Rattle.refusal.proofs.ChunkLaws.{chunk_rows}
use Rattle.lists.specs.Inner.{RowSteps}
use Rattle.lists.proofs.lower.StepLaws.{as_listed}
use Rattle.lists.proofs.lower.list_steps.Goals as goal

pub returns : goal.returns
returns c =
    let d = c.args.d in
    let xs = c.args.rows.now in
    let Here : List ℤ → Type 0 = λ k. RowSteps (index_list (length k) xs) k in
    let told = cases_from_all _ _ c.all.result Here (λ k. Here k → ⊥) c.all.ensures.ran
    (chunk_rows d c.requires.0 c.chunks_exact.result xs c.chunks_exact.ensures.size c.chunks_exact.ensures.rest)
    (λ x q k. (search (rules, tests), let one : Decides true (Here x.now) = search (rules, tests) in one.yes refl))
    (λ x q k. let one : Decides false (Here x.now) = search (rules, tests) in one.no refl) in
    record {
      yes = λ e i l. (as_listed d c.requires.0 xs i l).0 (MatchBool-at_true _ _ e told i [] zero-le l);
      no = λ e all. let one = MatchBool-at_false _ _ e told in one.2 [] ((as_listed d c.requires.0 xs one.0 one.1).1 (all one.0 one.1));
    }
