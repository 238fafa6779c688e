-- `Differences::closed_under`: the flip can be asked for at each row (`row-storable`), and `all` finds each there.
use Rattle.std.proofs.Common.{rules, tests, arith}
use Rattle.rank1.specs.Axes.{flip}
use Rattle.rank1.specs.Differences.{Has}
use Rattle.planner.specs.Table.{rows_found}
use Rattle.planner.proofs.RowLaws.{served, all_of}
use Rattle.planner.proofs.table.TableLaws.{row-storable, found_yielded}
use Rattle.planner.proofs.table.Differences.closed_under.Goals as goal

pub all-requires-clause-callable : goal.all-requires-clause-callable
all-requires-clause-callable c =
    let t = c.args.self.now in
    served (found_yielded t (omega arith) (search rules)) (λ k q h. search (rules, tests)) (λ k m. let fits = row-storable t (omega arith) m in search (rules, fits))

pub returns : goal.returns
returns c e =
    let t = c.args.self.now in
    all_of (found_yielded t (omega arith) (search rules)) c.all.ensures.ran (λ k. Has (rows_found t) (flip c.args.j k)) (λ k f h. search (rules, tests)) e
