-- `axes::Exchange::keeps` meets its contract: each row, exchanged, is listed.
use Rattle.std.proofs.Common.{rules, tests}
use mathlib.Core.List.{Memᴰ}
use Rattle.rank1.specs.Axes.{swap}
use Rattle.planner.specs.Lists.{rows_in}
use Rattle.planner.proofs.RowLaws.{all_have}
use Rattle.planner.proofs.axes.Exchange.keeps.Goals as goal

pub returns : goal.returns
returns c =
    all_have c.args.rows.now (search rules) c.all.ensures.ran (λ k. Memᴰ (swap c.args.self.i c.args.self.j k) (rows_in c.args.rows.now))
    (λ k f h. search (rules, tests))
