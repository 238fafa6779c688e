-- `lower::row_steps` meets its contract: `all` holds just where every component allows it, each by its place.
use Rattle.std.proofs.Common.{rules, length}
use Rattle.std.proofs.iter.runs.Sources.{ranges}
use Rattle.rank1.specs.Index.{index_list}
use Rattle.lists.proofs.lower.row_steps.Goals as goal

pub returns : goal.returns
returns c =
    let k = c.args.row.now in
    let ks = index_list (length k) c.args.rows.now in
    record {
      yes = λ e j l. let place = c.all.ensures.runs.0.reads j 0 in search (rules, ranges, place);
      no = λ e all. search (rules, ranges);
    }
