-- `products::prepare_rows`: the rows with a valid pair and the products of its vector are ready (`ready_whole`).
use Rattle.planner.proofs.CallLaws.{ready_whole}
use Rattle.planner.proofs.products.prepare_rows.Goals as goal

pub returns : goal.returns
returns c = ready_whole c.args.rows.now c.requires.0 c.requires.1.size c.largest.ensures c.prepare.ensures
