-- `Differences::fill_axis`: what the pairs add to differences of the list are differences of the list (`found-grown`).
use Rattle.planner.proofs.fill.FillLaws.{found-grown}
use Rattle.planner.proofs.table.Differences.fill_axis.Goals as goal

pub returns : goal.returns
returns c =
    let given = c.requires.1 in
    found-grown c.args.rows.now c.gather-members.result c.args.self.now c.pair_all.new.self c.gather-members.ensures.known given.axes c.pair_all.ensures
    given.found
