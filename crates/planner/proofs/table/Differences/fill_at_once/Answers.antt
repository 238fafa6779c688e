-- `Differences::fill_at_once`: where all members are there, their pairs come to the table of the list (`found-once`).
use Rattle.planner.proofs.fill.FillLaws.{none_found, found-once}
use Rattle.planner.proofs.table.Differences.fill_at_once.Goals as goal

pub returns-then-members : goal.returns-then-members
returns-then-members c =
    let t = c.args.self.now in
    found-once c.args.rows.now c.gather-members.result _ c.pair_all.new.self c.gather-members.ensures.known c.requires.0 c.pair_all.ensures
    (λ h m. absurd (none_found t c.requires.1 h m)) c.gather-members.ensures.all
