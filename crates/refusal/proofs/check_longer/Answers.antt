-- `refusal::check_longer` meets its contract: its conditions one after the other (longer_parts).
use Rattle.std.proofs.Common.{rules}
use Rattle.rank1.proofs.LongerLaws.{longer_parts}
use Rattle.refusal.proofs.check_longer.Goals as goal

pub returns-in_err-check_different : goal.returns-in_err-check_different
returns-in_err-check_different c =
    let e = longer_parts c.args.plan c.args.d c.args.rows.now c.args.row.now in
    search (rules, e)
