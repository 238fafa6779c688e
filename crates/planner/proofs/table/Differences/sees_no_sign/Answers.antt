-- `Differences::sees_no_sign`: plan A sees no sign (`table-all`, by `sign-all`), a whole table that stays itself shows that the rule sees none
-- (`table-closed`, by `sign-closed`).
use mathlib.Core.Path.{◌≡◌, ap}
use Rattle.std.proofs.Common.{rules}
use Rattle.rank1.specs.Named.{plan_number}
use Rattle.rank1.specs.declared.Plan.TheVariants.{A}
use Rattle.planner.proofs.flips.ClosedLaws.{table-all, table-closed}
use Rattle.planner.proofs.table.Differences.sees_no_sign.Goals as goal

pub returns-then-eq : goal.returns-then-eq
returns-then-eq c _ =
    let is : c.args.plan ≡ A = search rules in
    table-all (plan_number c.args.plan) c.args.j c.args.self.now (ap plan_number is)

pub returns : goal.returns
returns c e =
    table-closed (plan_number c.args.plan) c.args.j c.args.self.now c.if-not-self.false (c.closed_under.ensures e)
