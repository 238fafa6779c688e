-- `refusals::gather_refusal`: where spreading is not refused, the arguments and the sums are what condition 11 asks for (spread_clear).
use mathlib.Core.Path.{sym}
use lib.ListN.{length}
use Rattle.planner.proofs.refusals.HandedLaws.{SpreadHanded, spread_clear}
use Rattle.planner.proofs.refusals.gather_refusal.Goals as goal
use Rattle.planner.proofs.refusals.gather_refusal.Goals.{In_ok-rows}

handed : (c : In_ok-rows) → let a = c.args in SpreadHanded a.plan a.d a.rows.now a.n a.z.now a.terms (length a.sums.now)
handed c =
    let a = c.args in
    spread_clear a.plan a.d a.rows.now a.n a.z.now a.terms (length a.sums.now) (sym c.in_ok-rows.ensures.number)

pub sums_refusal-requires-clause-sums_len : goal.sums_refusal-requires-clause-sums_len
sums_refusal-requires-clause-sums_len c =
    (handed (goal.at.sums_refusal-requires-clause-sums_len c).In_ok-rows).sum_room
