-- `refusals::check_refusal`: past its conditions the rows are a valid list, and n and z a pair for it (valid_list_pair).
use mathlib.Core.Path.{sym}
use Rattle.planner.proofs.CallLaws.{valid_list_pair}
use Rattle.planner.proofs.refusals.check_refusal.Goals as goal

pub invariant_of-result : goal.invariant_of-result
invariant_of-result c =
    let s = c.args in
    record { valid = rw c.in_ok-named.ensures (valid_list_pair s.plan s.d s.rows.now s.n s.z.now (sym c.in_ok-check_list_pair.ensures)).0 }

pub returns-clause-pair : goal.returns-clause-pair
returns-clause-pair c =
    let s = c.args in
    (valid_list_pair s.plan s.d s.rows.now s.n s.z.now (sym c.in_ok-check_list_pair.ensures)).1
