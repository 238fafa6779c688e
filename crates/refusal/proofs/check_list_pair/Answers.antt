-- `refusal::check_list_pair` meets its contract: the first of the conditions of the list and then of the pair.
use Rattle.std.proofs.Common.{rules}
use Rattle.rank1.specs.Refusal.{list_conditions, pair_conditions}
use Rattle.rank1.proofs.RefusalLaws.{first_of-append}
use Rattle.refusal.proofs.check_list_pair.Goals as goal

pub returns-in_err-check_list : goal.returns-in_err-check_list
returns-in_err-check_list c =
    let s = c.args in
    let e = first_of-append (list_conditions s.plan s.d s.rows.now) (pair_conditions s.d s.n s.z.now) in
    search (rules, e)
