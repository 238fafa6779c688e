-- `lists::tally_list` meets its contract: past the refusals the record is counted row by row (recount-summed).
use mathlib.Core.Path.{◌≡◌, sym, ◌∙◌, ap}
use Prim.Native.Nat.{ℕ}
use borrow.Author.Rules.{rules}
use Rattle.rank1.specs.Index.{index_list}
use Rattle.rank1.specs.Named.{plan_number}
use Rattle.rank1.specs.Refusal.{first_of, list_conditions, tally_refusal}
use Rattle.rank1.proofs.ValidLaws.{valid_list}
use Rattle.rank1.proofs.BoundLaws.{valid_rows}
use Rattle.lists.specs.Inner.{summed}
use Rattle.lists.proofs.RecountLaws.{recount-summed}
use Rattle.lists.proofs.tally_list.Goals as goal

pub returns : goal.returns
unfolding tally_refusal
returns c =
    let s = c.args in
    let ks = index_list s.d s.rows.now in
    let clear : first_of (list_conditions s.plan s.d s.rows.now) ≡ 0 = search rules in
    let named : plan_number c.in_ok-named.named ≡ s.plan = c.in_ok-named.ensures in (
      search rules,
      c.count.ensures ∙ ap (λ (p : ℕ). summed p s.d ks) named ∙ sym (recount-summed s.plan s.d ks (valid_rows s.plan s.d s.rows.now (valid_list s.plan s.d s.rows.now clear))),
    )
