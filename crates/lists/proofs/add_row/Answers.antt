-- `lists::add_row` meets its contract: 1, then 2 to 5 of the longer list, then 3 for the record; then the record with the row
-- (longer_is).
use mathlib.Core.Path.{◌≡◌, ◌∙◌, ap}
use mathlib.Core.List.{[], ◌∷◌}
use Prim.Native.Nat.{ℕ}
use native.Mathlib.Omega.{arith}
use borrow.Author.Rules.{rules}
use lib.ListN.{length}
use Rattle.rank1.specs.Index.{row_count, index_list}
use Rattle.rank1.specs.Named.{plan_number}
use Rattle.rank1.specs.Tally.{recount, same_tally}
use Rattle.rank1.specs.Refusal.{first_of, longer_conditions, other_tally, add_refusal}
use Rattle.rank1.proofs.RefusalLaws.{first_of-append}
use Rattle.rank1.proofs.TestLaws.{tallies_same}
use Rattle.rank1.proofs.LongerLaws.{Longer, longer}
use Rattle.lists.specs.Inner.{summed, more}
use Rattle.lists.proofs.RecountLaws.{counted_is, longer_is, counted_addable}
use Rattle.lists.proofs.add_row.Goals as goal
use Rattle.lists.proofs.add_row.Goals.{After-count-counted}

pub returns-in_err-check_longer : goal.returns-in_err-check_longer
unfolding add_refusal
returns-in_err-check_longer c =
    let s = c.args in
    let parts = first_of-append (longer_conditions s.plan s.d s.rows.now s.row.now) (other_tally s.tally (recount s.plan s.d (index_list s.d s.rows.now)) ∷ []) in
    search (rules, parts)

-- ---- past conditions 1 to 5: the list and its record
valid : (c : After-count-counted) → Longer c.args.plan c.args.d c.args.rows.now c.args.row.now
valid c =
    let clear : first_of (longer_conditions c.args.plan c.args.d c.args.rows.now c.args.row.now) ≡ 0 = search rules in
    longer c.args.plan c.args.d c.args.rows.now c.args.row.now clear

counted : (c : After-count-counted) → c.count-counted.result ≡ summed c.args.plan c.args.d (index_list c.args.d c.args.rows.now)
counted c =
    let named : plan_number c.in_ok-named.named ≡ c.args.plan = c.in_ok-named.ensures in
    c.count-counted.ensures ∙ ap (λ (p : ℕ). summed p c.args.d (index_list c.args.d c.args.rows.now)) named

recounted : (c : After-count-counted) → c.count-counted.result ≡ recount c.args.plan c.args.d (index_list c.args.d c.args.rows.now)
recounted c = counted_is c.args.plan c.args.d c.args.rows.now c.args.row.now (valid c) c.count-counted.result (counted c)

-- whether the record is the list's own: 3 where it is not
pub returns-then-ne : goal.returns-then-ne
unfolding add_refusal
returns-then-ne c =
    let s = c.args in
    let own = recount s.plan s.d (index_list s.d s.rows.now) in
    let parts = first_of-append (longer_conditions s.plan s.d s.rows.now s.row.now) (other_tally s.tally own ∷ []) in
    let other = tallies_same s.tally c.count-counted.result ∙ ap (same_tally s.tally) (recounted (goal.at.returns-then-ne c).After-count-counted) in
    search (rules, parts, other)

pub plus-requires : goal.plus-requires
plus-requires c =
    let s = c.args in
    let at = (goal.at.plus-requires c).After-count-counted in
    let v = valid at in
    counted_addable s.plan s.d s.rows.now (row_count s.d s.rows.now) c.count-counted.result s.row.now (omega (arith, v.few_rows)) v.valid.few_axes v.fits v.long (counted at)

pub returns : goal.returns
unfolding add_refusal
returns c =
    let s = c.args in
    let at = (goal.at.returns c).After-count-counted in
    let own = recount s.plan s.d (index_list s.d s.rows.now) in
    let parts = first_of-append (longer_conditions s.plan s.d s.rows.now s.row.now) (other_tally s.tally own ∷ []) in
    let same = tallies_same s.tally c.count-counted.result ∙ ap (same_tally s.tally) (recounted at) in
    let named : plan_number c.in_ok-named.named ≡ s.plan = c.in_ok-named.ensures in (
      search (rules, parts, same),
      longer_is s.plan s.d s.rows.now s.row.now (valid at) c.count-counted.result c.plus.result (counted at)
          (c.plus.ensures ∙ ap (λ (p : ℕ). more p (length s.row.now) c.count-counted.result s.row.now) named),
    )
