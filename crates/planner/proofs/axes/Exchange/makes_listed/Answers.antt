-- `axes::Exchange::makes_listed` meets its contract: the row that is looked for is the row with its components exchanged (`exchanged`).
use Rattle.std.proofs.Common.{arith, subst, sym, ap, ◌∙◌, ◌≡◌, List, ℤ, length, ℕ}
use mathlib.Core.List.{Memᴰ}
use Rattle.std.specs.List.{swap as list_swap}
use Rattle.rank1.specs.Axes.{swap}
use Rattle.rank1.specs.Tests.{any, same_row}
use Rattle.rank1.specs.Index.{index_list}
use Rattle.rank1.proofs.TestLaws.{decided_true, decides_among}
use Rattle.planner.specs.Lists.{rows_in}
use Rattle.planner.proofs.axes.AxisLaws.{exchanged}
use Rattle.planner.proofs.axes.Exchange.makes_listed.Goals as goal

pub returns : goal.returns
returns c e =
    let k = c.args.row.now in
    let i = c.args.self.i in
    let j = c.args.self.j in
    let rows = c.args.rows.now in
    let h = c.swap.new.self in
    let copied : c.copy_from_slice.new.self ≡ k = c.copy_from_slice.ensures.after in
    let same : h ≡ swap i j k =
    c.swap.ensures.after ∙ ap (λ (l : List ℤ). list_swap l i j) copied
    ∙ exchanged i j k (omega (arith, c.requires.row_len, c.requires.i_lt_d)) (omega (arith, c.requires.row_len, c.requires.i_lt_d)) in
    let long : length h ≡ rows.d = c.swap.ensures.len ∙ ap (length {A = ℤ}) copied ∙ c.requires.row_len in
    let listed = (decided_true (any (same_row h) (index_list (length h) rows.numbers.now)) (decides_among h (index_list (length h) rows.numbers.now))).0 (sym c.stands.ensures ∙ e) in
    subst (λ (l : List ℤ). Memᴰ l (rows_in rows)) same (subst (λ (n : ℕ). Memᴰ h (index_list n rows.numbers.now)) long listed)
