-- `corners::next` meets its contract: from component j on stand zeros, and at none of these components could the row be raised.
use mathlib.Core.Path.{◌≡◌, sym, ◌∙◌, ap, subst}
use mathlib.Core.Logic.{⊎_elim}
use mathlib.Core.Bool.{true≢false}
use mathlib.Core.List.{List, Memᴰ}
use Prim.Native.Nat.{ℕ, ◌-◌}
use native.Mathlib.Omega.{arith}
use lib.Dec.{T}
use lib.IntN.{ℤ, pos, ◌+ℤ◌}
use lib.ListN.{length, get_or, set}
use mir.Syntax.{w16}
use mir.Val.{to_z, of_z}
use Rattle.rank1.specs.Index.{row_count, index_list}
use Rattle.rank1.specs.Valid.{Nonnegative}
use Rattle.rank1.proofs.TestLaws.{true_holds, false_fails}
use Rattle.rank1.proofs.Order.{compared}
use Rattle.rank1.proofs.IndexLaws.{member_length}
use Rattle.rank1.specs.Corners.{from_zero, under_some}
use Rattle.lists.specs.Inner.{NextRow}
use Rattle.rank1.proofs.UnderLaws.{some_unsigned}
use Rattle.lists.proofs.corners.SignLaws.{up_fits, up_stored}
use Rattle.lists.proofs.corners.NextLaws.{raised, cleared_none, clear_at, raised-length, before-zeros, raise_turn, component_small, some_small, last_is, next_is}
use Rattle.lists.proofs.corners.next.Goals as goal
use Rattle.lists.proofs.corners.next.Goals.{After-under_some, In-loop-j, Start}

pub loop-j-init : goal.loop-j-init
loop-j-init c = (sym (cleared_none c.args.row.now), λ i l h t. omega arith)

-- the component to raise is from 0 to 255
small : (c : In-loop-j) → T (from_zero (get_or c.loop-j.row (c.loop-j.j - 1) (pos 0)) (pos 255))
small c =
    let k = c.args.row.now in
    let j = c.loop-j.j in
    let cs = index_list (length k) c.args.corners.now in
    rw (before-zeros c.loop-j.row k j (omega arith) c.loop-j.auto.j c.loop-j.invariant.0)
    (component_small k (length k) (j - 1) (some_small cs (length k) c.requires.valid.small k c.requires.within) (omega arith))

pub overflow_add-row : goal.overflow_add-row
overflow_add-row c = up_fits (get_or c.loop-j.row (c.loop-j.j - 1) (pos 0)) (small (goal.at.overflow_add-row c).In-loop-j)

-- raised, it gives the raised row
stored : (c : In-loop-j) → set c.loop-j.row (c.loop-j.j - 1) (to_z w16 (of_z w16 (to_z w16 (of_z w16 (get_or c.loop-j.row (c.loop-j.j - 1) (pos 0))) +ℤ pos 1))) ≡ raised (c.loop-j.j - 1) c.args.row.now
stored c =
    let l = c.loop-j in
    ap (set l.row (l.j - 1)) (up_stored (get_or l.row (l.j - 1) (pos 0)) (small c))
    ∙ raise_turn l.row c.args.row.now l.j (omega arith) l.auto.j l.invariant.0

-- what the call says of the raised row
found : (c : After-under_some) → c.under_some.result ≡ under_some (index_list (length c.args.row.now) c.args.corners.now) (raised (c.loop-j.j - 1) c.args.row.now)
found c =
    let k = c.args.row.now in
    let xs = c.args.corners.now in
    let r = raised (c.loop-j.j - 1) k in
    c.under_some.ensures
    ∙ ap (λ (h : List ℤ). under_some (index_list (length h) xs) h) (stored c.before.before)
    ∙ ap (λ (n : ℕ). under_some (index_list n xs) r) (raised-length (c.loop-j.j - 1) k)

-- ---- the corners have the row's length, and the row no negative component
unsigned : (s : Start) → Nonnegative s.args.row.now
unsigned s = some_unsigned (index_list (length s.args.row.now) s.args.corners.now) s.args.row.now s.requires.within

sizes : (s : Start) (c : List ℤ) → Memᴰ c (index_list (length s.args.row.now) s.args.corners.now) → length c ≡ length s.args.row.now
sizes s c m =
    let k = s.args.row.now in
    let xs = s.args.corners.now in
    member_length (length k) (row_count (length k) xs) xs c (omega (arith, s.requires.valid.whole)) m

pub returns-then-under_some : goal.returns-then-under_some
returns-then-under_some c =
    let l = c.loop-j in
    let k = c.args.row.now in
    let cs = index_list (length k) c.args.corners.now in
    let s = (goal.at.returns-then-under_some c).Start in
    let next = next_is cs k (unsigned s) (sizes s) (l.j - 1) (omega arith)
    (true_holds (under_some cs (raised (l.j - 1) k)) (sym (found (goal.at.returns-then-under_some c).After-under_some) ∙ c.if-under_some.true))
    (λ i h. l.invariant.1 i (omega arith)) in
    record {
      more = λ e. subst (NextRow cs k) (sym (stored (goal.at.returns-then-under_some c).In-loop-j)) next;
      none = λ e. absurd (true≢false e);
    }

pub loop-j-preserved : goal.loop-j-preserved
loop-j-preserved c =
    let l = c.loop-j in
    let k = c.args.row.now in
    let cs = index_list (length k) c.args.corners.now in (
      ap (λ (r : List ℤ). set r (l.j - 1) (pos 0)) (stored (goal.at.loop-j-preserved c).In-loop-j) ∙ clear_at (l.j - 1) k (omega arith),
      λ i h m t.
          ⊎_elim
          (λ e. l.invariant.1 i (omega arith) m t)
          (⊎_elim
          (λ e. false_fails (under_some cs (raised i k)) (ap (λ (n : ℕ). under_some cs (raised n k)) (sym e) ∙ sym (found (goal.at.loop-j-preserved c).After-under_some) ∙ c.if-under_some.false) t)
          (λ e. omega arith))
          (compared (l.j - 1) i),
    )

pub returns : goal.returns
returns c =
    let k = c.args.row.now in
    let cs = index_list (length k) c.args.corners.now in
    record {
      more = λ e. absurd (true≢false (sym e));
      none = λ e. last_is cs k (unsigned (goal.at.returns c).Start) (sizes (goal.at.returns c).Start) (λ i h. c.loop-j.invariant.1 i (omega arith) h);
    }
