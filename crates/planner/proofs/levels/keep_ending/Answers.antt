-- `planner::levels::keep_ending` meets its contract. The invariant: the numbers of the rows that passed the test stand at the front of
-- `out` (`keep-turn`).
use Rattle.std.proofs.Common.{rules, tests, arith, refl, ◌≡◌, ◌∙◌, sym, ap, subst, ℕ, ◌+◌, ◌-◌, ◌<◌, ◌≤◌, length, get_or, List, ℤ}
use borrow.Rule.Slice.PartMut.{put_mid}
use lib.Seq.{paste}
use Rattle.std.proofs.lemmas.List.{length_push}
use Rattle.std.proofs.lemmas.Slice.{put_mid-paste}
use Rattle.std.proofs.lemmas.Iterator.Consumers.{YieldsList-at, YieldsList-from_filter, YieldsList-turn, YieldsList-end}
use Rattle.rank1.specs.Index.{index_list}
use Rattle.planner.specs.Levels.{zero_from, ending}
use Rattle.planner.proofs.RowLaws.{rows_yielded}
use Rattle.planner.proofs.levels.LevelLaws.{Keeping, ending_filter, keep_none, kept-long, kept-room, keep-turn, kept-all}
use Rattle.planner.proofs.levels.keep_ending.Goals as goal
use Rattle.planner.proofs.levels.keep_ending.Goals.{In-Some}

-- the row that comes is the next that ends by axis j
next :
    (c : In-Some)
    → (length c.loop-row.yielded < length (ending c.args.j (index_list c.args.rows.now.d c.args.rows.now.numbers.now)))
    × (c.in-Some.row.now ≡ get_or (ending c.args.j (index_list c.args.rows.now.d c.args.rows.now.numbers.now)) (length c.loop-row.yielded) c.in-Some.row.now)
next c =
    let rows = c.args.rows.now in
    let come = YieldsList-turn
    (YieldsList-at c.into_iter-row-iterator.ensures.into_iter_gives
    (YieldsList-from_filter _ (zero_from c.args.j)
    (rows_yielded rows (search rules))
    c.filter-row-items.ensures.closure (λ x r q k. search (rules, tests))))
    c.loop-row.yielded _ c.loop-row.yielded_by _ _ _ c.in-Some.is c.next.ensures.steps in
    let same = ending_filter c.args.j (index_list rows.d rows.numbers.now) in
    (omega (arith, come.0, ap (length {A = List ℤ}) same), come.1 ∙ ap (λ (ks : List (List ℤ)). get_or ks (length c.loop-row.yielded) c.in-Some.row.now) same)

pub loop-row-init : goal.loop-row-init
loop-row-init c = let rows = c.args.rows.now in keep_none rows.d c.args.j rows.numbers.now c.args.out.now rows.valid.some_axes

-- so it has d components, and there is room for it
fits : (c : In-Some) → (length c.in-Some.row.now ≡ c.args.rows.now.d) × (c.loop-row.at + length c.in-Some.row.now ≤ length c.loop-row.out)
fits c =
    let rows = c.args.rows.now in
    let here = next c in
    let v = c.loop-row.invariant in
    let i = length c.loop-row.yielded in
    let row = c.in-Some.row.now in
    let long = kept-long rows.d c.args.j i rows.numbers.now row rows.valid.some_axes rows.valid.whole here.0 here.1 in
    let inside = kept-room rows.d c.args.j i rows.numbers.now row rows.valid.some_axes rows.valid.whole here.0 here.1 in
    (long, omega (arith, long, v.fits, v.same, c.requires, inside))

pub overflow_add-at : goal.overflow_add-at
overflow_add-at c = search (rules, fits (goal.at.overflow_add-at c).In-Some)

pub offset_bounds-out-at : goal.offset_bounds-out-at
offset_bounds-out-at c = search (rules, fits (goal.at.offset_bounds-out-at c).In-Some)

pub slice_bounds-copy-end : goal.slice_bounds-copy-end
slice_bounds-copy-end c = search (rules, fits (goal.at.slice_bounds-copy-end c).In-Some)

pub loop-row-preserved : goal.loop-row-preserved
loop-row-preserved c =
    let rows = c.args.rows.now in
    let l = c.loop-row in
    let row = c.in-Some.row.now in
    let here = next (goal.at.loop-row-preserved c).In-Some in
    let turned =
    keep-turn rows.d c.args.j (length l.yielded) rows.numbers.now row rows.valid.some_axes rows.valid.whole here.0 here.1 c.args.out.now l.out l.at
    c.requires l.invariant in
    let written : put_mid l.at (l.at + length row - l.at) l.out c.copy.new.places ≡ paste l.out l.at row (length row) =
    put_mid-paste _ _ l.out _ row (length row) c.copy.ensures (omega arith) refl in
    subst (λ (i : ℕ). Keeping rows.d c.args.j i rows.numbers.now c.args.out.now (put_mid l.at (l.at + length row - l.at) l.out c.copy.new.places) (l.at + length row))
    (sym (length_push l.yielded c.in-Some.row))
    (subst (λ (new : List ℤ). Keeping rows.d c.args.j (length l.yielded + 1) rows.numbers.now c.args.out.now new (l.at + length row)) (sym written) turned)

pub returns : goal.returns
returns c =
    let rows = c.args.rows.now in
    let all =
    YieldsList-end
    (YieldsList-at c.into_iter-row-iterator.ensures.into_iter_gives
    (YieldsList-from_filter _ (zero_from c.args.j)
    (rows_yielded rows (search rules))
    c.filter-row-items.ensures.closure (λ x r q k. search (rules, tests))))
    c.loop-row.yielded _ c.loop-row.yielded_by _ _ c.in-None.is c.next.ensures.steps in
    kept-all rows.d c.args.j (length c.loop-row.yielded) rows.numbers.now c.args.out.now c.loop-row.out c.loop-row.at rows.valid.whole
    (all.1 ∙ ap (length {A = List ℤ}) (ending_filter c.args.j (index_list rows.d rows.numbers.now))) c.loop-row.invariant
