-- `corners::fill` meets its contract: the first i rows of the list stand at the front, and the next one in `row`.
use mathlib.Core.Path.{◌≡◌, sym, ◌∙◌, ap, subst}
use mathlib.Core.List.{List, [], ◌++◌}
use Prim.Native.Nat.{ℕ, ◌≤◌, ◌+◌, ◌*◌, ◌-◌}
use native.Mathlib.Nat.{zero-mul}
use native.Mathlib.Numerals.{add-one}
use native.Mathlib.Omega.{arith}
use borrow.Rule.Slice.PartMut.{put_mid}
use lib.Dec.{T}
use lib.IntN.{ℤ, pos}
use lib.ListN.{length, get_or, take, drop, length-take, length-drop}
use lib.Seq.{length-take-le, take_at, take_all}
use Rattle.std.proofs.lemmas.List.{take-replicate}
use Rattle.rank1.specs.Index.{index_list, run_of}
use Rattle.rank1.specs.Corners.{under_some, CornerList}
use Rattle.rank1.proofs.CornerLaws.{corner_rows, run_corners, at_within, first_place}
use Rattle.lists.specs.Inner.{ValidCorners, Stepped}
use Rattle.lists.proofs.corners.PlaceLaws.{next_place, last-place}
use Rattle.lists.proofs.corners.FillLaws.{fill_more, zero_within}
use Rattle.lists.proofs.corners.fill.Goals as goal
use Rattle.lists.proofs.corners.fill.Goals.{After-copy_from_slice, After-next, Start}

-- ---- the list, its corners and the row's length
abbrev list : Start → List (List ℤ)
list s = corner_rows s.args.d (index_list s.args.d s.args.corners.now)

listed : (s : Start) → CornerList (index_list s.args.d s.args.corners.now) (list s)
listed s = run_corners s.args.d s.args.corners.now

size : (c : After-copy_from_slice) → length (take c.args.d c.loop-i.row) ≡ c.args.d
size c = length-take-le c.args.d c.loop-i.row (omega (arith, c.copy_from_slice.array_long, c.requires.few_axes))

pub loop-i-init : goal.loop-i-init
loop-i-init c =
    let s = c.args in
    let f = first_place (index_list s.d s.corners.now) (list c) (listed c) s.d (zero_within s.d s.corners.now c.requires) in
    record {
      more = f.0;
      next = f.1 ∙ sym (take-replicate s.d 6 (pos 0) c.requires.few_axes);
      so_far = ap (λ (n : ℕ). take n s.rows.now) (zero-mul s.d);
    }

pub next-requires : goal.next-requires
next-requires c =
    let xs = c.args.corners.now in
    let row = take c.args.d c.loop-i.row in
    let long = size (goal.at.next-requires c).After-copy_from_slice in
    let s = (goal.at.next-requires c).Start in
    record {
      valid = subst (λ (n : ℕ). ValidCorners n xs) (sym long) c.requires;
      within = subst (λ (n : ℕ). T (under_some (index_list n xs) row)) (sym long) (subst (λ (k : List ℤ). T (under_some (index_list c.args.d xs) k)) c.loop-i.invariant.next (at_within (index_list c.args.d xs) (list s) (listed s) c.loop-i.i c.loop-i.invariant.more));
    }

-- ---- what the two calls give: one more row is written, and the row after it is looked for
written : (c : After-copy_from_slice) → take ((c.loop-i.i + 1) * c.args.d) (put_mid (c.loop-i.i * c.args.d) ((c.loop-i.i + 1) * c.args.d - c.loop-i.i * c.args.d) c.loop-i.rows c.copy_from_slice.new.self) ≡ run_of (take (c.loop-i.i + 1) (corner_rows c.args.d (index_list c.args.d c.args.corners.now)))
written c =
    let l = c.loop-i in
    let d = c.args.d in
    let row = take d l.row in
    let rest = drop ((l.i + 1) * d - l.i * d) (drop (l.i * d) l.rows) in
    let behind = drop (l.i * d) l.rows in
    let fits : l.i * d + d ≤ length l.rows =
    omega (arith, c.copy_from_slice.ensures.len, ap (length {A = ℤ}) c.copy_from_slice.ensures.after, size c, length-take ((l.i + 1) * d - l.i * d) behind, length-drop (l.i * d) l.rows, c.requires.some_axes) in
    fill_more (corner_rows d (index_list d c.args.corners.now)) l.rows (put_mid (l.i * d) ((l.i + 1) * d - l.i * d) l.rows c.copy_from_slice.new.self) row rest l.i d
    l.invariant.more l.invariant.next (size c) fits l.invariant.so_far
    (ap (λ (r : List ℤ). take (l.i * d) l.rows ++ (r ++ rest)) c.copy_from_slice.ensures.after)

stepped : (c : After-next) → Stepped (index_list c.args.d c.args.corners.now) (get_or (corner_rows c.args.d (index_list c.args.d c.args.corners.now)) c.loop-i.i []) c.next.new.row c.next.result
stepped c =
    let long = length-take-le c.args.d c.loop-i.row (omega (arith, c.copy_from_slice.array_long, c.requires.few_axes)) in
    subst (λ (k : List ℤ). Stepped (index_list c.args.d c.args.corners.now) k c.next.new.row c.next.result) (sym c.loop-i.invariant.next)
    (subst (λ (n : ℕ). Stepped (index_list n c.args.corners.now) (take c.args.d c.loop-i.row) c.next.new.row c.next.result) long c.next.ensures)

pub returns-then-not-next : goal.returns-then-not-next
returns-then-not-next c =
    let s = (goal.at.returns-then-not-next c).Start in
    let step = stepped (goal.at.returns-then-not-next c).After-next in
    let last = last-place (index_list c.args.d c.args.corners.now) (list s) (listed s) c.loop-i.i c.loop-i.invariant.more (step.none c.if-not-next.true) in
    record {
      list = list s;
      is = listed s;
      written = (omega (arith, last), omega arith, written (goal.at.returns-then-not-next c).After-copy_from_slice ∙ ap run_of (take_all (c.loop-i.i + 1) (list s) (omega (arith, last))));
    }

pub loop-i-preserved : goal.loop-i-preserved
loop-i-preserved c =
    let d = c.args.d in
    let s = (goal.at.loop-i-preserved c).Start in
    let row = c.next.new.row in
    let size_of : length row ≡ d = c.next.auto.row ∙ size (goal.at.loop-i-preserved c).After-copy_from_slice in
    let next = next_place (index_list d c.args.corners.now) (list s) (listed s) c.loop-i.i row c.loop-i.invariant.more ((stepped (goal.at.loop-i-preserved c).After-next).more c.if-not-next.false) in
    record {
      more = omega (arith, next.0);
      next = ap (λ (n : ℕ). get_or (list s) n []) (add-one c.loop-i.i) ∙ next.1 ∙ sym (take_at row (drop d c.loop-i.row) d size_of);
      so_far = written (goal.at.loop-i-preserved c).After-copy_from_slice;
    }

pub returns : goal.returns
returns c =
    let s = (goal.at.returns c).Start in
    record { list = list s; is = listed s; written = omega (arith, c.loop-i.invariant.more) }
