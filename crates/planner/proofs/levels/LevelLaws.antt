-- The levels of a list: the test that a row is 0 from an axis on, the rows that end by an axis, runs that hold them, how one
-- level is written row by row, how the levels are set one after the other, and what the search reads off a level.
use mathlib.Core.Path.{◌≡◌, refl, sym, ◌∙◌, ap, subst}
use mathlib.Core.Logic.{⊎_elim}
use mathlib.Core.Bool.{Bool, true, false, cond}
use mathlib.Core.List.Memᴰ
use mathlib.Core.List.{List, [], ◌∷◌, ◌++◌, Memᴰ}
use Prim.Native.Nat.{ℕ, zero, suc, ◌+◌, ◌*◌, ◌-◌, ◌/◌, ◌%◌, ◌<◌, ◌≤◌}
use native.Mathlib.Nat.{suc-mul, div-eq_of_eq-mul_left, mul-le-mul_right, div-lt_iff_lt-mul, mod-lt}
use native.Mathlib.Decide.{dec_lt}
use native.Mathlib.Omega.{arith}
use borrow.Author.Count.{below_more}
use borrow.Rule.Slice.PartMut.{put_mid}
use lib.Dec.{T}
use lib.IntN.{ℤ, pos, nat_abs}
use lib.ListN.{length, get_or, take, drop, set, length-append, length-drop}
use lib.Seq.{length-take-le, take_all, take-append-le, drop_at, get_or-take, get_or-drop, get_or-set_same, get_or-set_other, paste, take-paste, length-paste}
use Rattle.std.specs.List.{filter}
use Rattle.std.proofs.lemmas.List.{get_or_past, take_more}
use Rattle.rank1.proofs.Distinct.{member_at}
use Rattle.std.proofs.lemmas.Nat.{div-add-mod'}
use Rattle.rank1.specs.Tests.{every, same_number}
use Rattle.rank1.specs.Index.{rows_of, row_count, index_list}
use Rattle.rank1.specs.Valid.{Distinct, ValidList}
use Rattle.rank1.specs.Axes.{ZeroFrom}
use Rattle.rank1.proofs.TestLaws.{true_holds, holds_true, both, joined, decides_number}
use Rattle.rank1.proofs.IndexLaws.{rows-length, row_in, RowPlace, row_out, member_length, rows_front, rows_snoc}
use Rattle.planner.specs.Sizes.{axes, most_rows, level_room, largest_component}
use Rattle.planner.specs.Inner.{Covered}
use Rattle.planner.specs.Levels.{zero_from, ending, level_run, RunOf, Kept, LevelsTo, Levels}
use Rattle.planner.proofs.CallLaws.{covered_valid}
use Rattle.planner.proofs.RowLaws.{part-before}
use Rattle.planner.proofs.products.ProductLaws.{covered_append, covered_take, covered_drop}

-- ---- rows that are 0 from an axis on
-- every number is 0 just where each place holds 0
all_zero : (xs : List ℤ) → T (every (same_number (pos 0)) xs) → (i : ℕ) → get_or xs i (pos 0) ≡ pos 0
all_zero [] t i = refl
all_zero (x ∷ xs) t zero = sym ((decides_number (pos 0) x).0 (both (same_number (pos 0) x) (every (same_number (pos 0)) xs) t).0)
all_zero (x ∷ xs) t (suc i) = all_zero xs (both (same_number (pos 0) x) (every (same_number (pos 0)) xs) t).1 i

zero_all : (xs : List ℤ) → ((i : ℕ) → get_or xs i (pos 0) ≡ pos 0) → T (every (same_number (pos 0)) xs)
zero_all [] h = tt
zero_all (x ∷ xs) h = joined (same_number (pos 0) x) (every (same_number (pos 0)) xs) ((decides_number (pos 0) x).1 (sym (h 0))) (zero_all xs (λ i. h (suc i)))

-- the test in words
pub zero_from_lem : (j : ℕ) (k : List ℤ) → zero_from j k ≡ true → ZeroFrom j k
zero_from_lem j k e i l =
    ap (λ (m : ℕ). get_or k m (pos 0)) (sym split) ∙ sym (get_or-drop j k (i - j) (pos 0)) ∙ all_zero (drop j k) (true_holds (zero_from j k) e) (i - j)
  where
    split : j + (i - j) ≡ i
    split = omega arith

-- a row is 0 from axis j on where each of its places from there on holds 0
pub from_places : (j : ℕ) (k : List ℤ) → ((i : ℕ) → j + i < length k → get_or k (j + i) (pos 0) ≡ pos 0) → ZeroFrom j k
from_places j k h i m =
    elim (dec_lt i (length k)) [
      | yes l ↦ subst (λ (p : ℕ). get_or k p (pos 0) ≡ pos 0) split (h (i - j) (omega arith))
      | no g ↦ get_or_past k i (pos 0) (omega arith)
    ]
  where
    split : j + (i - j) ≡ i
    split = omega arith

pub from_zero_lem : (j : ℕ) (k : List ℤ) → ZeroFrom j k → zero_from j k ≡ true
from_zero_lem j k h = holds_true (zero_from j k) (zero_all (drop j k) (λ i. get_or-drop j k i (pos 0) ∙ h (j + i) (omega arith)))

-- ---- the rows that end by an axis
-- where the test of the first row is known
ending-keep : (j : ℕ) (k : List ℤ) (ks : List (List ℤ)) → zero_from j k ≡ true → ending j (k ∷ ks) ≡ k ∷ ending j ks
ending-keep j k ks e = ap (λ (b : Bool). cond b (k ∷ ending j ks) (ending j ks)) e

-- there are no more of them than rows
pub ending-length : (j : ℕ) (ks : List (List ℤ)) → length (ending j ks) ≤ length ks
ending-length j [] = omega arith
ending-length j (k ∷ ks) = go (zero_from j k) (ending-length j ks)
  where
    go : (b : Bool) → length (ending j ks) ≤ length ks → length (cond b (k ∷ ending j ks) (ending j ks)) ≤ suc (length ks)
    go true l = omega arith
    go false l = omega arith

-- they are the rows that are 0 from there on
pub ending-out : (j : ℕ) (ks : List (List ℤ)) (r : List ℤ) → Memᴰ r (ending j ks) → Memᴰ r ks × (zero_from j r ≡ true)
ending-out j [] r m = absurd (Memᴰ.not-nil m)
ending-out j (k ∷ ks) r m = go (zero_from j k) refl m (λ n. let p = ending-out j ks r n in (Memᴰ.tail p.0, p.1))
  where
    go :
        (b : Bool) → zero_from j k ≡ b → Memᴰ r (cond b (k ∷ ending j ks) (ending j ks))
        → (Memᴰ r (ending j ks) → Memᴰ r (k ∷ ks) × (zero_from j r ≡ true)) → Memᴰ r (k ∷ ks) × (zero_from j r ≡ true)
    go true e n later = ⊎_elim (λ p. (Memᴰ.head p, ap (zero_from j) p ∙ e)) later (Memᴰ.cases_cons n)
    go false e n later = later n

pub ending_in : (j : ℕ) (ks : List (List ℤ)) (r : List ℤ) → Memᴰ r ks → zero_from j r ≡ true → Memᴰ r (ending j ks)
ending_in j [] r m e = absurd (Memᴰ.not-nil m)
ending_in j (k ∷ ks) r m e =
    ⊎_elim
    (λ p. subst (Memᴰ r) (sym (ending-keep j k ks (sym (ap (zero_from j) p) ∙ e))) (Memᴰ.head p))
    (λ n. go (zero_from j k) (ending_in j ks r n e))
    (Memᴰ.cases_cons m)
  where
    go : (b : Bool) → Memᴰ r (ending j ks) → Memᴰ r (cond b (k ∷ ending j ks) (ending j ks))
    go true n = Memᴰ.tail n
    go false n = n

-- from the last axis on no row has a component, so there they are the whole list
pub ending_all : (d : ℕ) (ks : List (List ℤ)) → ((k : List ℤ) → Memᴰ k ks → length k ≡ d) → ending d ks ≡ ks
ending_all d [] h = refl
ending_all d (k ∷ ks) h =
    ending-keep d k ks (from_zero_lem d k (from_places d k (λ i l. absurd (omega (arith, h k (Memᴰ.head refl))))))
    ∙ ap (λ (rs : List (List ℤ)). k ∷ rs) (ending_all d ks (λ r m. h r (Memᴰ.tail m)))

-- different rows stay different
pub ending_distinct : (j : ℕ) (ks : List (List ℤ)) → Distinct ks → Distinct (ending j ks)
ending_distinct j [] h = tt
ending_distinct j (k ∷ ks) h = go (zero_from j k) (ending_distinct j ks h.1)
  where
    go : (b : Bool) → Distinct (ending j ks) → Distinct (cond b (k ∷ ending j ks) (ending j ks))
    go true r = ((λ m. h.0 (ending-out j ks k m).0), r)
    go false r = r

-- ---- runs that hold a list of rows
-- m rows of d numbers
pub level_of : (d m : ℕ) (ks : List (List ℤ)) (xs : List ℤ) → 1 ≤ d → length xs ≡ m * d → rows_of d m xs ≡ ks → RunOf d ks xs
level_of d m ks xs l e p =
    let c : row_count d xs ≡ m = div-eq_of_eq-mul_left l e in
    record { rows = ap (λ (i : ℕ). rows_of d i xs) c ∙ p; whole = e ∙ ap (λ (i : ℕ). i * d) (sym c) }

pub level_count : {d : ℕ} {ks : List (List ℤ)} {xs : List ℤ} → RunOf d ks xs → row_count d xs ≡ length ks
level_count {d} {ks} {xs} v = sym (rows-length d (row_count d xs) xs) ∙ ap length v.rows

pub level_more : {d : ℕ} {ks : List (List ℤ)} {xs : List ℤ} (k : List ℤ) → 1 ≤ d → RunOf d ks xs → length k ≡ d → RunOf d (ks ++ (k ∷ [])) (xs ++ k)
level_more {d} {ks} {xs} k l v e = level_of d (suc m) (ks ++ (k ∷ [])) (xs ++ k) l size rows
  where
    m : ℕ
    m = row_count d xs

    size : length (xs ++ k) ≡ suc m * d
    size = length-append xs k ∙ omega (arith, v.whole, suc-mul m d)

    last : take d (drop (m * d) (xs ++ k)) ≡ k
    last = ap (take d) (drop_at xs k (m * d) v.whole) ∙ take_all d k (omega arith)

    rows : rows_of d (suc m) (xs ++ k) ≡ ks ++ (k ∷ [])
    rows =
        rows_snoc d m (xs ++ k)
        ∙ ap (λ (r : List ℤ). rows_of d m (xs ++ k) ++ (r ∷ [])) last
        ∙ ap (λ (rs : List (List ℤ)). rs ++ (k ∷ [])) (rows_front d m xs k (omega (arith, v.whole)) ∙ v.rows)

-- ---- one level, written row by row
-- the rows that end by an axis are those that pass the test
pub ending_filter : (j : ℕ) (ks : List (List ℤ)) → filter (zero_from j) ks ≡ ending j ks
ending_filter j [] = refl
ending_filter j (k ∷ ks) = ap (λ (rs : List (List ℤ)). cond (zero_from j k) (k ∷ rs) rs) (ending_filter j ks)

-- the first `at` numbers of `new` are those of the first i rows of xs that are 0 from axis j on
pub record Keeping (d j i : ℕ) (xs old new : List ℤ) (at : ℕ) : Type 0 where
  pub level : RunOf d (take i (ending j (index_list d xs))) (take at new)
  pub fits : at ≡ i * d
  pub same : length new ≡ length old
  pub covers : (top : ℕ) → Covered top xs → Covered top old → Covered top new

-- none yet
pub keep_none : (d j : ℕ) (xs old : List ℤ) → 1 ≤ d → Keeping d j 0 xs old old 0
keep_none d j xs old l = record { level = level_of d 0 [] [] l (omega arith) refl; fits = omega arith; same = refl; covers = λ top a b. b }

-- row k is the next of them
module _ (d j i : ℕ) (xs k : List ℤ) (some : 1 ≤ d) (whole : length xs ≡ row_count d xs * d)
    (inside : i < length (ending j (index_list d xs))) (is : k ≡ get_or (ending j (index_list d xs)) i k) where
  listed : Memᴰ k (index_list d xs)
  listed = (ending-out j (index_list d xs) k (Memᴰ.cast is (member_at (ending j (index_list d xs)) k i inside))).0

  pub kept-long : length k ≡ d
  kept-long = member_length d (row_count d xs) xs k (omega (arith, whole)) listed

  pub kept-room : i * d + d ≤ length xs
  kept-room =
      omega (
        arith,
        whole,
        suc-mul i d,
        mul-le-mul_right {m = suc i} {n = row_count d xs} d
            (omega (arith, inside, ending-length j (index_list d xs), rows-length d (row_count d xs) xs)),
      )

  row-small : (top : ℕ) → Covered top xs → Covered top k
  row-small top a =
      let p = row_out d (row_count d xs) xs k listed in
      subst (Covered top) (sym p.is) (covered_take top d (drop (p.index * d) xs) (covered_drop top (p.index * d) xs a))

  -- a turn: it is copied behind the others
  pub keep-turn :
      (old new : List ℤ) (at : ℕ) → length xs ≤ length old → Keeping d j i xs old new at
      → Keeping d j (i + 1) xs old (paste new at k (length k)) (at + length k)
  keep-turn old new at f s = record {
    level =
        subst (λ (rs : List (List ℤ)). RunOf d rs (take (at + length k) (paste new at k (length k)))) (sym more)
        (subst (RunOf d (take i ks ++ (k ∷ []))) (sym front) (level_more k some s.level kept-long));
    fits = omega (arith, s.fits, kept-long);
    same = length-paste new at k (length k) room (omega arith) ∙ s.same;
    covers = λ top a b.
        covered_append top (take at new ++ take (length k) k) (drop (at + length k) new)
        (covered_append top (take at new) (take (length k) k) (covered_take top at new (s.covers top a b)) (covered_take top (length k) k (row-small top a)))
        (covered_drop top (at + length k) new (s.covers top a b));
  }
    where
      ks : List (List ℤ)
      ks = ending j (index_list d xs)

      room : at + length k ≤ length new
      room = omega (arith, s.fits, s.same, f, kept-long, kept-room)

      more : take (i + 1) ks ≡ take i ks ++ (k ∷ [])
      more = take_more ks i k inside ∙ ap (λ (r : List ℤ). take i ks ++ (r ∷ [])) (sym is)

      front : take (at + length k) (paste new at k (length k)) ≡ take at new ++ k
      front = take-paste new at k (length k) (omega (arith, room)) (omega arith) ∙ ap (λ (r : List ℤ). take at new ++ r) (take_all (length k) k (omega arith))

-- at the end: they are all there
pub kept-all :
    (d j m : ℕ) (xs old new : List ℤ) (at : ℕ) → length xs ≡ row_count d xs * d → m ≡ length (ending j (index_list d xs)) → Keeping d j m xs old new at
    → Kept d j xs old new at
kept-all d j m xs old new at whole e s = record {
  level = subst (λ (rs : List (List ℤ)). RunOf d rs (take at new)) (take_all m (ending j (index_list d xs)) (omega (arith, e))) s.level;
  fits =
      omega (
        arith,
        s.fits,
        whole,
        mul-le-mul_right {m = m} {n = row_count d xs} d
            (omega (arith, e, ending-length j (index_list d xs), rows-length d (row_count d xs) xs)),
      );
  covers = s.covers;
}

-- ---- the levels, one after the other
-- the places of one level
pub part-size :
    (j k : ℕ) (levels : List ℤ) → k ≡ level_room → j < axes + 1 → length levels ≡ (axes + 1) * level_room
    → length (take k (drop (j * level_room) levels)) ≡ level_room
part-size j k levels e l f = length-take-le k (drop (j * level_room) levels) (omega (arith, length-drop (j * level_room) levels)) ∙ e

-- one level more: its rows are kept in the part that was lent, k places from the level's first on, and their size is stored
module _ (d top j : ℕ) (xs levels : List ℤ) (sizes : List ℕ) (k r : ℕ) (new : List ℤ) where
  abbrev after : List ℤ
  after = put_mid (j * level_room) k levels new

  pub levels-more :
      k ≡ level_room → j < axes + 1 → length sizes ≡ axes + 1 → length levels ≡ (axes + 1) * level_room → length xs ≤ level_room → Covered top xs → length new ≡ length (take k (drop (j * level_room) levels))
      → Kept d j xs (take k (drop (j * level_room) levels)) new r → LevelsTo d top j xs levels sizes → LevelsTo d top (j + 1) xs after (set sizes j r)
  levels-more e l tall long f g h kept s = record {
    covers =
        covered_append top (take (j * level_room) levels) (new ++ drop k rest) (covered_take top (j * level_room) levels s.covers)
        (covered_append top new (drop k rest) (kept.covers top g (covered_take top k rest behind)) (covered_drop top k rest behind));
    few =
        below_more (λ i. get_or (set sizes j r) i 0 ≤ level_room) j
        (λ i m. omega (arith, other i m, s.few i m))
        (omega (arith, stored, kept.fits));
    level =
        below_more (λ i. RunOf d (ending i (index_list d xs)) (level_run after (set sizes j r) i)) j
        (λ i m. subst (RunOf d (ending i (index_list d xs))) (sym (before i m)) (s.level i m))
        (subst (RunOf d (ending j (index_list d xs))) (sym here) kept.level);
  }
    where
      rest : List ℤ
      rest = drop (j * level_room) levels

      behind : Covered top (drop (j * level_room) levels)
      behind = covered_drop top (j * level_room) levels s.covers

      stored : get_or (set sizes j r) j 0 ≡ r
      stored = get_or-set_same sizes j r 0 (omega (arith, tall))

      other : (i : ℕ) → i < j → get_or (set sizes j r) i 0 ≡ get_or sizes i 0
      other i m = get_or-set_other sizes j i r 0 (omega arith)

      start : j * level_room ≤ length levels
      start = omega (arith, long)

      size : length new ≡ level_room
      size = h ∙ part-size j k levels e l long

      -- the new level
      here : level_run after (set sizes j r) j ≡ take r new
      here =
          ap (λ (n : ℕ). take n (drop (j * level_room) after)) stored
          ∙ ap (take r) (drop_at (take (j * level_room) levels) (new ++ drop k rest) (j * level_room) (length-take-le (j * level_room) levels start))
          ∙ take-append-le r new (drop k rest) (omega (arith, size, kept.fits))

      -- a level before it
      before : (i : ℕ) → i < j → level_run after (set sizes j r) i ≡ level_run levels sizes i
      before i m =
          ap (λ (n : ℕ). take n (drop (i * level_room) after)) (other i m)
          ∙ part-before (i * level_room) (get_or sizes i 0) (j * level_room) levels (new ++ drop k rest) (omega (arith, s.few i m)) start

-- ---- the part of a valid list that ends by an axis
-- no number of a run of whole rows is larger than those of its rows
rows_small :
    (d : ℕ) (ys : List ℤ) → 1 ≤ d → length ys ≡ row_count d ys * d
    → ((k : List ℤ) → Memᴰ k (index_list d ys) → (r : ℕ) → nat_abs (get_or k r (pos 0)) ≤ largest_component)
    → (i : ℕ) → nat_abs (get_or ys i (pos 0)) ≤ largest_component
rows_small d ys some whole small i =
    elim (dec_lt i (length ys)) [
      | yes l ↦ subst (λ (x : ℤ). nat_abs x ≤ largest_component) same (small (take d (drop (i / d * d) ys)) (row_in d (row_count d ys) ys (i / d) (inside l)) (i % d))
      | no g ↦ omega (arith, ap nat_abs (get_or_past ys i (pos 0) (omega arith)))
    ]
  where
    inside : i < length ys → i / d < row_count d ys
    inside l = (div-lt_iff_lt-mul some).1 (omega (arith, whole))

    same : get_or (take d (drop (i / d * d) ys)) (i % d) (pos 0) ≡ get_or ys i (pos 0)
    same =
        get_or-take d (drop (i / d * d) ys) (i % d) (pos 0) (mod-lt i some)
        ∙ get_or-drop (i / d * d) ys (i % d) (pos 0)
        ∙ ap (λ (k : ℕ). get_or ys k (pos 0)) (div-add-mod' i d)

-- its rows are rows of the list, 0 from axis j on
run_member :
    {d : ℕ} {ys : List ℤ} (j : ℕ) (ks : List (List ℤ)) → RunOf d (ending j ks) ys → (k : List ℤ) → Memᴰ k (index_list d ys)
    → Memᴰ k ks × (zero_from j k ≡ true)
run_member j ks run k m = ending-out j ks k (subst (Memᴰ k) run.rows m)

-- it is a valid list
pub ending_valid : (plan d j : ℕ) (xs ys : List ℤ) → ValidList plan d xs → RunOf d (ending j (index_list d xs)) ys → ValidList plan d ys
ending_valid plan d j xs ys v run = record {
  some_axes = v.some_axes;
  few_axes = v.few_axes;
  whole = run.whole;
  few_rows = omega (arith, level_count run, ending-length j (index_list d xs), rows-length d (row_count d xs) xs, v.few_rows);
  small = rows_small d ys v.some_axes run.whole (λ k m. row-covered (row_out d (row_count d xs) xs k (run_member j (index_list d xs) run k m).0));
  unsigned = λ h k m. v.unsigned h k (run_member j (index_list d xs) run k m).0;
  different = subst Distinct (sym run.rows) (ending_distinct j (index_list d xs) v.different);
}
  where
    row-covered : {k : List ℤ} → RowPlace d (row_count d xs) xs k → (r : ℕ) → nat_abs (get_or k r (pos 0)) ≤ largest_component
    row-covered place =
        (subst (Covered largest_component) (sym place.is)
        (covered_take largest_component d (drop (place.index * d) xs) (covered_drop largest_component (place.index * d) xs (covered_valid plan d xs v)))).covered

-- what the rule asks of a level: a valid list of rows that are 0 from axis j on, none with too large a component
pub record LevelReady (plan d top j : ℕ) (xs : List ℤ) : Type 0 where
  pub valid : ValidList plan d xs
  pub ended : (k : List ℤ) → Memᴰ k (index_list d xs) → ZeroFrom j k
  pub covers : Covered top xs

-- ---- a valid list and its levels
module _ (plan d : ℕ) (xs : List ℤ) (v : ValidList plan d xs) where
  -- it has no more numbers than a level has places
  pub valid_size : length xs ≤ level_room
  valid_size = omega (arith, v.whole, mul-le-mul_right {m = row_count d xs} {n = most_rows} d v.few_rows, v.few_axes)

  module _ (top : ℕ) (levels : List ℤ) (sizes : List ℕ) (s : Levels d top xs levels sizes) where
    module _ (j : ℕ) (l : j ≤ d) where
      run : RunOf d (ending j (index_list d xs)) (level_run levels sizes j)
      run = s.level j (omega (arith, l))

      -- what the rule asks of it
      pub level_ready : LevelReady plan d top j (level_run levels sizes j)
      level_ready = record {
        valid = ending_valid plan d j xs (level_run levels sizes j) v run;
        ended = λ k m. zero_from_lem j k (run_member j (index_list d xs) run k m).1;
        covers = covered_take top (get_or sizes j 0) (drop (j * level_room) levels) (covered_drop top (j * level_room) levels s.covers);
      }
