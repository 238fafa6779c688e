-- Rows of a run of numbers that is written row by row: a row that is copied behind the first m rows is the next one (`row_joined`),
-- and what stands before it stays (`rows_stay`). Behind that: an iterator that gives a list of rows (`Gives`, by `run_yielded`), what a loop
-- that numbers them tells (`number-turn`, `number-end`) and what `all` does (`all_of`, `decided`), and each of this for a valid list's.
use mathlib.Core.Path.{◌≡◌, refl, sym, ◌∙◌, ap, subst}
use mathlib.Core.Bool.{Bool, true, false, true≢false}
use mathlib.Core.List.Memᴰ
use mathlib.Core.List.{List, [], ◌∷◌, ◌++◌, append_assoc, Memᴰ}
use Prim.Native.Nat.{ℕ, ◌+◌, ◌-◌, ◌*◌, ◌<◌, ◌≤◌}
use native.Mathlib.Nat.{div-mul-le_self, div-eq_of_eq-mul_left}
use native.Mathlib.Numerals.{add-one}
use native.Mathlib.Omega.{arith}
use denote.Ref.{Bor}
use denote.Param.Members.{Mut}
use lib.IntN.{ℤ}
use lib.ListN.{length, get_or, take, drop, length-drop, take-append-drop}
use lib.Seq.{length-take-le, take_all, take-append-le, drop-append-le, take_at, drop_at, get_or-drop, paste}
use Rattle.std.specs.Bool.{⊤, MatchBool}
use Rattle.std.specs.Fn.{Called}
use Rattle.std.specs.Option.{MatchOption}
use Rattle.std.specs.List.{AllWithin, HoldsAt, FoldsTo, enumerate_from}
use Rattle.std.specs.Slice.Iter.{chunks_exact_rest, chunks_exact_size, chunks_exact_steps}
use Rattle.std.specs.Iterator.{Yields, YieldsThen, CallableAtEachTurn}
use Rattle.std.specs.Prelude.{Option, Some, None}
use Rattle.std.specs.declared.iter.Enumerate.{Enumerate}
use Rattle.std.specs.Iterator.Adapters.{enumerate_steps, enumerate_source, enumerate_count, zip_first, zip_second}
use Rattle.std.specs.declared.slice.ChunksExact.{ChunksExact}
use Rattle.std.specs.declared.iter.Zip.{Zip}
use Rattle.std.specs.declared.slice.Iter.{Iter}
use Rattle.std.specs.Slice.Iter.{iter_rest}
use Rattle.std.specs.List.{zip}
use Rattle.std.proofs.lemmas.Bool.{MatchBool-at_true, MatchBool-at_false}
use Rattle.std.proofs.lemmas.Iterator.{YieldsList, YieldsList-from_slice, YieldsList-from_zip, zips, cases_from_all}
use Rattle.std.proofs.lemmas.Fn.{fronts}
use Rattle.std.proofs.lemmas.Slice.Zip.{length-zip, get_or-zip}
use Rattle.std.proofs.lemmas.Iterator.Consumers.{YieldsList-turn, YieldsList-end, YieldsList-from_enumerate}
use Rattle.std.proofs.lemmas.List.{get_or_default}
use Rattle.std.proofs.lemmas.List.FromFn.{length-enumerate_from, get_or-enumerate_from}
use Rattle.std.proofs.lemmas.Iterator.Splits.{YieldsList-from_shown_while}
use Rattle.rank1.specs.Tests.{Decides, every}
use Rattle.rank1.specs.Index.{rows_of, row_count, index_list}
use Rattle.planner.specs.Inner.{row_at}
use Rattle.planner.specs.declared.list.Rows.{Rows}
use Rattle.planner.specs.Lists.{rows_in}
use Rattle.rank1.proofs.TestLaws.{true_holds, holds_true, decided_is, decides_every}
use Rattle.rank1.proofs.Distinct.{member_at, place_of}
use Rattle.rank1.proofs.IndexLaws.{rows-length, part_length, member_length, row_at_lem, rows_take, rows_snoc, rows_front, index_front, index_short}

-- ---- parts of a run
-- a part of a run is not moved by what comes behind it
pub part_front : (a n : ℕ) (xs ys : List ℤ) → a + n ≤ length xs → take n (drop a (xs ++ ys)) ≡ take n (drop a xs)
part_front a n xs ys l =
    ap (take n) (drop-append-le a xs ys (omega arith)) ∙ take-append-le n (drop a xs) ys (omega (arith, length-drop a xs))

-- nor by what comes in place of what is behind it
pub part-before : (a n b : ℕ) (xs ys : List ℤ) → a + n ≤ b → b ≤ length xs → take n (drop a (take b xs ++ ys)) ≡ take n (drop a xs)
part-before a n b xs ys l h =
    part_front a n (take b xs) ys room
    ∙ sym (part_front a n (take b xs) (drop b xs) room)
    ∙ ap (λ (zs : List ℤ). take n (drop a zs)) (take-append-drop b xs)
  where
    room : a + n ≤ length (take b xs)
    room = omega (arith, length-take-le b xs h)

-- and so are the first rows not
pub rows_before : (d m b : ℕ) (xs ys : List ℤ) → m * d ≤ b → b ≤ length xs → rows_of d m (take b xs ++ ys) ≡ rows_of d m xs
rows_before d m b xs ys l h =
    rows_front d m (take b xs) ys room
    ∙ sym (rows_front d m (take b xs) (drop b xs) room)
    ∙ ap (rows_of d m) (take-append-drop b xs)
  where
    room : m * d ≤ length (take b xs)
    room = omega (arith, length-take-le b xs h)

-- the first m rows of a run, where they stand alone, are all rows there
pub rows_alone : (d m : ℕ) (xs : List ℤ) → 1 ≤ d → m * d ≤ length xs → index_list d (take (m * d) xs) ≡ rows_of d m xs
rows_alone d m xs some l =
    ap (λ (n : ℕ). rows_of d n (take (m * d) xs)) (div-eq_of_eq-mul_left some (length-take-le (m * d) xs l))
    ∙ sym (rows_front d m (take (m * d) xs) (drop (m * d) xs) (omega (arith, length-take-le (m * d) xs l)))
    ∙ ap (rows_of d m) (take-append-drop (m * d) xs)

-- ---- a row that is copied behind the first m rows
-- is the next one
pub row_joined : (d m : ℕ) (xs h : List ℤ) → length h ≡ d → m * d + d ≤ length xs → rows_of d (m + 1) (paste xs (m * d) h d) ≡ rows_of d m xs ++ (h ∷ [])
row_joined d m xs h e l =
    ap (λ (n : ℕ). rows_of d n joined) (add-one m)
    ∙ rows_snoc d m joined
    ∙ ap (λ (ks : List (List ℤ)). ks ++ (take d (drop (m * d) joined) ∷ []))
    (ap (rows_of d m) apart ∙ rows_before d m (m * d) xs (take d h ++ rest) (omega arith) (omega arith))
    ∙ ap (λ (k : List ℤ). rows_of d m xs ++ (k ∷ [])) (ap (λ (zs : List ℤ). take d (drop (m * d) zs)) apart ∙ last)
  where
    joined : List ℤ
    joined = paste xs (m * d) h d

    rest : List ℤ
    rest = drop (m * d + d) xs

    apart : joined ≡ take (m * d) xs ++ (take d h ++ rest)
    apart = append_assoc (take (m * d) xs) (take d h) rest

    last : take d (drop (m * d) (take (m * d) xs ++ (take d h ++ rest))) ≡ h
    last =
        ap (take d) (drop_at (take (m * d) xs) (take d h ++ rest) (m * d) (length-take-le (m * d) xs (omega arith)))
        ∙ take_at (take d h) rest d (length-take-le d h (omega arith))
        ∙ take_all d h (omega arith)

-- ---- rows by their numbers
-- row e is the same among any number of rows
pub row_among : (d m n e : ℕ) (xs : List ℤ) → e < m → e < n → get_or (rows_of d m xs) e [] ≡ get_or (rows_of d n xs) e []
row_among d m n e xs l h = row_at_lem d m xs e l ∙ sym (row_at_lem d n xs e h)

-- where rows come behind the first m, those before them stay
pub rows_stay :
    (d b m n : ℕ) (xs ys : List ℤ) (ks : List (List ℤ)) → b ≤ m → m ≤ n → rows_of d n xs ≡ rows_of d m ys ++ ks
    → rows_of d b xs ≡ rows_of d b ys
rows_stay d b m n xs ys ks l h e =
    sym (rows_take d n xs b (omega arith))
    ∙ ap (take b) e
    ∙ take-append-le b (rows_of d m ys) ks (omega (arith, rows-length d m ys))
    ∙ rows_take d m ys b l

-- and come behind them also in what follows the first b
pub rows-from :
    (d b m n : ℕ) (xs ys : List ℤ) (ks : List (List ℤ)) → b ≤ m → rows_of d n xs ≡ rows_of d m ys ++ ks
    → drop b (rows_of d n xs) ≡ drop b (rows_of d m ys) ++ ks
rows-from d b m n xs ys ks l e = ap (drop b) e ∙ drop-append-le b (rows_of d m ys) ks (omega (arith, rows-length d m ys))

-- how many rows follow the first b
pub rows-from-length : (d b m : ℕ) (xs : List ℤ) → length (drop b (rows_of d m xs)) ≡ m - b
rows-from-length d b m xs = length-drop b (rows_of d m xs) ∙ ap (λ (n : ℕ). n - b) (rows-length d m xs)

-- row e, where it is not before number b, is one of them
pub row-behind : (d b m e : ℕ) (xs : List ℤ) → b ≤ e → e < m → Memᴰ (get_or (rows_of d m xs) e []) (drop b (rows_of d m xs))
row-behind d b m e xs l h =
    Memᴰ.cast (ap (λ (i : ℕ). get_or (rows_of d m xs) i []) split ∙ sym (get_or-drop b (rows_of d m xs) (e - b) []))
    (member_at (drop b (rows_of d m xs)) [] (e - b) (omega (arith, rows-from-length d b m xs)))
  where
    split : e ≡ b + (e - b)
    split = omega arith

-- ---- an iterator over rows
-- it gives the rows ks, in their order
abbrev pub Gives : ChunksExact ℤ → List (List ℤ) → Type 0
Gives = YieldsList (chunks_exact_steps {A = ℤ}) (λ k. k.now)

-- it begins at the run xs, and takes d numbers for a row
abbrev pub Begins : ℕ → List ℤ → ChunksExact ℤ → Type 0
Begins d xs s = (chunks_exact_rest s ≡ xs) × (chunks_exact_size s ≡ d)

-- so it gives all rows of the run
pub run_yielded : {d : ℕ} {xs : List ℤ} (s : ChunksExact ℤ) → 1 ≤ d → Begins d xs s → Gives s (index_list d xs)
run_yielded {d} {xs} s some begins =
    subst (λ (ys : List ℤ). Gives s (index_list d ys)) begins.0
    (YieldsList-from_shown_while (chunks_exact_steps {A = ℤ}) (λ k. k.now) (λ t. index_list d (chunks_exact_rest t)) (λ t. chunks_exact_size t ≡ d)
    (λ t u h k. ap length (index_short d (chunks_exact_rest t) (omega (arith, h, k.1.0))))
    (λ t x u h k. (k.0 ∙ h, ap (index_list d) k.1.0 ∙ index_front d x.now (chunks_exact_rest u) some (k.1.1 ∙ h)))
    s begins.1)

-- where j rows of ks have come, the row x that comes now stands at the next place, and has its number i
pub record NextIn (ks : List (List ℤ)) (j i : ℕ) (x : List ℤ) : Type 0 where
  pub among : i < length ks
  pub number : i ≡ j
  pub is : x ≡ get_or ks i x

-- where ks are the first m rows of a run
pub record NextOf (d m : ℕ) (xs : List ℤ) (j i : ℕ) (x : List ℤ) : Type 0 where
  pub among : i < m
  pub number : i ≡ j
  pub is : x ≡ row_at d xs i
  pub size : length x ≡ d

module _ {d m : ℕ} {xs : List ℤ} {j i : ℕ} {x : List ℤ} where
  pub next_of : m * d ≤ length xs → NextIn (rows_of d m xs) j i x → NextOf d m xs j i x
  next_of whole next = record { among = inside; number = next.number; is = row; size = ap length row ∙ part_length d m xs i inside whole }
    where
      inside : i < m
      inside = omega (arith, next.among, rows-length d m xs)

      row : x ≡ row_at d xs i
      row = next.is ∙ get_or_default (rows_of d m xs) i x [] next.among ∙ row_at_lem d m xs i inside

  -- so it is row i of them
  pub row_number : NextOf d m xs j i x → x ≡ get_or (rows_of d m xs) i []
  row_number here = here.is ∙ sym (row_at_lem d m xs i here.among)

  pub row_inside : NextOf d m xs j i x → i < length (rows_of d m xs)
  row_inside here = omega (arith, here.among, rows-length d m xs)

  pub row_listed : NextOf d m xs j i x → Memᴰ x (rows_of d m xs)
  row_listed here = Memᴰ.cast {l = rows_of d m xs} (row_number here) (member_at (rows_of d m xs) [] i (row_inside here))

-- ---- a loop that numbers rows
abbrev pub numbering : Enumerate (ChunksExact ℤ) → Option (ℕ × Bor (List ℤ)) → Enumerate (ChunksExact ℤ) → Type 0
numbering = enumerate_steps (chunks_exact_steps {A = ℤ})

module _ {ks : List (List ℤ)} (s : Enumerate (ChunksExact ℤ)) (gives : Gives (enumerate_source s) ks) (first : enumerate_count s ≡ 0) where
  numbered : YieldsList {B = ℕ × List ℤ} numbering (λ p. (p.0, p.1.now)) s (enumerate_from 0 ks)
  numbered = YieldsList-from_enumerate gives first

  module _ (ys : List (ℕ × Bor (List ℤ))) (t u : Enumerate (ChunksExact ℤ)) (y : Yields numbering s ys t) {r : Option (ℕ × Bor (List ℤ))} where
    pub number-turn : {i : ℕ} {x : Bor (List ℤ)} → r ≡ Some (i, x) → numbering t r u → NextIn ks (length ys) i x.now
    number-turn {i} {x} is e =
        let next = YieldsList-turn numbered ys t y r u (i, x) is e in
        let within : length ys < length ks = omega (arith, next.0, length-enumerate_from 0 ks) in
        let at = next.1 ∙ get_or-enumerate_from 0 ks (length ys) (i, x.now) within in
        let number : i ≡ length ys = omega (arith, ap (λ (p : ℕ × List ℤ). p.0) at) in
        record { among = omega arith; number = number; is = ap (λ (p : ℕ × List ℤ). p.1) at ∙ ap (λ (e : ℕ). get_or ks e x.now) (sym number) }

    pub number-end : r ≡ None → numbering t r u → length ys ≡ length ks
    number-end is e = (YieldsList-end numbered ys t y r u is e).1 ∙ length-enumerate_from 0 ks

-- ---- a closure that is called with one row after another
-- where calls leave it as it is, and it can be called with each row of ks, it can be at each turn
abbrev pub Serves : {P : Type 0} (R : P → Bor (List ℤ) → P → Type 0) (Q : P → Bor (List ℤ) → Type 0) → ChunksExact ℤ → P → List (List ℤ) → Type 0
Serves {P} R Q s p ks =
    ((k : Bor (List ℤ)) (q : P) → R p k q → q ≡ p) → ((k : Bor (List ℤ)) → Memᴰ k.now ks → Q p k) → CallableAtEachTurn (chunks_exact_steps {A = ℤ}) R Q s p

pub served : {P : Type 0} {R : P → Bor (List ℤ) → P → Type 0} {Q : P → Bor (List ℤ) → Type 0} {s : ChunksExact ℤ} {p : P} {ks : List (List ℤ)} → Gives s ks → Serves R Q s p ks
served {P} {R} {Q} {s} {p} {ks} gives keeps serves = record {
  at = λ ys t q x u y f e.
      let next = YieldsList-turn gives ys t y (Some x) u x refl e in
      subst (λ (r : P). Q r x) (sym (unmoved ys q f)) (serves x (Memᴰ.cast {l = ks} next.1 (member_at ks x.now (length ys) next.0)));
}
  where
    unmoved : (ys : List (Bor (List ℤ))) (q : P) → FoldsTo R p ys q → q ≡ p
    unmoved [] q f = sym f
    unmoved (y ∷ ys) q f = unmoved ys q (subst (λ (r : P). FoldsTo R r ys q) (keeps y f.0 f.1) f.2)

-- ---- what `all` tells of rows, once the answer is known
module _ {F : Type 0} (g : Mut F (Bor (List ℤ) × Unit {0}) Bool) (f : F) where
  -- by the test f it went from s to u, and answered r
  abbrev pub Ran : ChunksExact ℤ → ChunksExact ℤ → Bool → Type 0
  Ran s u r =
      (xs : List (Bor (List ℤ))) × (o : Option (Bor (List ℤ))) × (j : F)
      × YieldsThen chunks_exact_steps s xs o u
      × FoldsTo (λ p x q. Called g p (x, tt) true q) f xs j
      × MatchOption o (r ≡ true) (λ x. (r ≡ false) × ((h : F) × Called g j (x, tt) false h))

  -- a row that passes has P, and the test stays as it is
  abbrev pub Passes : (List ℤ → Type 0) → Type 0
  Passes P = (k : Bor (List ℤ)) (q : F) → Called g f (k, tt) true q → (q ≡ f) × P k.now

  -- a row that does not pass has N
  abbrev pub Refuses : (List ℤ → Type 0) → Type 0
  Refuses N = (k : Bor (List ℤ)) (q : F) → Called g f (k, tt) false q → N k.now

module _ {F : Type 0} {g : Mut F (Bor (List ℤ) × Unit {0}) Bool} {f : F} {s u : ChunksExact ℤ} {r : Bool} {ks : List (List ℤ)} (gives : Gives s ks) (ran : Ran g f s u r) where
  found :
      (P N : List ℤ → Type 0) → Passes g f P → Refuses g f N
      → MatchBool r (AllWithin P ks 0 (length ks)) ((i : ℕ) × (i < length ks) × HoldsAt N ks i)
  found P N passes refuses = cases_from_all u f r P N ran gives passes refuses

  -- where the answer is true, each row has P
  pub all_of : (P : List ℤ → Type 0) → Passes g f P → r ≡ true → (k : List ℤ) → Memᴰ k ks → P k
  all_of P passes e k m =
      let at = place_of ks k [] m in
      subst P at.is (MatchBool-at_true _ _ e (found P (λ _. ⊤) passes (λ _ _ _. tt)) at.index [] (omega arith) at.inside)

  -- where the test decides P, whether all have P
  pub decided : (P : List ℤ → Type 0) → Passes g f P → Refuses g f (λ k. P k → ⊥) → Decides r ((k : List ℤ) → Memᴰ k ks → P k)
  decided P passes refuses = record {
    yes = all_of P passes;
    no = λ e all. let at = MatchBool-at_false _ _ e (found P (λ k. P k → ⊥) passes refuses) in at.2 [] (all (get_or ks at.0 []) (member_at ks [] at.0 at.1));
  }

  -- where it is t, whether t is true of all
  pub every-of : (t : List ℤ → Bool) → Passes g f (λ k. true ≡ t k) → Refuses g f (λ k. false ≡ t k) → r ≡ every t ks
  every-of t passes refuses =
      let all = decided (λ k. true ≡ t k) passes (λ k q h e. true≢false (e ∙ sym (refuses k q h))) in
      decided_is r (every t ks) (decides_every t ks (λ k. ((λ h. sym (holds_true (t k) h)), (λ e. true_holds (t k) (sym e))))) all.yes all.no

-- ---- an iterator over the rows of a valid list
module _ (rows : Rows) where
  -- how many they are
  pub rows_counted : length (rows_in rows) ≡ row_count rows.d rows.numbers.now
  rows_counted = rows-length rows.d (row_count rows.d rows.numbers.now) rows.numbers.now

  -- and they stand in the list's numbers
  rows_whole : row_count rows.d rows.numbers.now * rows.d ≤ length rows.numbers.now
  rows_whole = div-mul-le_self (length rows.numbers.now) rows.d

  -- each has d components
  pub row_long : (k : List ℤ) → Memᴰ k (rows_in rows) → length k ≡ rows.d
  row_long k m = member_length rows.d (row_count rows.d rows.numbers.now) rows.numbers.now k rows_whole m

  -- an iterator begins at the first
  abbrev pub FromFirst : ChunksExact ℤ → Type 0
  FromFirst = Begins rows.d rows.numbers.now

  pub rows_yielded : {s : ChunksExact ℤ} → FromFirst s → Gives s (rows_in rows)
  rows_yielded {s} = run_yielded s rows.valid.some_axes

  -- where j rows have come, the row x that comes now is the next of the list, and has the number i
  abbrev pub Comes : ℕ → ℕ → List ℤ → Type 0
  Comes = NextOf rows.d (row_count rows.d rows.numbers.now) rows.numbers.now

  -- a loop over them
  module _ (s : ChunksExact ℤ) (begins : FromFirst s) (ys : List (Bor (List ℤ))) (t u : ChunksExact ℤ) (y : Yields chunks_exact_steps s ys t) {r : Option (Bor (List ℤ))} where
    pub next_row : {x : Bor (List ℤ)} → r ≡ Some x → chunks_exact_steps t r u → Comes (length ys) (length ys) x.now
    next_row {x} is e =
        let next = YieldsList-turn (rows_yielded begins) ys t y r u x is e in
        next_of rows_whole (record { among = next.0; number = refl; is = next.1 })

  -- a loop that numbers them
  module _ (s : Enumerate (ChunksExact ℤ)) (begins : FromFirst (enumerate_source s) × (enumerate_count s ≡ 0)) (ys : List (ℕ × Bor (List ℤ)))
      (t u : Enumerate (ChunksExact ℤ)) (y : Yields numbering s ys t) {r : Option (ℕ × Bor (List ℤ))} where
    pub next-number : {i : ℕ} {x : Bor (List ℤ)} → r ≡ Some (i, x) → numbering t r u → Comes (length ys) i x.now
    next-number is e = next_of rows_whole (number-turn s (rows_yielded begins.0) begins.1 ys t u y is e)

    pub no-number : r ≡ None → numbering t r u → length ys ≡ row_count rows.d rows.numbers.now
    no-number is e = number-end s (rows_yielded begins.0) begins.1 ys t u y is e ∙ rows_counted

  -- a loop with the values vs beside them
  module _ {A : Type 0} (vs : List A) (s : Zip (ChunksExact ℤ) (Iter A)) (begins : FromFirst (zip_first s) × (iter_rest (zip_second s) ≡ vs)) where
    paired : YieldsList {B = List ℤ × A} (zips (chunks_exact_steps {A = ℤ}) (fronts {A = A})) (λ p. (p.0.now, p.1.now)) s (zip (rows_in rows) vs)
    paired = YieldsList-from_zip (rows_yielded begins.0) (YieldsList-from_slice vs begins.1)

    module _ (ys : List (Bor (List ℤ) × Bor A)) (t u : Zip (ChunksExact ℤ) (Iter A)) (y : Yields (zips (chunks_exact_steps {A = ℤ}) (fronts {A = A})) s ys t) {r : Option (Bor (List ℤ) × Bor A)} where
      pub next-pair :
          {x : Bor (List ℤ)} {v : Bor A} → r ≡ Some (x, v) → zips (chunks_exact_steps {A = ℤ}) (fronts {A = A}) t r u
          → Comes (length ys) (length ys) x.now × (length ys < length vs) × ((z : A) → v.now ≡ get_or vs (length ys) z)
      next-pair {x} {v} is e =
          let next = YieldsList-turn paired ys t y r u (x, v) is e in
          let within : length ys < length (rows_in rows) = omega (arith, next.0, length-zip (rows_in rows) vs) in
          let among : length ys < length vs = omega (arith, next.0, length-zip (rows_in rows) vs) in
          let at = next.1 ∙ get_or-zip (rows_in rows) vs (length ys) (x.now, v.now) within among in (
            next_of rows_whole (record { among = within; number = refl; is = ap (λ (p : List ℤ × A). p.0) at }),
            among,
            λ z. ap (λ (p : List ℤ × A). p.1) at ∙ get_or_default vs (length ys) v.now z among,
          )

      pub no-pair : r ≡ None → zips (chunks_exact_steps {A = ℤ}) (fronts {A = A}) t r u → length vs ≡ row_count rows.d rows.numbers.now → length ys ≡ length vs
      no-pair is e same = omega (arith, (YieldsList-end paired ys t y r u is e).1, length-zip (rows_in rows) vs, rows_counted, same)

  -- a closure that is called with each
  pub rows-served : {P : Type 0} {R : P → Bor (List ℤ) → P → Type 0} {Q : P → Bor (List ℤ) → Type 0} {s : ChunksExact ℤ} {p : P} → FromFirst s → Serves R Q s p (rows_in rows)
  rows-served begins = served (rows_yielded begins)

  -- what `all` tells of them
  module _ {F : Type 0} {g : Mut F (Bor (List ℤ) × Unit {0}) Bool} {f : F} {s u : ChunksExact ℤ} {r : Bool} (begins : FromFirst s) (ran : Ran g f s u r) where
    pub all_have : (P : List ℤ → Type 0) → Passes g f P → r ≡ true → (k : List ℤ) → Memᴰ k (rows_in rows) → P k
    all_have = all_of (rows_yielded begins) ran

    pub all-decided : (P : List ℤ → Type 0) → Passes g f P → Refuses g f (λ k. P k → ⊥) → Decides r ((k : List ℤ) → Memᴰ k (rows_in rows) → P k)
    all-decided = decided (rows_yielded begins) ran

    pub all-every : (t : List ℤ → Bool) → Passes g f (λ k. true ≡ t k) → Refuses g f (λ k. false ≡ t k) → r ≡ every t (rows_in rows)
    all-every = every-of (rows_yielded begins) ran
