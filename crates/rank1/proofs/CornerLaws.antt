-- The list of some corners: there is one (`corner-rows_are`) and only one (`only_one`); its first row is zero (`first_place`).
use mathlib.Core.Path.{◌≡◌, refl, sym, ◌∙◌, ap, subst}
use mathlib.Core.Logic.{◌⊎◌, inl, inr, ⊎_elim, ◌↔◌}
use mathlib.Core.Bool.{Bool, true, false, cond}
use mathlib.Core.List.Memᴰ
use mathlib.Core.List.{List, [], ◌∷◌, ◌++◌, map, Memᴰ}
use Prim.Native.Nat.{ℕ, zero, suc, ◌+◌, ◌≤◌, ◌<◌}
use native.Mathlib.Nat.{div-mul-le_self}
use native.Mathlib.Omega.{arith}
use lib.Dec.{T}
use lib.IntN.{ℤ, pos, negsuc, nat_abs}
use lib.ListN.{length, get_or, replicate}
use Rattle.rank1.specs.Tests.{up_from, up_to}
use Rattle.rank1.specs.Index.{headed, row_count, index_list, zero_row}
use Rattle.rank1.specs.Search.{Before}
use Rattle.rank1.specs.Valid.{Distinct}
use Rattle.rank1.proofs.TestLaws.{true_holds, false_fails, some_of}
use Rattle.rank1.proofs.Distinct.{member_at, Place, place_of}
use Rattle.rank1.proofs.IndexLaws.{member_length}
use Rattle.rank1.proofs.Headed.{headed_in, headed_parts}
use Rattle.rank1.proofs.SearchTests.{up_to_in}
use Rattle.rank1.specs.Corners.{under, under_some, Earlier, Ascending, CornerList}
use Rattle.rank1.proofs.UnderLaws.{under-turn, turn-under, earlier_irrefl, earlier_asym, none_earlier}

-- ---- ascending lists
-- one after the other, where all of the first come before all of the second
ascending_append : (xs ys : List (List ℤ)) → Ascending xs → Ascending ys → ((k h : List ℤ) → Memᴰ k xs → Memᴰ h ys → Earlier k h) → Ascending (xs ++ ys)
ascending_append [] ys p q apart = q
ascending_append (x ∷ xs) ys p q apart = (
  (λ h m. ⊎_elim (p.0 h) (apart x h (Memᴰ.head refl)) (Memᴰ.append_cases xs m)),
  ascending_append xs ys p.1 q (λ k h m. apart k h (Memᴰ.tail m)),
)

-- no row stands twice
pub ascending_distinct : (ks : List (List ℤ)) → Ascending ks → Distinct ks
ascending_distinct [] p = tt
ascending_distinct (k ∷ ks) p = ((λ m. earlier_irrefl k (p.0 k m)), ascending_distinct ks p.1)

-- by places
pub ascending_at : (ks : List (List ℤ)) (i j : ℕ) → Ascending ks → i < j → j < length ks → Earlier (get_or ks i []) (get_or ks j [])
ascending_at [] i j p l h = absurd (omega arith)
ascending_at (k ∷ ks) i zero p l h = absurd (omega arith)
ascending_at (k ∷ ks) zero (suc j) p l h = p.0 (get_or ks j []) (member_at ks [] j (omega arith))
ascending_at (k ∷ ks) (suc i) (suc j) p l h = ascending_at ks i j p.1 (omega arith) (omega arith)

-- two ascending lists with the same members are the same: the first rows are equal, since each is in the other list, and so
-- are the rests
first_same : (k : List ℤ) (ks : List (List ℤ)) (h : List ℤ) (hs : List (List ℤ)) → Ascending (k ∷ ks) → Ascending (h ∷ hs) → Memᴰ k (h ∷ hs) → Memᴰ h (k ∷ ks) → k ≡ h
first_same k ks h hs p q m n =
    ⊎_elim (λ e. e)
    (λ m'. ⊎_elim sym (λ n'. absurd (earlier_asym k h (p.0 h n') (q.0 k m'))) (Memᴰ.cases_cons n))
    (Memᴰ.cases_cons m)

-- a later member of the one list is a later member of the other
rest_in : (k : List ℤ) (ks : List (List ℤ)) (h : List ℤ) (hs : List (List ℤ)) → Ascending (k ∷ ks) → k ≡ h → (x : List ℤ) → Memᴰ x ks → Memᴰ x (h ∷ hs) → Memᴰ x hs
rest_in k ks h hs p e x m n =
    ⊎_elim (λ f. absurd (earlier_irrefl k (subst (Earlier k) (f ∙ sym e) (p.0 x m)))) (λ n'. n') (Memᴰ.cases_cons n)

pub same_members : (ks hs : List (List ℤ)) → Ascending ks → Ascending hs → ((x : List ℤ) → Memᴰ x ks ↔ Memᴰ x hs) → ks ≡ hs
same_members [] [] p q s = refl
same_members [] (h ∷ hs) p q s = absurd (Memᴰ.not-nil ((s h).1 (Memᴰ.head refl)))
same_members (k ∷ ks) [] p q s = absurd (Memᴰ.not-nil ((s k).0 (Memᴰ.head refl)))
same_members (k ∷ ks) (h ∷ hs) p q s =
    let e = first_same k ks h hs p q ((s k).0 (Memᴰ.head refl)) ((s h).1 (Memᴰ.head refl)) in
    ap (λ (r : List ℤ). r ∷ ks) e
    ∙ ap (λ (r : List (List ℤ)). h ∷ r)
    (same_members ks hs p.1 q.1
    (λ x. ((λ m. rest_in k ks h hs p e x m ((s x).0 (Memᴰ.tail m))), (λ m. rest_in h hs k ks q (sym e) x m ((s x).1 (Memᴰ.tail m))))))

-- only one list is the list of the corners
pub only_one : (cs ks hs : List (List ℤ)) → CornerList cs ks → CornerList cs hs → ks ≡ hs
only_one cs ks hs p q =
    same_members ks hs p.ascending q.ascending
    (λ x. ((λ m. (q.members x).1 ((p.members x).0 m)), (λ m. (p.members x).1 ((q.members x).0 m))))

-- ---- a list of them: of all rows from zero to a number that no corner passes, those up to some corner
-- the members that pass, in the order in which they stand
abbrev keep : {A : Type 0} → (A → Bool) → List A → List A
keep f [] = []
keep f (x ∷ xs) = cond (f x) (x ∷ keep f xs) (keep f xs)

-- all rows of d components from 0 to top, in dictionary order
abbrev rows_to : ℕ → ℕ → List (List ℤ)
rows_to top zero = [] ∷ []
rows_to top (suc d) = headed (map pos (up_to (suc top))) (rows_to top d)

module _ {A : Type 0} (f : A → Bool) where
  keep_in : (xs : List A) (x : A) → Memᴰ x xs → T (f x) → Memᴰ x (keep f xs)
  keep_in [] x m t = absurd (Memᴰ.not-nil m)
  keep_in (y ∷ xs) x m t = go (f y) refl (Memᴰ.cases_cons m) (λ n. keep_in xs x n t)
    where
      go : (b : Bool) → f y ≡ b → (x ≡ y) ⊎ Memᴰ x xs → (Memᴰ x xs → Memᴰ x (keep f xs)) → Memᴰ x (cond b (y ∷ keep f xs) (keep f xs))
      go true e (inl p) rest = Memᴰ.head p
      go true e (inr n) rest = Memᴰ.tail (rest n)
      go false e (inl p) rest = absurd (false_fails (f y) e (subst (λ (z : A). T (f z)) p t))
      go false e (inr n) rest = rest n

  keep_out : (xs : List A) (x : A) → Memᴰ x (keep f xs) → Memᴰ x xs × T (f x)
  keep_out [] x m = absurd (Memᴰ.not-nil m)
  keep_out (y ∷ xs) x m = go (f y) refl m (keep_out xs x)
    where
      go : (b : Bool) → f y ≡ b → Memᴰ x (cond b (y ∷ keep f xs) (keep f xs)) → (Memᴰ x (keep f xs) → Memᴰ x xs × T (f x)) → Memᴰ x (y ∷ xs) × T (f x)
      go true e n rest =
          ⊎_elim (λ p. (Memᴰ.head p, subst (λ (z : A). T (f z)) (sym p) (true_holds (f y) e))) (λ n'. let r = rest n' in (Memᴰ.tail r.0, r.1)) (Memᴰ.cases_cons n)
      go false e n rest = let r = rest n in (Memᴰ.tail r.0, r.1)

keep_ascending : (f : List ℤ → Bool) (ks : List (List ℤ)) → Ascending ks → Ascending (keep f ks)
keep_ascending f [] p = tt
keep_ascending f (k ∷ ks) p = go (f k) (keep_ascending f ks p.1)
  where
    go : (b : Bool) → Ascending (keep f ks) → Ascending (cond b (k ∷ keep f ks) (keep f ks))
    go true q = ((λ h m. p.0 h (keep_out f ks h m).0), q)
    go false q = q

-- ---- all rows of d components from 0 to top: those up to the row of d times top
rows_to_in : (top d : ℕ) (k : List ℤ) → T (under k (replicate d (pos top))) → Memᴰ k (rows_to top d)
rows_to_in top zero [] t = Memᴰ.head refl
rows_to_in top zero (x ∷ k) t = absurd t
rows_to_in top (suc d) [] t = absurd t
rows_to_in top (suc d) (pos a ∷ k) t =
    let u = under-turn a k top (replicate d (pos top)) t in
    headed_in (map pos (up_to (suc top))) (rows_to top d) (pos a) k (Memᴰ.map pos (up_to_in (suc top) a (omega (arith, u.0)))) (rows_to_in top d k u.1)
rows_to_in top (suc d) (negsuc a ∷ k) t = absurd t

-- the numbers counted up from i
counted-out : (i n a : ℕ) → Memᴰ a (up_from i n) → (i ≤ a) × (a < i + n)
counted-out i zero a m = absurd (Memᴰ.not-nil m)
counted-out i (suc n) a m =
    ⊎_elim (λ e. (omega arith, omega arith)) (λ m'. let r = counted-out (suc i) n a m' in (omega (arith, r.0), omega (arith, r.1))) (Memᴰ.cases_cons m)

-- rows with the same first component
same_head : (a : ℕ) (ss : List (List ℤ)) → Ascending ss → Ascending (map (λ s. pos a ∷ s) ss)
unfolding Before
same_head a [] p = tt
same_head a (s ∷ ss) p = (
  (λ h m. let t = Memᴰ.of_map (λ r. pos a ∷ r) ss m in subst (Earlier (pos a ∷ s)) t.2 (inr (refl, p.0 t.0 t.1))),
  same_head a ss p.1,
)

headed_ascending : (i n : ℕ) (ss : List (List ℤ)) → Ascending ss → Ascending (headed (map pos (up_from i n)) ss)
unfolding Before
headed_ascending i zero ss p = tt
headed_ascending i (suc n) ss p =
    ascending_append (map (λ s. pos i ∷ s) ss) (headed (map pos (up_from (suc i) n)) ss) (same_head i ss p) (headed_ascending (suc i) n ss p) apart
  where
    apart : (k h : List ℤ) → Memᴰ k (map (λ s. pos i ∷ s) ss) → Memᴰ h (headed (map pos (up_from (suc i) n)) ss) → Earlier k h
    apart k h m o =
        let t = Memᴰ.of_map (λ r. pos i ∷ r) ss m in
        let q = headed_parts (map pos (up_from (suc i) n)) ss h o in
        let a = Memᴰ.of_map pos (up_from (suc i) n) q.among in
        subst (λ (r : List ℤ). Earlier r h) t.2
        (subst (Earlier (pos i ∷ t.0)) (ap (λ (x : ℤ). x ∷ q.rest) a.2 ∙ sym q.is) (inl (omega (arith, (counted-out (suc i) n a.0 a.1).0))))

rows_to_ascending : (top d : ℕ) → Ascending (rows_to top d)
rows_to_ascending top zero = ((λ h m. absurd (Memᴰ.not-nil m)), tt)
rows_to_ascending top (suc d) = headed_ascending 0 (suc top) (rows_to top d) (rows_to_ascending top d)

-- the sizes of all components of a row together, and of all rows: no component is larger
abbrev total : List ℤ → ℕ
total [] = 0
total (x ∷ c) = nat_abs x + total c

abbrev totals : List (List ℤ) → ℕ
totals [] = 0
totals (c ∷ cs) = total c + totals cs

total_among : (cs : List (List ℤ)) (c : List ℤ) → Memᴰ c cs → total c ≤ totals cs
total_among [] c m = absurd (Memᴰ.not-nil m)
total_among (b ∷ cs) c m =
    ⊎_elim (λ e. omega (arith, ap total e)) (λ n. omega (arith, total_among cs c n)) (Memᴰ.cases_cons m)

-- so a row up to a row is up to the row of as many times that total
under-total : (k c : List ℤ) (top : ℕ) → T (under k c) → total c ≤ top → T (under k (replicate (length c) (pos top)))
under-total [] [] top t l = tt
under-total [] (y ∷ c) top t l = absurd t
under-total (x ∷ k) [] top t l = absurd t
under-total (pos a ∷ k) (pos b ∷ c) top t l =
    let u = under-turn a k b c t in
    turn-under a k top (replicate (length c) (pos top)) (omega (arith, u.0)) (under-total k c top u.1 (omega arith))
under-total (pos a ∷ k) (negsuc b ∷ c) top t l = absurd t
under-total (negsuc a ∷ k) (y ∷ c) top t l = absurd t

-- for corners of d components
unfoldable pub corner_rows : ℕ → List (List ℤ) → List (List ℤ)
corner_rows d cs = keep (under_some cs) (rows_to (totals cs) d)

pub corner-rows_are : (d : ℕ) (cs : List (List ℤ)) → ((c : List ℤ) → Memᴰ c cs → length c ≡ d) → CornerList cs (corner_rows d cs)
unfolding corner_rows
corner-rows_are d cs long = record {
  members = λ k. ((λ m. (keep_out (under_some cs) rows k m).1), (λ t. keep_in (under_some cs) rows k (rows_to_in (totals cs) d k (whole k t)) t));
  ascending = keep_ascending (under_some cs) rows (rows_to_ascending (totals cs) d);
}
  where
    rows : List (List ℤ)
    rows = rows_to (totals cs) d

    whole : (k : List ℤ) → T (under_some cs k) → T (under k (replicate d (pos (totals cs))))
    whole k t =
        let s = some_of (under k) cs t in
        subst (λ (n : ℕ). T (under k (replicate n (pos (totals cs))))) (long s.found s.listed)
        (under-total k s.found (totals cs) s.passes (total_among cs s.found s.listed))

-- for the corners in any run
pub run_corners : (d : ℕ) (xs : List ℤ) → CornerList (index_list d xs) (corner_rows d (index_list d xs))
run_corners d xs = corner-rows_are d (index_list d xs) (λ c. member_length d (row_count d xs) xs c (div-mul-le_self (length xs) d))

-- ---- the list from its first row on
module _ (cs ks : List (List ℤ)) (list : CornerList cs ks) where
  -- the row at a place is up to some corner
  pub at_within : (i : ℕ) → i < length ks → T (under_some cs (get_or ks i []))
  at_within i l = (list.members (get_or ks i [])).0 (member_at ks [] i l)

  -- the list starts with the row of zeros
  pub first_place : (d : ℕ) → T (under_some cs (zero_row d)) → (0 < length ks) × (get_or ks 0 [] ≡ zero_row d)
  first_place d t = go (place_of ks (zero_row d) [] ((list.members (zero_row d)).1 t))
    where
      go : Place ks (zero_row d) [] → (0 < length ks) × (get_or ks 0 [] ≡ zero_row d)
      go p = (omega (arith, p.inside), at p.index p.inside p.is)
        where
          at : (j : ℕ) → j < length ks → get_or ks j [] ≡ zero_row d → get_or ks 0 [] ≡ zero_row d
          at zero l e = e
          at (suc j) l e = absurd (none_earlier d (get_or ks 0 []) (subst (Earlier (get_or ks 0 [])) e (ascending_at ks 0 (suc j) list.ascending (omega arith) l)))
