-- What each condition of the refusal table leaves open where it does not apply; and arguments to which none of the conditions
-- on a list, or on a pair n, z, applies are valid.
use mathlib.Core.Path.{◌≡◌, refl, sym, subst}
use mathlib.Core.Logic.{◌↔◌, ◌≢◌}
use mathlib.Core.Bool.{Bool, true, false, not, ◌&&◌, ◌||◌}
use mathlib.Core.List.{List, [], ◌∷◌, map, Memᴰ}
use Prim.Native.Nat.{ℕ, zero, suc, ◌*◌, ◌%◌, ◌<◌, ◌≤◌}
use native.Mathlib.Nat.{div-add-mod'}
use native.Mathlib.Omega.{arith}
use borrow.Author.Tests.{ltb-false, le-ltb, leb-true, le-leb, leb-false, lt-leb, eqb-false, ne_eqb}
use lib.Dec.{eqb, leb, ltb, leb→le, le→leb}
use lib.IntN.{ℤ, pos, negsuc, nat_abs}
use lib.Signed.{lt_z}
use lib.ListN.{length, get_or}
use Rattle.rank1.specs.declared.Tally.{Tally}
use Rattle.rank1.specs.Tests.{every, any}
use Rattle.rank1.specs.Index.{row_count, index_list}
use Rattle.rank1.specs.Rule.{Admissible}
use Rattle.rank1.specs.RuleTest.{admissible}
use Rattle.rank1.specs.Search.{InRange}
use Rattle.rank1.specs.Sums.{gathers}
use Rattle.rank1.specs.Tally.{same_tally}
use Rattle.rank1.specs.Refusal.{refuse, first_of, within, outside, repeats, bad_plan, bad_map_plan, bad_axes, bad_length, bad_whole, bad_row, other_tally, bad_tally, bad_component, bad_corners, equal_rows, bad_modulus, bad_vector, bad_places, inadmissible, ungatherable, list_conditions, pair_conditions}
use Rattle.rank1.specs.Valid.{Distinct, Nonnegative, ValidList, ValidModulus, ValidTally}
use Rattle.rank1.proofs.Distinct.{member_at, Place, place_of}
use Rattle.rank1.proofs.TestLaws.{false_fails, decided_true, decides_both, decides_eqb, decides_tally, either_false, neither, any_false, false_any, repeats_distinct, distinct_repeats}
use Rattle.rank1.proofs.RuleTestLaws.{rule_true}
use Rattle.rank1.proofs.IndexLaws.{component_in}
use Rattle.rank1.proofs.RefusalLaws.{first_of_none, refuse_none}

-- ---- tests that are false, and what they leave open
pub clear : {P : Type 0} (number : ℕ) (b : Bool) → 0 < number → (b ≡ false) ↔ P → (refuse number b ≡ 0) ↔ P
clear number b l p = let r = refuse_none number b l in ((λ e. p.0 (r.0 e)), (λ q. r.1 (p.1 q)))

clear_or : {P Q : Type 0} (a b : Bool) → (a ≡ false) ↔ P → (b ≡ false) ↔ Q → ((a || b) ≡ false) ↔ (P × Q)
clear_or a b p q = ((λ e. let u = either_false a b e in (p.0 u.0, q.0 u.1)), (λ r. neither a b (p.1 r.0) (q.1 r.1)))

clear_and : {P Q : Type 0} (a b : Bool) → (a ≡ true) ↔ P → (b ≡ false) ↔ Q → ((a && b) ≡ false) ↔ (P → Q)
clear_and true b p q = ((λ e h. q.0 e), (λ f. q.1 (f (p.0 refl))))
clear_and false b p q = ((λ e h. absurd (false_fails true (sym (p.1 h)) tt)), (λ f. refl))

clear_not : {P : Type 0} (b : Bool) → (b ≡ true) ↔ P → (not b ≡ false) ↔ P
clear_not true p = ((λ e. p.0 refl), (λ q. refl))
clear_not false p = ((λ e. absurd (false_fails true e tt)), (λ q. absurd (false_fails true (sym (p.1 q)) tt)))

clear_any : {A : Type 0} {P : A → Type 0} (f : A → Bool) (xs : List A) → ((x : A) → (f x ≡ false) ↔ P x) → (any f xs ≡ false) ↔ ((x : A) → Memᴰ x xs → P x)
clear_any f xs g = ((λ e x m. (g x).0 (any_false f xs e x m)), (λ h. false_any f xs (λ x m. (g x).1 (h x m))))

clear_ltb : (a b : ℕ) → (ltb a b ≡ false) ↔ (b ≤ a)
clear_ltb a b = (ltb-false a b, le-ltb a b)

clear_leb : (a b : ℕ) → (leb a b ≡ false) ↔ (b < a)
clear_leb a b = (leb-false a b, lt-leb a b)

clear_eqb : (a b : ℕ) → (eqb a b ≡ false) ↔ (a ≢ b)
clear_eqb a b = (eqb-false a b, ne_eqb a b)

clear_unequal : (a b : ℕ) → (not (eqb a b) ≡ false) ↔ (a ≡ b)
clear_unequal a b = clear_not (eqb a b) (decided_true (eqb a b) (decides_eqb a b))

pub clear_beyond : (low high x : ℕ) → (not (within low high x) ≡ false) ↔ ((low ≤ x) × (x ≤ high))
clear_beyond low high x =
    clear_not (within low high x)
    (decided_true (within low high x) (decides_both (leb low x) (leb x high) (leb→le low x, le→leb low x) (leb→le x high, le→leb x high)))

-- not negative
clear_sign : (x : ℤ) → (lt_z x (pos 0) ≡ false) ↔ Nonnegative (x ∷ [])
clear_sign (pos a) = ((λ e. tt), (λ p. le-ltb a 0 (omega arith)))
clear_sign (negsuc a) = ((λ e. false_fails true e tt), (λ p. absurd p))

-- ---- the conditions, one by one
pub plan_clear : (plan : ℕ) → (bad_plan plan ≡ 0) ↔ (plan ≤ 4)
plan_clear plan = clear 1 (ltb 4 plan) (omega arith) (clear_ltb 4 plan)

pub map_plan_clear : (plan : ℕ) → (bad_map_plan plan ≡ 0) ↔ ((plan ≤ 4) × (plan ≢ 0))
map_plan_clear plan = clear 1 (ltb 4 plan || eqb plan 0) (omega arith) (clear_or (ltb 4 plan) (eqb plan 0) (clear_ltb 4 plan) (clear_eqb plan 0))

pub axes_clear : (d : ℕ) → (bad_axes d ≡ 0) ↔ ((1 ≤ d) × (d ≤ 6))
axes_clear d = clear 2 (not (within 1 6 d)) (omega arith) (clear_beyond 1 6 d)

pub length_clear : (d : ℕ) (xs : List ℤ) → (bad_length d xs ≡ 0) ↔ ((length xs % d ≡ 0) × (row_count d xs ≤ 512))
length_clear d xs =
    clear 3 (not (eqb (length xs % d) 0) || ltb 512 (row_count d xs)) (omega arith)
    (clear_or (not (eqb (length xs % d) 0)) (ltb 512 (row_count d xs)) (clear_unequal (length xs % d) 0) (clear_ltb 512 (row_count d xs)))

pub whole_clear : (d : ℕ) (xs : List ℤ) → (bad_whole d xs ≡ 0) ↔ (length xs % d ≡ 0)
whole_clear d xs = clear 3 (not (eqb (length xs % d) 0)) (omega arith) (clear_unequal (length xs % d) 0)

pub row_clear : (d : ℕ) (row : List ℤ) → (bad_row d row ≡ 0) ↔ (length row ≡ d)
row_clear d row = clear 3 (not (eqb (length row) d)) (omega arith) (clear_unequal (length row) d)

pub other_clear : (t counted : Tally) → (other_tally t counted ≡ 0) ↔ (t ≡ counted)
other_clear t counted = clear 3 (not (same_tally t counted)) (omega arith) (clear_not (same_tally t counted) (decided_true (same_tally t counted) (decides_tally t counted)))

pub tally_clear : (t : Tally) → (bad_tally t ≡ 0) ↔ ValidTally t
tally_clear t = (
  (λ e. let f = tests.0 e in record { few_rows = f.0; small = f.1.0; some_row = f.1.1 }),
  (λ v. tests.1 (v.few_rows, (v.small, v.some_row))),
)
  where
    tests : (bad_tally t ≡ 0) ↔ ((t.m ≤ 512) × ((t.size ≤ 64 * t.m) × (t.zero ≡ true → t.m ≢ 0)))
    tests =
        clear 3 (ltb 512 t.m || (ltb (64 * t.m) t.size || (t.zero && eqb t.m 0))) (omega arith)
        (clear_or (ltb 512 t.m) (ltb (64 * t.m) t.size || (t.zero && eqb t.m 0)) (clear_ltb 512 t.m)
        (clear_or (ltb (64 * t.m) t.size) (t.zero && eqb t.m 0) (clear_ltb (64 * t.m) t.size)
        (clear_and t.zero (eqb t.m 0) ((λ e. e), (λ e. e)) (clear_eqb t.m 0))))

-- a component in its range
abbrev pub Ranged : ℕ → ℤ → Type 0
Ranged plan x = (nat_abs x ≤ 255) × (2 ≤ plan → Nonnegative (x ∷ []))

pub outside_clear : (plan : ℕ) (x : ℤ) → (outside plan x ≡ false) ↔ Ranged plan x
outside_clear plan x =
    clear_or (ltb 255 (nat_abs x)) (leb 2 plan && lt_z x (pos 0)) (clear_ltb 255 (nat_abs x))
    (clear_and (leb 2 plan) (lt_z x (pos 0)) (leb-true 2 plan, le-leb 2 plan) (clear_sign x))

pub component_clear : (plan : ℕ) (xs : List ℤ) → (bad_component plan xs ≡ 0) ↔ ((x : ℤ) → Memᴰ x xs → Ranged plan x)
component_clear plan xs = clear 4 (any (outside plan) xs) (omega arith) (clear_any (outside plan) xs (outside_clear plan))

pub corners_clear : (corners rows : ℕ) → (bad_corners corners rows ≡ 0) ↔ (((1 ≤ corners) × (corners ≤ 32)) × (rows ≤ 512))
corners_clear corners rows =
    clear 13 (not (within 1 32 corners) || ltb 512 rows) (omega arith)
    (clear_or (not (within 1 32 corners)) (ltb 512 rows) (clear_beyond 1 32 corners) (clear_ltb 512 rows))

pub rows_clear : (d : ℕ) (xs : List ℤ) → (equal_rows d xs ≡ 0) ↔ Distinct (index_list d xs)
rows_clear d xs = clear 5 (repeats (index_list d xs)) (omega arith) (repeats_distinct (index_list d xs), distinct_repeats (index_list d xs))

pub modulus_clear : (n : ℕ) → (bad_modulus n ≡ 0) ↔ ((1 ≤ n) × (n ≤ 8192))
modulus_clear n = clear 6 (not (within 1 8192 n)) (omega arith) (clear_beyond 1 8192 n)

pub vector_clear : (d n : ℕ) (z : List ℕ) → (bad_vector d n z ≡ 0) ↔ ((length z ≡ d) × ((x : ℕ) → Memᴰ x z → x < n))
vector_clear d n z =
    clear 7 (not (eqb (length z) d) || any (leb n) z) (omega arith)
    (clear_or (not (eqb (length z) d)) (any (leb n) z) (clear_unequal (length z) d) (clear_any (leb n) z (clear_leb n)))

pub places_clear : (places size : ℕ) → (bad_places places size ≡ 0) ↔ (places ≡ size)
places_clear places size = clear 8 (not (eqb places size)) (omega arith) (clear_unequal places size)

pub rule_clear : (plan : ℕ) (ks : List (List ℤ)) (n : ℕ) (z : List ℕ) → (inadmissible plan ks n z ≡ 0) ↔ Admissible plan ks n (map pos z)
rule_clear plan ks n z =
    clear 10 (not (admissible plan ks n (map pos z))) (omega arith) (clear_not (admissible plan ks n (map pos z)) (rule_true ks n (map pos z) plan))

pub sums_clear : (plan : ℕ) (ks : List (List ℤ)) (n : ℕ) (z : List ℕ) (sums : List ℤ) → (ungatherable plan ks n z sums ≡ 0) ↔ (every (gathers plan n (map pos z) sums) ks ≡ true)
sums_clear plan ks n z sums =
    let b = every (gathers plan n (map pos z) sums) ks in
    clear 11 (not b) (omega arith) (clear_not b ((λ e. e), (λ e. e)))

-- ---- a valid list
-- a row of components that are not negative
row_sign : (k : List ℤ) → ((x : ℤ) → Memᴰ x k → Nonnegative (x ∷ [])) → Nonnegative k
row_sign [] h = tt
row_sign (pos a ∷ k) h = row_sign k (λ x m. h x (Memᴰ.tail m))
row_sign (negsuc a ∷ k) h = h (negsuc a) (Memᴰ.head refl)

-- a number of the run, or the 0 past its end
small_at : (xs : List ℤ) → ((x : ℤ) → Memᴰ x xs → nat_abs x ≤ 255) → (i : ℕ) → nat_abs (get_or xs i (pos 0)) ≤ 255
small_at [] h i = omega arith
small_at (x ∷ xs) h zero = h x (Memᴰ.head refl)
small_at (x ∷ xs) h (suc i) = small_at xs (λ y m. h y (Memᴰ.tail m)) i

module _ (plan d : ℕ) (xs : List ℤ) (none : first_of (list_conditions plan d xs) ≡ 0) where
  pub list-axes : (1 ≤ d) × (d ≤ 6)
  list-axes = (axes_clear d).0 ((first_of_none (bad_axes d) (bad_length d xs ∷ bad_component plan xs ∷ equal_rows d xs ∷ [])).0 none).0

  after-axes : first_of (bad_length d xs ∷ bad_component plan xs ∷ equal_rows d xs ∷ []) ≡ 0
  after-axes = ((first_of_none (bad_axes d) (bad_length d xs ∷ bad_component plan xs ∷ equal_rows d xs ∷ [])).0 none).1

  after-length : first_of (bad_component plan xs ∷ equal_rows d xs ∷ []) ≡ 0
  after-length = ((first_of_none (bad_length d xs) (bad_component plan xs ∷ equal_rows d xs ∷ [])).0 after-axes).1

  pub list_length : (length xs % d ≡ 0) × (row_count d xs ≤ 512)
  list_length = (length_clear d xs).0 ((first_of_none (bad_length d xs) (bad_component plan xs ∷ equal_rows d xs ∷ [])).0 after-axes).0

  -- m rows of d components
  pub list_whole : length xs ≡ row_count d xs * d
  list_whole = omega (arith, div-add-mod' (length xs) d, list_length.0)

  pub list_components : (x : ℤ) → Memᴰ x xs → Ranged plan x
  list_components = (component_clear plan xs).0 ((first_of_none (bad_component plan xs) (equal_rows d xs ∷ [])).0 after-length).0

  pub list-rows : Distinct (index_list d xs)
  list-rows = (rows_clear d xs).0 ((first_of_none (equal_rows d xs) []).0 ((first_of_none (bad_component plan xs) (equal_rows d xs ∷ [])).0 after-length).1).0

  pub valid_list : ValidList plan d xs
  valid_list = record {
    some_axes = list-axes.0;
    few_axes = list-axes.1;
    whole = list_whole;
    few_rows = list_length.1;
    small = small_at xs (λ x m. (list_components x m).0);
    unsigned = λ l k i. row_sign k (λ x m. (list_components x (component_in d (row_count d xs) xs k x i m)).1 l);
    different = list-rows;
  }

-- ---- a valid pair n, z
pub valid_modulus : (n : ℕ) → bad_modulus n ≡ 0 → ValidModulus n
valid_modulus n e = let r = (modulus_clear n).0 e in record { low = r.0; high = r.1 }

pub valid_vector : (d n : ℕ) (z : List ℕ) → (bad_vector d n z ≡ 0) ↔ InRange n d z
valid_vector d n z = (there, back)
  where
    there : bad_vector d n z ≡ 0 → InRange n d z
    there e =
        let r = (vector_clear d n z).0 e in
        record { size = r.0; below = λ j l. r.1 (get_or z j 0) (member_at z 0 j (omega (arith, r.0))) }

    back : InRange n d z → bad_vector d n z ≡ 0
    back r = (vector_clear d n z).1 (r.size, λ x m. at x (place_of z x 0 m))
      where
        at : (x : ℕ) → Place z x 0 → x < n
        at x p = subst (λ (y : ℕ). y < n) p.is (r.below p.index (omega (arith, p.inside, r.size)))

pub valid_pair : (d n : ℕ) (z : List ℕ) → first_of (pair_conditions d n z) ≡ 0 → ValidModulus n × InRange n d z
valid_pair d n z e =
    let r = (first_of_none (bad_modulus n) (bad_vector d n z ∷ [])).0 e in
    (valid_modulus n r.0, (valid_vector d n z).0 ((first_of_none (bad_vector d n z) []).0 r.1).0)

-- and neither 6 nor 7 applies to one
pub pair_none : (d n : ℕ) (z : List ℕ) → ValidModulus n → InRange n d z → first_of (pair_conditions d n z) ≡ 0
pair_none d n z m r =
    (first_of_none (bad_modulus n) (bad_vector d n z ∷ [])).1
    ((modulus_clear n).1 (m.low, m.high), (first_of_none (bad_vector d n z) []).1 ((valid_vector d n z).1 r, refl))
