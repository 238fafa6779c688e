-- A list with a row more: its rows are those of the list and the row, so what conditions 4 and 5 say of it is told by the two.
use mathlib.Core.Path.{◌≡◌, refl, sym, ◌∙◌, ap, ap₂}
use mathlib.Core.Bool.{Bool, true, false, ◌||◌}
use mathlib.Core.List.{List, [], ◌∷◌, ◌++◌}
use Prim.Native.Nat.{ℕ, zero, suc, ◌+◌, ◌*◌, ◌/◌, ◌%◌, ◌≤◌}
use native.Mathlib.Nat.{add-div_right, add-mod_right, div-add-mod', div-mul-le_self}
use native.Mathlib.Numerals.{add-one}
use native.Mathlib.Omega.{arith}
use lib.IntN.{ℤ}
use lib.ListN.{length, take, drop, length-append}
use lib.Seq.{take_all, drop_at}
use Rattle.rank1.specs.Tests.{any, same_row}
use Rattle.rank1.specs.Index.{rows_of, row_count, index_list}
use Rattle.rank1.specs.Refusal.{refuse, outside, first_of, repeats, bad_axes, bad_row, bad_length, bad_component, equal_rows, longer_conditions}
use Rattle.rank1.specs.Valid.{ValidList}
use Rattle.rank1.proofs.TestLaws.{row_true, row_false, decides_row, decided_is}
use Rattle.rank1.proofs.IndexLaws.{rows_front, rows_snoc}
use Rattle.rank1.proofs.RefusalLaws.{first_of_none}
use Rattle.rank1.proofs.ValidLaws.{axes_clear, row_clear, length_clear, valid_list}

-- ---- the rows
module _ (d : ℕ) (xs row : List ℤ) (some : 1 ≤ d) (long : length row ≡ d) where
  both : length (xs ++ row) ≡ length xs + d
  both = length-append xs row ∙ ap (λ (k : ℕ). length xs + k) long

  count_longer : row_count d (xs ++ row) ≡ suc (row_count d xs)
  count_longer = ap (λ (k : ℕ). k / d) both ∙ add-div_right (length xs) some ∙ add-one (row_count d xs)

  whole_longer : length (xs ++ row) % d ≡ length xs % d
  whole_longer = ap (λ (k : ℕ). k % d) both ∙ add-mod_right (length xs) d

  rows_longer : length xs % d ≡ 0 → index_list d (xs ++ row) ≡ index_list d xs ++ (row ∷ [])
  rows_longer whole =
      ap (λ (k : ℕ). rows_of d k (xs ++ row)) count_longer
      ∙ rows_snoc d (row_count d xs) (xs ++ row)
      ∙ ap₂ (λ (a : List (List ℤ)) (b : List ℤ). a ++ (b ∷ [])) (rows_front d (row_count d xs) xs row (omega (arith, lines))) last
    where
      lines : length xs ≡ row_count d xs * d
      lines = omega (arith, div-add-mod' (length xs) d, whole)

      last : take d (drop (row_count d xs * d) (xs ++ row)) ≡ row
      last = ap (take d) (drop_at xs row (row_count d xs * d) lines) ∙ take_all d row (omega (arith, long))

-- where neither condition 3 applies, the row is d numbers and the longer list's rows are those of the list and the row
pub lengths_longer : (d : ℕ) (xs row : List ℤ) → 1 ≤ d → bad_row d row ≡ 0 → bad_length d (xs ++ row) ≡ 0 → (length row ≡ d) × (index_list d (xs ++ row) ≡ index_list d xs ++ (row ∷ []))
lengths_longer d xs row some row-right List-right =
    let long = (row_clear d row).0 row-right in
    (long, rows_longer d xs row some long (sym (whole_longer d xs row some long) ∙ ((length_clear d (xs ++ row)).0 List-right).0))

-- ---- some member, in the one list or in the other
pub any_append : {A : Type 0} (f : A → Bool) (xs ys : List A) → any f (xs ++ ys) ≡ (any f xs || any f ys)
any_append f [] ys = refl
any_append f (x ∷ xs) ys = go (f x) (any_append f xs ys)
  where
    go : (b : Bool) → any f (xs ++ ys) ≡ (any f xs || any f ys) → (b || any f (xs ++ ys)) ≡ ((b || any f xs) || any f ys)
    go true e = refl
    go false e = e

or_none : (b : Bool) → (b || false) ≡ b
or_none true = refl
or_none false = refl

-- a member more
pub any-more : {A : Type 0} (f : A → Bool) (xs : List A) (x : A) → any f (xs ++ (x ∷ [])) ≡ (any f xs || f x)
any-more f xs x = any_append f xs (x ∷ []) ∙ ap (λ (b : Bool). any f xs || b) (or_none (f x))

-- ---- two rows are equal: two of the list, or the row is one of them
same_turned : (s t : List ℤ) → same_row s t ≡ same_row t s
same_turned s t =
    decided_is (same_row s t) (same_row t s) (decides_row t s) (λ e. sym ((row_true s t).0 e)) (λ e p. (row_false s t).0 e (sym p))

pub repeats_longer : (ks : List (List ℤ)) (k : List ℤ) → repeats (ks ++ (k ∷ [])) ≡ (repeats ks || any (same_row k) ks)
repeats_longer [] k = refl
repeats_longer (l ∷ ks) k =
    ap₂ (λ (a b : Bool). a || b) (any-more (same_row l) ks k ∙ ap (λ (b : Bool). any (same_row l) ks || b) (same_turned l k)) (repeats_longer ks k)
    ∙ turned (any (same_row l) ks) (same_row k l) (repeats ks) (any (same_row k) ks)
  where
    turned : (a b c e : Bool) → ((a || b) || (c || e)) ≡ ((a || c) || (b || e))
    turned true b c e = refl
    turned false true true e = refl
    turned false true false e = refl
    turned false false c e = refl

-- ---- conditions 2 to 5 of the longer list, one after the other: 4 and 5 by the list and then by the row
-- what follows a condition counts only where it does not apply
first_tail : (k : ℕ) (ks ls : List ℕ) → (k ≡ 0 → first_of ks ≡ first_of ls) → first_of (k ∷ ks) ≡ first_of (k ∷ ls)
first_tail zero ks ls h = h refl
first_tail (suc k) ks ls h = refl

-- one condition of two tests is two with one number
either_first : (n : ℕ) (a b : Bool) (ks : List ℕ) → first_of (refuse (suc n) (a || b) ∷ ks) ≡ first_of (refuse (suc n) a ∷ refuse (suc n) b ∷ ks)
either_first n true b ks = refl
either_first n false b ks = refl

pub longer_parts : (plan d : ℕ) (xs row : List ℤ) → first_of (longer_conditions plan d xs row) ≡ first_of (bad_axes d ∷ bad_row d row ∷ bad_length d (xs ++ row) ∷ bad_component plan xs ∷ bad_component plan row ∷ equal_rows d xs ∷ refuse 5 (any (same_row row) (index_list (length row) xs)) ∷ [])
longer_parts plan d xs row =
    first_tail (bad_axes d) (bad_row d row ∷ bad_length d (xs ++ row) ∷ whole) (bad_row d row ∷ bad_length d (xs ++ row) ∷ parts)
    (λ a. first_tail (bad_row d row) (bad_length d (xs ++ row) ∷ whole) (bad_length d (xs ++ row) ∷ parts)
    (λ b. first_tail (bad_length d (xs ++ row)) whole parts (λ c. later a b c)))
  where
    whole : List ℕ
    whole = bad_component plan (xs ++ row) ∷ equal_rows d (xs ++ row) ∷ []

    parts : List ℕ
    parts = bad_component plan xs ∷ bad_component plan row ∷ equal_rows d xs ∷ refuse 5 (any (same_row row) (index_list (length row) xs)) ∷ []

    later : bad_axes d ≡ 0 → bad_row d row ≡ 0 → bad_length d (xs ++ row) ≡ 0 → first_of whole ≡ first_of parts
    later a b c =
        let e = lengths_longer d xs row ((axes_clear d).0 a).0 b c in
        let added = any (same_row row) (index_list (length row) xs) in
        ap (λ (t : Bool). first_of (refuse 4 t ∷ equal_rows d (xs ++ row) ∷ [])) (any_append (outside plan) xs row)
        ∙ either_first 3 (any (outside plan) xs) (any (outside plan) row) (equal_rows d (xs ++ row) ∷ [])
        ∙ first_tail (bad_component plan xs) (bad_component plan row ∷ equal_rows d (xs ++ row) ∷ []) (bad_component plan row ∷ equal_rows d xs ∷ refuse 5 added ∷ [])
        (λ f. first_tail (bad_component plan row) (equal_rows d (xs ++ row) ∷ []) (equal_rows d xs ∷ refuse 5 added ∷ [])
        (λ g. ap (λ (ks : List (List ℤ)). first_of (refuse 5 (repeats ks) ∷ [])) e.1
        ∙ ap (λ (t : Bool). first_of (refuse 5 t ∷ [])) (repeats_longer (index_list d xs) row ∙ ap (λ (k : ℕ). repeats (index_list d xs) || any (same_row row) (index_list k xs)) (sym e.0))
        ∙ either_first 4 (repeats (index_list d xs)) added []))

-- ---- where conditions 2 to 5 of the longer list do not apply: it is valid, its rows are those of the list and the row, and the list
-- is one of at most 511 whole rows
pub record Longer (plan d : ℕ) (xs row : List ℤ) : Type 0 where
  pub valid : ValidList plan d (xs ++ row)
  pub long : length row ≡ d
  pub rows : index_list d (xs ++ row) ≡ index_list d xs ++ (row ∷ [])
  pub fits : row_count d xs * d ≤ length xs
  pub few_rows : row_count d xs ≤ 511

pub longer : (plan d : ℕ) (xs row : List ℤ) → first_of (longer_conditions plan d xs row) ≡ 0 → Longer plan d xs row
longer plan d xs row none =
    let later = bad_component plan (xs ++ row) ∷ equal_rows d (xs ++ row) ∷ [] in
    let axes = (first_of_none (bad_axes d) (bad_row d row ∷ bad_length d (xs ++ row) ∷ later)).0 none in
    let added = (first_of_none (bad_row d row) (bad_length d (xs ++ row) ∷ later)).0 axes.1 in
    let valid = valid_list plan d (xs ++ row) ((first_of_none (bad_axes d) (bad_length d (xs ++ row) ∷ later)).1 (axes.0, added.1)) in
    let lengths = lengths_longer d xs row valid.some_axes added.0 ((first_of_none (bad_length d (xs ++ row)) later).0 added.1).0 in
    record {
      valid = valid;
      long = lengths.0;
      rows = lengths.1;
      fits = div-mul-le_self (length xs) d;
      few_rows = omega (arith, count_longer d xs row valid.some_axes lengths.0, valid.few_rows);
    }
