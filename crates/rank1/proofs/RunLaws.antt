-- Rows written one after the other in a run (`run_of`): the run has these rows; and different rows of 1 to 6 components from 0 to 255
-- pass the conditions on a list under every plan.
use mathlib.Core.Path.{◌≡◌, refl, sym, ◌∙◌, ap, subst}
use mathlib.Core.Logic.{⊎_elim}
use mathlib.Core.List.Memᴰ
use mathlib.Core.List.{List, [], ◌∷◌, ◌++◌, append_assoc, append-nil, Memᴰ}
use Prim.Native.Nat.{ℕ, zero, suc, ◌+◌, ◌*◌, ◌/◌, ◌%◌, ◌<◌, ◌≤◌}
use native.Mathlib.Nat.{suc-mul, zero-mul, mul-div_cancel, mul-mod_left}
use native.Mathlib.Omega.{arith}
use lib.IntN.{ℤ}
use lib.ListN.{length, get_or, take, drop, length-append, length-drop}
use lib.Seq.{take_at, drop_at, take-suc, take-add, take_all}
use Rattle.rank1.specs.Index.{rows_of, row_count, index_list, run_of}
use Rattle.rank1.specs.Valid.{Distinct}
use Rattle.rank1.specs.Refusal.{first_of, bad_axes, bad_length, bad_component, equal_rows, list_conditions}
use Rattle.rank1.proofs.RefusalLaws.{first_of_skip}
use Rattle.rank1.proofs.ValidLaws.{axes_clear, length_clear, component_clear, rows_clear, Ranged}

pub run-append : (ks hs : List (List ℤ)) → run_of (ks ++ hs) ≡ run_of ks ++ run_of hs
run-append [] hs = refl
run-append (k ∷ ks) hs = ap (λ (r : List ℤ). k ++ r) (run-append ks hs) ∙ sym (append_assoc k (run_of ks) (run_of hs))

-- one row more
pub run_more : (ks : List (List ℤ)) (i : ℕ) → i < length ks → run_of (take (suc i) ks) ≡ run_of (take i ks) ++ get_or ks i []
run_more ks i l =
    ap run_of (take-suc ks i [] l)
    ∙ run-append (take i ks) (get_or ks i [] ∷ [])
    ∙ ap (λ (r : List ℤ). run_of (take i ks) ++ r) (append-nil (get_or ks i []))

-- a number of the run is a component of a row
pub run_out : (ks : List (List ℤ)) (P : ℤ → Type 0) → ((k : List ℤ) → Memᴰ k ks → (x : ℤ) → Memᴰ x k → P x) → (x : ℤ) → Memᴰ x (run_of ks) → P x
run_out [] P h x m = absurd (Memᴰ.not-nil m)
run_out (k ∷ ks) P h x m = ⊎_elim (h k (Memᴰ.head refl) x) (run_out ks P (λ r n. h r (Memᴰ.tail n)) x) (Memᴰ.append_cases k m)

-- ---- rows of d components
module _ (d : ℕ) where
  pub run_length : (ks : List (List ℤ)) → ((k : List ℤ) → Memᴰ k ks → length k ≡ d) → length (run_of ks) ≡ length ks * d
  run_length [] h = sym (zero-mul d)
  run_length (k ∷ ks) h =
      omega (arith, length-append k (run_of ks), h k (Memᴰ.head refl), run_length ks (λ r m. h r (Memᴰ.tail m)), suc-mul (length ks) d)

  run_front : (ks : List (List ℤ)) → ((k : List ℤ) → Memᴰ k ks → length k ≡ d) → rows_of d (length ks) (run_of ks) ≡ ks
  run_front [] h = refl
  run_front (k ∷ ks) h =
      let e = h k (Memᴰ.head refl) in
      ap (λ (r : List ℤ). r ∷ rows_of d (length ks) (drop d (k ++ run_of ks))) (take_at k (run_of ks) d e)
      ∙ ap (λ (r : List ℤ). k ∷ rows_of d (length ks) r) (drop_at k (run_of ks) d e)
      ∙ ap (λ (r : List (List ℤ)). k ∷ r) (run_front ks (λ r m. h r (Memᴰ.tail m)))

  -- and the rows of a run, one after the other, are its numbers
  pub rows_run : (m : ℕ) (xs : List ℤ) → m * d ≤ length xs → run_of (rows_of d m xs) ≡ take (m * d) xs
  rows_run zero xs l = ap (λ (n : ℕ). take n xs) (sym (zero-mul d))
  rows_run (suc m) xs l =
      let e : d + m * d ≡ suc m * d = omega (arith, suc-mul m d) in
      ap (λ (r : List ℤ). take d xs ++ r) (rows_run m (drop d xs) (omega (arith, length-drop d xs, suc-mul m d)))
      ∙ sym (take-add d (m * d) xs)
      ∙ ap (λ (n : ℕ). take n xs) e

  -- so what holds of the components of all rows of a run of whole rows holds of its numbers
  pub whole_out : (xs : List ℤ) (P : ℤ → Type 0) → length xs ≡ row_count d xs * d → ((k : List ℤ) → Memᴰ k (index_list d xs) → (x : ℤ) → Memᴰ x k → P x) → (x : ℤ) → Memᴰ x xs → P x
  whole_out xs P whole h x m =
      run_out (index_list d xs) P h x
      (subst (Memᴰ x) (sym (rows_run (row_count d xs) xs (omega (arith, whole)) ∙ take_all (row_count d xs * d) xs (omega (arith, whole)))) m)

  module _ (ks : List (List ℤ)) (some : 1 ≤ d) (long : (k : List ℤ) → Memᴰ k ks → length k ≡ d) where
    pub run-count : row_count d (run_of ks) ≡ length ks
    run-count = ap (λ (n : ℕ). n / d) (run_length ks long) ∙ mul-div_cancel (length ks) some

    -- the list of the run
    pub run-rows : index_list d (run_of ks) ≡ ks
    run-rows = ap (λ (m : ℕ). rows_of d m (run_of ks)) run-count ∙ run_front ks long

    -- at most 512 different rows of components from 0 to 255 pass conditions 2 to 5
    pub run-passes : d ≤ 6 → length ks ≤ 512 → ((k : List ℤ) → Memᴰ k ks → (x : ℤ) → Memᴰ x k → Ranged 2 x) → Distinct ks → (plan : ℕ) → first_of (list_conditions plan d (run_of ks)) ≡ 0
    run-passes few most ranges differ plan =
        first_of_skip (bad_axes d) (bad_length d xs ∷ bad_component plan xs ∷ equal_rows d xs ∷ []) ((axes_clear d).1 (some, few))
        ∙ first_of_skip (bad_length d xs) (bad_component plan xs ∷ equal_rows d xs ∷ []) ((length_clear d xs).1 (whole, omega (arith, run-count)))
        ∙ first_of_skip (bad_component plan xs) (equal_rows d xs ∷ []) ((component_clear plan xs).1 (run_out ks (Ranged plan) ranged))
        ∙ first_of_skip (equal_rows d xs) [] ((rows_clear d xs).1 (subst Distinct (sym run-rows) differ))
      where
        xs : List ℤ
        xs = run_of ks

        whole : length (run_of ks) % d ≡ 0
        whole = ap (λ (n : ℕ). n % d) (run_length ks long) ∙ mul-mod_left (length ks) d

        ranged : (k : List ℤ) → Memᴰ k ks → (x : ℤ) → Memᴰ x k → Ranged plan x
        ranged k m x n = let r = ranges k m x n in (r.0, λ l. r.1 (omega arith))
