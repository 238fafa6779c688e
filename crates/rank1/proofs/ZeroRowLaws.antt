-- The zero row in a list, and the rows other than it: in a list of different rows they are all but one, or all.
use mathlib.Core.Path.{◌≡◌, refl, sym, ◌∙◌, ap}
use mathlib.Core.Logic.{◌↔◌, ◌≢◌, ⊎_elim}
use mathlib.Core.Bool.{Bool, true, false, cond, ◌||◌}
use mathlib.Core.List.Memᴰ
use mathlib.Core.List.{List, [], ◌∷◌, Memᴰ}
use Prim.Native.Nat.{ℕ, suc, ◌+◌}
use native.Mathlib.Omega.{arith}
use lib.IntN.{ℤ}
use lib.ListN.{length}
use Rattle.rank1.specs.Tests.{same_row}
use Rattle.rank1.specs.Index.{zero_row}
use Rattle.rank1.specs.Valid.{Distinct}
use Rattle.rank1.proofs.TestLaws.{row_true, row_false, decided_true, decided_false, decides_among}
use Rattle.rank1.specs.Tally.{zero_in, zeros}

module _ (d : ℕ) where
  -- ---- the zero row is in, or it is not
  pub zero_held : (ks : List (List ℤ)) → (zero_in d ks ≡ true) ↔ Memᴰ (zero_row d) ks
  zero_held ks = decided_true (zero_in d ks) (decides_among (zero_row d) ks)

  pub zero_missing : (ks : List (List ℤ)) → (zero_in d ks ≡ false) ↔ (Memᴰ (zero_row d) ks → ⊥)
  zero_missing ks = decided_false (zero_in d ks) (decides_among (zero_row d) ks)

  -- ---- the other rows
  -- without the zero row of d components
  abbrev pub others : List (List ℤ) → List (List ℤ)
  others [] = []
  others (k ∷ ks) = cond (same_row (zero_row d) k) (others ks) (k ∷ others ks)

  -- each is a row of the list, and not the zero row
  pub others-out : (ks : List (List ℤ)) (k : List ℤ) → Memᴰ k (others ks) → Memᴰ k ks × (k ≢ zero_row d)
  others-out [] k m = absurd (Memᴰ.not-nil m)
  others-out (l ∷ ks) k m = go (same_row (zero_row d) l) refl m (others-out ks k)
    where
      go : (b : Bool) → same_row (zero_row d) l ≡ b → Memᴰ k (cond b (others ks) (l ∷ others ks)) → (Memᴰ k (others ks) → Memᴰ k ks × (k ≢ zero_row d)) → Memᴰ k (l ∷ ks) × (k ≢ zero_row d)
      go true e i f = let r = f i in (Memᴰ.tail r.0, r.1)
      go false e i f =
          ⊎_elim
          (λ p. (Memᴰ.head p, λ q. (row_false (zero_row d) l).0 e (sym q ∙ p)))
          (λ j. let r = f j in (Memᴰ.tail r.0, r.1))
          (Memᴰ.cases_cons i)

  -- each row that is not the zero row is there
  pub others_in : (ks : List (List ℤ)) (k : List ℤ) → Memᴰ k ks → k ≢ zero_row d → Memᴰ k (others ks)
  others_in [] k m o = absurd (Memᴰ.not-nil m)
  others_in (l ∷ ks) k m o = go (same_row (zero_row d) l) refl (λ i. others_in ks k i o)
    where
      go : (b : Bool) → same_row (zero_row d) l ≡ b → (Memᴰ k ks → Memᴰ k (others ks)) → Memᴰ k (cond b (others ks) (l ∷ others ks))
      go true e f = ⊎_elim (λ p. absurd (o (p ∙ sym ((row_true (zero_row d) l).0 e)))) f (Memᴰ.cases_cons m)
      go false e f = ⊎_elim (λ p. Memᴰ.head p) (λ i. Memᴰ.tail (f i)) (Memᴰ.cases_cons m)

  pub others_distinct : (ks : List (List ℤ)) → Distinct ks → Distinct (others ks)
  others_distinct [] h = tt
  others_distinct (k ∷ ks) h = go (same_row (zero_row d) k) (others_distinct ks h.1)
    where
      go : (b : Bool) → Distinct (others ks) → Distinct (cond b (others ks) (k ∷ others ks))
      go true r = r
      go false r = ((λ m. h.0 (others-out ks k m).0), r)

  -- how many there are
  pub others-length : (ks : List (List ℤ)) → Distinct ks → length (others ks) + zeros (zero_in d ks) ≡ length ks
  others-length [] h = refl
  others-length (k ∷ ks) h = go (same_row (zero_row d) k) refl (others-length ks h.1)
    where
      -- behind the zero row there is no other
      none : same_row (zero_row d) k ≡ true → zero_in d ks ≡ false
      none e = (zero_missing ks).1 (λ m. h.0 (Memᴰ.cast (sym ((row_true (zero_row d) k).0 e)) m))

      go : (b : Bool) → same_row (zero_row d) k ≡ b → length (others ks) + zeros (zero_in d ks) ≡ length ks → length (cond b (others ks) (k ∷ others ks)) + zeros (b || zero_in d ks) ≡ suc (length ks)
      go true e r = omega (arith, r, ap zeros (none e))
      go false e r = omega (arith, r)
