-- What calls test one after the other, by the number of the first condition that applies.
use mathlib.Core.Path.{◌≡◌, refl, sym, ◌∙◌, ap}
use mathlib.Core.Bool.{Bool, true, false}
use mathlib.Core.List.{List, ◌∷◌, ◌++◌}
use Prim.Native.Nat.{ℕ}
use native.Mathlib.Omega.{arith}
use Rattle.rank1.specs.Refusal.{first_of}
use Rattle.rank1.proofs.RefusalLaws.{first_of-append, first_of_skip, first_of_applies}

-- ---- the first number of several
-- a call tests its conditions one after the other: r is what a test of condition k gave, s what the tests after it give
module _ (r k : ℕ) (e : r ≡ k) where
  -- it applies
  pub stops : (ks : List ℕ) → (r ≡ 0 → ⊥) → r ≡ first_of (k ∷ ks)
  stops ks h = sym (ap (λ (n : ℕ). first_of (n ∷ ks)) (sym e) ∙ first_of_applies r ks (omega arith))

  -- it does not: the tests after it decide
  pub passes : (s : ℕ) (ks : List ℕ) → r ≡ 0 → s ≡ first_of ks → s ≡ first_of (k ∷ ks)
  passes s ks z f = f ∙ sym (first_of_skip k ks (sym e ∙ z))

-- the same where r is what the test of several conditions gave
module _ (r : ℕ) (ks : List ℕ) (e : r ≡ first_of ks) where
  pub list_stops : (ls : List ℕ) → (r ≡ 0 → ⊥) → r ≡ first_of (ks ++ ls)
  list_stops ls h = stops r (first_of ks) e ls h ∙ sym (first_of-append ks ls)

  pub list-passes : (s : ℕ) (ls : List ℕ) → r ≡ 0 → s ≡ first_of ls → s ≡ first_of (ks ++ ls)
  list-passes s ls z f = passes r (first_of ks) e s ls z f ∙ sym (first_of-append ks ls)

-- the same answer where both tests are true and both are false
pub same_test : (a b : Bool) → (a ≡ true → b ≡ true) → (a ≡ false → b ≡ false) → a ≡ b
same_test true b p q = sym (p refl)
same_test false b p q = sym (q refl)
