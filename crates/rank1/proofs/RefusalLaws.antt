-- The number returned is that of the first condition that applies, and 0 where none does.
use mathlib.Core.Path.{◌≡◌, refl, sym, ◌∙◌, ap}
use mathlib.Core.Logic.{◌↔◌}
use mathlib.Core.Bool.{Bool, true, false}
use mathlib.Core.List.{List, [], ◌∷◌, ◌++◌}
use Prim.Native.Nat.{ℕ, zero, suc, ◌<◌}
use native.Mathlib.Omega.{arith}
use Rattle.rank1.specs.Refusal.{refuse, first_of}
use Rattle.rank1.proofs.TestLaws.{false_fails}

-- ---- the first condition that applies
pub first_of-append : (xs ys : List ℕ) → first_of (xs ++ ys) ≡ first_of (first_of xs ∷ ys)
first_of-append [] ys = refl
first_of-append (zero ∷ xs) ys = first_of-append xs ys
first_of-append (suc a ∷ xs) ys = refl

pub first_of_skip : (a : ℕ) (ys : List ℕ) → a ≡ 0 → first_of (a ∷ ys) ≡ first_of ys
first_of_skip a ys e = ap (λ (k : ℕ). first_of (k ∷ ys)) e

pub first_of_applies : (a : ℕ) (ys : List ℕ) → 0 < a → first_of (a ∷ ys) ≡ a
first_of_applies zero ys l = absurd (omega arith)
first_of_applies (suc a) ys l = refl

-- none applies: not the first, and none of the rest
pub first_of_none : (a : ℕ) (ys : List ℕ) → (first_of (a ∷ ys) ≡ 0) ↔ ((a ≡ 0) × (first_of ys ≡ 0))
first_of_none zero ys = ((λ e. (refl, e)), (λ p. p.1))
first_of_none (suc a) ys = ((λ e. absurd (omega arith)), (λ p. p.0))

pub first_of_none_append : (xs ys : List ℕ) → (first_of (xs ++ ys) ≡ 0) ↔ ((first_of xs ≡ 0) × (first_of ys ≡ 0))
first_of_none_append xs ys =
    let r = first_of_none (first_of xs) ys in
    ((λ e. r.0 (sym (first_of-append xs ys) ∙ e)), (λ p. first_of-append xs ys ∙ r.1 p))

-- ---- a condition with its number
pub refuse_none : (number : ℕ) (b : Bool) → 0 < number → (refuse number b ≡ 0) ↔ (b ≡ false)
refuse_none number true l = ((λ e. absurd (omega arith)), (λ e. absurd (false_fails true e tt)))
refuse_none number false l = ((λ e. refl), (λ e. refl))
