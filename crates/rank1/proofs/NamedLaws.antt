-- A refusal and its number: no number is 0, and it tells which refusal it is. So what a call answers is settled by that number.
use mathlib.Core.Path.{◌≡◌, refl, sym, ◌∙◌, ap}
use mathlib.Core.Logic.{◌↔◌}
use mathlib.Core.List.{List, [], ◌∷◌}
use Prim.Native.Nat.{ℕ, suc, ◌<◌}
use native.Mathlib.Omega.{arith}
use lib.ListN.{get_or}
use Rattle.std.specs.Prelude.{Result, Ok, Err}
use Rattle.rank1.specs.declared.Refusal.{Refusal}
use Rattle.rank1.specs.declared.Refusal.TheVariants as refusals
use Rattle.rank1.specs.Named.{number, refused, Answers}

-- ---- the numbers
-- none is 0
pub number_some : (refusal : Refusal) → 0 < number refusal
number_some refusals.Plan = omega arith
number_some refusals.Axes = omega arith
number_some refusals.Length = omega arith
number_some refusals.Component = omega arith
number_some refusals.EqualRows = omega arith
number_some refusals.Modulus = omega arith
number_some refusals.Vector = omega arith
number_some refusals.Places = omega arith
number_some refusals.NoPlan = omega arith
number_some refusals.Inadmissible = omega arith
number_some refusals.Sums = omega arith
number_some refusals.Text = omega arith
number_some refusals.Corners = omega arith

-- the refusal with a number (of those that are no refusal's, any)
in_order : List Refusal
in_order =
    refusals.Corners ∷ refusals.Plan ∷ refusals.Axes ∷ refusals.Length ∷ refusals.Component ∷ refusals.EqualRows ∷ refusals.Modulus
    ∷ refusals.Vector ∷ refusals.Places ∷ refusals.NoPlan ∷ refusals.Inadmissible ∷ refusals.Sums ∷ refusals.Text ∷ []

with_number : ℕ → Refusal
with_number k = get_or in_order k refusals.Corners

has_number : (refusal : Refusal) → with_number (number refusal) ≡ refusal
unfolding with_number in_order
has_number refusals.Plan = refl
has_number refusals.Axes = refl
has_number refusals.Length = refl
has_number refusals.Component = refl
has_number refusals.EqualRows = refl
has_number refusals.Modulus = refl
has_number refusals.Vector = refl
has_number refusals.Places = refl
has_number refusals.NoPlan = refl
has_number refusals.Inadmissible = refl
has_number refusals.Sums = refl
has_number refusals.Text = refl
has_number refusals.Corners = refl

-- two refusals with the same number are the same
pub number_same : (x y : Refusal) → number x ≡ number y → x ≡ y
number_same x y e = sym (has_number x) ∙ ap with_number e ∙ has_number y

-- two answers that are refused with one number are the same
pub refused_same : {A : Type 0} (k : ℕ) (r s : Result A Refusal) → refused r ≡ suc k → refused s ≡ suc k → r ≡ s
refused_same k (Ok x) s e f = absurd (omega (arith, e))
refused_same k (Err x) (Ok y) e f = absurd (omega (arith, f))
refused_same k (Err x) (Err y) e f = ap Err (number_same x y (e ∙ sym f))

-- ---- what a call answers
module _ {A : Type 0} where
  ok_same : (x y : A) → ◌≡◌ {A = Result A Refusal} (Ok x) (Ok y) → x ≡ y
  ok_same x y e = cc

  err_ok : (refusal : Refusal) (y : A) → ◌≡◌ {A = Result A Refusal} (Err refusal) (Ok y) → ⊥
  err_ok refusal y e = absurd (let one : ◌≡◌ {A = ℕ} 0 1 = cc in omega arith)

module _ {A : Type 0} (k : ℕ) (x : A) where
  -- the number of its refusal
  pub answers_refused : (result : Result A Refusal) → Answers k x result → refused result ≡ k
  answers_refused (Ok y) a = sym a.0
  answers_refused (Err refusal) a = a

  -- one answer alone
  pub answers_same : (r s : Result A Refusal) → Answers k x r → Answers k x s → r ≡ s
  answers_same (Ok y) (Ok z) a b = ap Ok (a.1 ∙ sym b.1)
  answers_same (Ok y) (Err e) a b = absurd (omega (arith, number_some e, a.0, b))
  answers_same (Err e) (Ok z) a b = absurd (omega (arith, number_some e, b.0, a))
  answers_same (Err e) (Err f) a b = ap Err (number_same e f (a ∙ sym b))

  -- where there is no refusal it is x
  pub answers_kept : (result : Result A Refusal) → k ≡ 0 → Answers k x result → result ≡ Ok x
  answers_kept (Ok y) z a = ap Ok a.1
  answers_kept (Err e) z a = absurd (omega (arith, number_some e, a, z))

  -- it is y just where there is no refusal and x is y
  pub answers_ok : (y : A) (result : Result A Refusal) → Answers k x result → (result ≡ Ok y) ↔ ((k ≡ 0) × (x ≡ y))
  answers_ok y (Ok w) a = ((λ e. (a.0, sym a.1 ∙ ok_same w y e)), (λ p. ap Ok (a.1 ∙ p.1)))
  answers_ok y (Err refusal) a = ((λ e. absurd (err_ok refusal y e)), (λ p. absurd (omega (arith, number_some refusal, a, p.0))))
