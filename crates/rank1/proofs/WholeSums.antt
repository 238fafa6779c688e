-- Sums of lists of whole numbers, sizes of sums, products and quotients, and the range of 32 bits.
use mathlib.Core.Path.{◌≡◌, refl, sym, ◌∙◌, ap}
use mathlib.Core.Logic.{⊎_elim}
use mathlib.Core.Bool.{Bool, true, false, cond, ◌&&◌, and-true}
use mathlib.Core.List.{List, [], ◌∷◌, map}
use Prim.Native.Nat.{ℕ, zero, suc, ◌+◌, ◌*◌, ◌-◌, ◌/◌, ◌%◌, ◌^◌, ◌<◌, ◌≤◌}
use native.Mathlib.Nat.{eq-or-lt_of_le, mul-div_cancel, mul-mod_left, zero-div}
use native.Mathlib.Omega.{arith}
use borrow.Author.Tests.{eq-eqb, ne_eqb, le-leb, leb-true}
use lib.Dec.{eqb, ltb, leb}
use lib.IntN.{ℤ, pos, negsuc, nat_abs, neg_ℤ, ◌+ℤ◌, ◌*ℤ◌, +ℤ_idl, *ℤ-zero}
use lib.Signed.{mag, quot_z}
use Rattle.rank1.specs.Tests.{up_from, up_to}
use Rattle.rank1.specs.Sums.{in32}
use Rattle.rank1.proofs.Whole.{middle, mul-add}

-- ---- the sum of a list
abbrev pub total : List ℤ → ℤ
total [] = pos 0
total (x ∷ xs) = x +ℤ total xs

module _ {A : Type 0} where
  -- of zeros
  pub total_none : (f : A → ℤ) (xs : List A) → ((x : A) → f x ≡ pos 0) → total (map f xs) ≡ pos 0
  total_none f [] h = refl
  total_none f (x ∷ xs) h = ap (λ (s : ℤ). s +ℤ total (map f xs)) (h x) ∙ +ℤ_idl (total (map f xs)) ∙ total_none f xs h

  -- of sums of two
  pub total-add : (f g : A → ℤ) (xs : List A) → total (map (λ x. f x +ℤ g x) xs) ≡ total (map f xs) +ℤ total (map g xs)
  total-add f g [] = refl
  total-add f g (x ∷ xs) =
      ap (λ (s : ℤ). (f x +ℤ g x) +ℤ s) (total-add f g xs) ∙ middle (f x) (g x) (total (map f xs)) (total (map g xs))

  -- of multiples
  pub total-mul : (a : ℤ) (f : A → ℤ) (xs : List A) → total (map (λ x. a *ℤ f x) xs) ≡ a *ℤ total (map f xs)
  total-mul a f [] = sym (*ℤ-zero a)
  total-mul a f (x ∷ xs) =
      ap (λ (s : ℤ). a *ℤ f x +ℤ s) (total-mul a f xs) ∙ sym (mul-add a (f x) (total (map f xs)))

-- 1 where r is x, else 0
abbrev pub one_at : ℕ → ℕ → ℕ
one_at x r = cond (eqb x r) 1 0

-- at x, and elsewhere
one_at_lem : (x r : ℕ) → x ≡ r → one_at x r ≡ 1
one_at_lem x r e = ap (λ (t : Bool). cond {A = ℕ} t 1 0) (eq-eqb x r e)

one_other : (x r : ℕ) → (x ≡ r → ⊥) → one_at x r ≡ 0
one_other x r e = ap (λ (t : Bool). cond {A = ℕ} t 1 0) (ne_eqb x r e)

module _ (x : ℕ) where
  -- what `one_at x` gives for k numbers counted up from i
  abbrev ones : ℕ → ℕ → ℤ
  ones i k = total (map (λ r. pos (one_at x r)) (up_from i k))

  -- x is not among them
  ones-after : (i k : ℕ) → x < i → ones i k ≡ pos 0
  ones-after i zero l = refl
  ones-after i (suc k) l =
      ap (λ (c : ℕ). pos c +ℤ ones (suc i) k) (one_other x i (λ e. omega arith))
      ∙ +ℤ_idl (ones (suc i) k)
      ∙ ones-after (suc i) k (omega arith)

  -- x is among them
  ones-from : (i k : ℕ) → i ≤ x → x < i + k → ones i k ≡ pos 1
  ones-from i zero l h = absurd (omega arith)
  ones-from i (suc k) l h =
      ⊎_elim
      (λ e. ap (λ (c : ℕ). pos c +ℤ ones (suc i) k) (one_at_lem x i (sym e))
      ∙ ap (λ (s : ℤ). pos 1 +ℤ s) (ones-after (suc i) k (omega arith)))
      (λ m. ap (λ (c : ℕ). pos c +ℤ ones (suc i) k) (one_other x i (λ e. omega arith))
      ∙ +ℤ_idl (ones (suc i) k)
      ∙ ones-from (suc i) k m (omega arith))
      (eq-or-lt_of_le l)

  -- a number below n is met once
  pub total-one_at : (n : ℕ) → x < n → total (map (λ r. pos (one_at x r)) (up_to n)) ≡ pos 1
  total-one_at n l = ones-from 0 n (omega arith) (omega arith)

-- ---- sizes
-- a - (b + 1), by either branch of its test
abs_sub : (a b : ℕ) (t : Bool) → nat_abs (cond t (negsuc (suc b - suc a)) (pos (a - suc b))) ≤ a + suc b
abs_sub a b true = omega arith
abs_sub a b false = omega arith

-- of a sum
pub abs_add : (x y : ℤ) → nat_abs (x +ℤ y) ≤ nat_abs x + nat_abs y
abs_add (pos a) (pos b) = omega arith
abs_add (pos a) (negsuc b) = abs_sub a b (ltb a (suc b))
abs_add (negsuc a) (pos b) = omega (arith, abs_sub b a (ltb b (suc a)))
abs_add (negsuc a) (negsuc b) = omega arith

-- of a number with its sign changed
pub abs_neg : (x : ℕ) → nat_abs (neg_ℤ (pos x)) ≡ x
abs_neg zero = refl
abs_neg (suc x) = refl

-- of a multiple
pub abs_mul : (a : ℤ) (c : ℕ) → nat_abs (a *ℤ pos c) ≡ nat_abs a * c
abs_mul (pos a) c = refl
abs_mul (negsuc a) c = abs_neg (suc a * c)

-- `mag`, by which a signed number fits its bits, is the size or one less
pub mag_abs : (x : ℤ) → mag x ≤ nat_abs x
mag_abs (pos a) = omega arith
mag_abs (negsuc a) = omega arith

pub abs_mag : (x : ℤ) → nat_abs x ≤ mag x + 1
abs_mag (pos a) = omega arith
abs_mag (negsuc a) = omega arith

-- ---- quotients by a number above 0
-- of a negative number whose size has the quotient q + 1
quot_neg : (x q c : ℕ) → x / c ≡ suc q → quot_z (neg_ℤ (pos x)) (pos c) ≡ negsuc q
quot_neg zero q c e = absurd (omega (arith, zero-div c))
quot_neg (suc x) q c e = ap (λ (k : ℕ). neg_ℤ (pos k)) e

-- the quotient of a multiple gives the factor back
pub quot_mul : (a : ℤ) (c : ℕ) → 0 < c → quot_z (a *ℤ pos c) (pos c) ≡ a
quot_mul (pos a) c l = ap pos (mul-div_cancel a l)
quot_mul (negsuc a) c l = quot_neg (suc a * c) a c (mul-div_cancel (suc a) l)

-- and its remainder is 0
pub rem_mul : (a : ℤ) (c : ℕ) → nat_abs (a *ℤ pos c) % c ≡ 0
rem_mul a c = ap (λ (k : ℕ). k % c) (abs_mul a c) ∙ mul-mod_left (nat_abs a) c

-- ---- the range of 32 bits
-- from -2 ^ 31 to 2 ^ 31 - 1 are the numbers whose `mag` is below 2 ^ 31
pub mag_in32 : (a : ℤ) → mag a < 2 ^ 31 → in32 a ≡ true
mag_in32 (pos a) l = le-leb a 2147483647 (omega arith)
mag_in32 (negsuc a) l = ap (λ (t : Bool). t && true) (le-leb a 2147483647 (omega arith))

pub in32_mag : (a : ℤ) → in32 a ≡ true → mag a < 2 ^ 31
in32_mag (pos a) e = omega (arith, leb-true a 2147483647 e)
in32_mag (negsuc a) e = omega (arith, leb-true a 2147483647 (sym (and-true (leb a 2147483647)) ∙ e))

-- so its size is at most 2 ^ 31
pub abs_in32 : (a : ℤ) → mag a < 2 ^ 31 → nat_abs a ≤ 2147483648
abs_in32 a l = omega (arith, abs_mag a)
