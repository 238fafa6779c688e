-- What the code's steps on signed numbers ask and give: widening, sums, and the quotient of a sum that passes the test.
use mathlib.Core.Path.{◌≡◌, ◌∙◌, ap}
use mathlib.Core.Bool.{true}
use Prim.Native.Nat.{ℕ, ◌%◌, ◌<◌, ◌^◌}
use native.Mathlib.Omega.{arith}
use borrow.Author.Rules.{sfits_of}
use lib.Dec.{eqb}
use lib.IntN.{ℤ, pos, nat_abs, ◌+ℤ◌}
use lib.Signed.{mag, quot_z}
use mir.Syntax.{w32, w64}
use mir.Val.{SFits, to_z, of_z}
use mir.Facts.{to_z-of_z}
use Rattle.rank1.specs.Sums.{in32}
use Rattle.rank1.proofs.WholeSums.{in32_mag}
use Rattle.rank1.proofs.TestLaws.{both, true_holds, holds_true}
use Rattle.planner.specs.Inner.{divides}

-- an element of 32 bits that a call has widened, read back
pub passed : (z y : ℤ) → mag z < 2 ^ 31 → y ≡ to_z w32 (of_z w32 z) → to_z w64 (of_z w64 y) ≡ z
passed z y h e =
    ap (λ (x : ℤ). to_z w64 (of_z w64 x)) (e ∙ to_z-of_z {w = w32} {z = z} (sfits_of h)) ∙ to_z-of_z {w = w64} {z = z} (sfits_of (omega arith))

-- a sum that passes has a quotient of 32 bits
pub short : (s : ℤ) (c : ℕ) → divides s c ≡ true → SFits w32 (quot_z s (pos c))
short s c e =
    let u = both (eqb (nat_abs s % c) 0) (in32 (quot_z s (pos c))) (true_holds (divides s c) e) in
    sfits_of (in32_mag (quot_z s (pos c)) (holds_true (in32 (quot_z s (pos c))) u.1))

-- ---- a sum of two numbers that are read: what it asks, and what is read back
module _ (x a : ℤ) (f : SFits w64 x) (g : SFits w64 a) (h : SFits w64 (x +ℤ a)) where
  read : to_z w64 (of_z w64 x) +ℤ to_z w64 (of_z w64 a) ≡ x +ℤ a
  read = ap (λ (z : ℤ). z +ℤ to_z w64 (of_z w64 a)) (to_z-of_z f) ∙ ap (λ (z : ℤ). x +ℤ z) (to_z-of_z g)

  pub sum_fits : SFits w64 (to_z w64 (of_z w64 x) +ℤ to_z w64 (of_z w64 a))
  sum_fits = rw read h

  pub sum_back : to_z w64 (of_z w64 (to_z w64 (of_z w64 x) +ℤ to_z w64 (of_z w64 a))) ≡ x +ℤ a
  sum_back = ap (λ (z : ℤ). to_z w64 (of_z w64 z)) read ∙ to_z-of_z h
