-- The difference of two rows: its size, and that the code reads back what it writes.
use mathlib.Core.Path.{◌≡◌, sym, ◌∙◌, ap, subst}
use mathlib.Core.List.{List}
use Prim.Native.Nat.{◌≤◌}
use native.Mathlib.Omega.{arith}
use lib.IntN.{ℤ, pos, nat_abs, neg_ℤ, ◌-ℤ◌}
use lib.ListN.{get_or}
use mir.Syntax.{w16}
use mir.Val.{SFits, to_z, of_z}
use mir.Facts.{to_z-of_z}
use Rattle.rank1.specs.Differences.{minus}
use Rattle.rank1.proofs.WholeSums.{abs_add}
use Rattle.rank1.proofs.FlipLaws.{size-neg}
use Rattle.rank1.proofs.DifferenceLaws.{minus_at}
use Rattle.planner.specs.Sizes.{largest_size, largest_component}
use Rattle.planner.specs.Inner.{Covered}
use Rattle.planner.proofs.products.ProductLaws.{small_fits, read_back}

-- a difference of two numbers
pub small_minus : (x y : ℤ) → nat_abs x ≤ largest_component → nat_abs y ≤ largest_component → nat_abs (x -ℤ y) ≤ largest_size
small_minus x y a b = omega (arith, abs_add x (neg_ℤ y), size-neg y)

-- as the code reads it: it fits an i16, and is read back
module _ (x y : ℤ) (a : nat_abs x ≤ largest_component) (b : nat_abs y ≤ largest_component) where
  fits : SFits w16 (x -ℤ y)
  fits = small_fits (x -ℤ y) (omega (arith, small_minus x y a b))

  read : to_z w16 (of_z w16 x) -ℤ to_z w16 (of_z w16 y) ≡ x -ℤ y
  read = ap (λ (k : ℤ). k -ℤ to_z w16 (of_z w16 y)) (read_back x (omega arith)) ∙ ap (λ (k : ℤ). x -ℤ k) (read_back y (omega arith))

  pub minus_fits : SFits w16 (to_z w16 (of_z w16 x) -ℤ to_z w16 (of_z w16 y))
  minus_fits = subst (SFits w16) (sym read) fits

  pub minus_back : to_z w16 (of_z w16 (to_z w16 (of_z w16 x) -ℤ to_z w16 (of_z w16 y))) ≡ x -ℤ y
  minus_back = to_z-of_z minus_fits ∙ read

-- and of two rows
pub covered_minus : (s t : List ℤ) → Covered largest_component s → Covered largest_component t → Covered largest_size (minus s t)
covered_minus s t a b = record {
  narrow = omega arith;
  covered = λ i. rw (minus_at s t i) (small_minus (get_or s i (pos 0)) (get_or t i (pos 0)) (a.covered i) (b.covered i));
}
