-- Places that nothing was written to.
use mathlib.Core.Path.{◌≡◌, refl}
use Prim.Native.Nat.{ℕ, zero, suc}
use lib.ListN.{get_or, replicate}

module _ {A : Type 0} where
  -- places that all hold one value hold it at each number, past the last too
  pub unwritten : (a : A) (n i : ℕ) → get_or (replicate n a) i a ≡ a
  unwritten a zero i = refl
  unwritten a (suc n) zero = refl
  unwritten a (suc n) (suc i) = unwritten a n i
