-- Lists made from the numbers below n: their length, what stands at a place, and that a list is
-- given by its elements.
use mathlib.Core.Path.{◌≡◌, refl, sym, ◌∙◌, ap}
use mathlib.Core.List.{List, map}
use Prim.Native.Nat.{ℕ, zero, suc, ◌+◌, ◌<◌}
use native.Mathlib.Nat.{zero-add}
use native.Mathlib.Omega.{arith}
use lib.ListN.{length, get_or, length-map}
use lib.Seq.{ext_get_or}
use Rattle.std.proofs.lemmas.List.{get_or-map}
use Rattle.rank1.specs.Tests.{up_from, up_to}

-- ---- k numbers counted up from i
-- their number
pub length-up_from : (i k : ℕ) → length (up_from i k) ≡ k
length-up_from i zero = refl
length-up_from i (suc k) = ap suc (length-up_from (suc i) k)

-- at place r stands i + r
pub get_or-up_from : (i k r d : ℕ) → r < k → get_or (up_from i k) r d ≡ i + r
get_or-up_from i zero r d l = absurd (omega arith)
get_or-up_from i (suc k) zero d l = omega arith
get_or-up_from i (suc k) (suc r) d l = omega (arith, get_or-up_from (suc i) k r d (omega arith))

-- ---- the values of f at the numbers below n
module _ {A : Type 0} (f : ℕ → A) where
  -- their number
  pub length-map-up_to : (n : ℕ) → length (map f (up_to n)) ≡ n
  length-map-up_to n = length-map (up_to n) f ∙ length-up_from 0 n

  -- at place r stands f r
  pub get_or-up_to : (n r : ℕ) (d : A) → r < n → get_or (map f (up_to n)) r d ≡ f r
  get_or-up_to n r d l =
      get_or-map f (up_to n) r 0 d (omega (arith, length-up_from 0 n)) ∙ ap f (get_or-up_from 0 n r 0 l ∙ zero-add r)

  -- a list of n elements with f r at each place r is this one
  pub map-up_to_is : (n : ℕ) (l : List A) (d : A) → length l ≡ n → ((r : ℕ) → r < n → get_or l r d ≡ f r) → l ≡ map f (up_to n)
  map-up_to_is n l d e h =
      ext_get_or d l (map f (up_to n)) (e ∙ sym (length-map-up_to n)) (λ r p. h r (omega arith) ∙ sym (get_or-up_to n r d (omega arith)))
