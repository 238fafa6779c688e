-- The order of gentler settings: it is a strict order, total on the vectors of each length. And the largest component: a vector is below
-- a bound just where its largest component is.
use mathlib.Core.Path.{◌≡◌, sym, ◌∙◌}
use mathlib.Core.Logic.{◌⊎◌, inl, inr, ⊎_elim}
use mathlib.Core.List.{List, [], ◌∷◌}
use Prim.Native.Nat.{ℕ, zero, suc, ◌<◌, ◌≤◌}
use native.Mathlib.Omega.{arith}
use lib.ListN.{length, get_or}
use Rattle.rank1.specs.Search.{largest, Gentler, InRange}
use Rattle.rank1.proofs.Order.{compared, Strict, before_irrefl, before_trans, before-total}

-- ---- the largest component
-- no component is larger
component-le : (z : List ℕ) (j : ℕ) → get_or z j 0 ≤ largest z
component-le [] j = omega arith
component-le (a ∷ z) zero = omega arith
component-le (a ∷ z) (suc j) = omega (arith, component-le z j)

-- what is above all components is above it
largest-lt : (b : ℕ) (z : List ℕ) → 0 < b → ((j : ℕ) → j < length z → get_or z j 0 < b) → largest z < b
largest-lt b [] l h = l
largest-lt b (a ∷ z) l h = omega (arith, h 0 (omega arith), largest-lt b z l (λ j k. h (suc j) (omega arith)))

-- a vector below b has its largest component below b
pub ranged_largest : (b d : ℕ) (z : List ℕ) → 0 < b → InRange b d z → largest z < b
ranged_largest b d z l r = largest-lt b z l (λ j k. r.below j (omega (arith, r.size)))

-- and the other way round
pub largest_ranged : (b d : ℕ) (z : List ℕ) → length z ≡ d → largest z < b → InRange b d z
largest_ranged b d z e l = record { size = e; below = λ j k. omega (arith, component-le z j) }

-- a higher bound lets in what a lower one does
pub raise_bound : (b c d : ℕ) (z : List ℕ) → b ≤ c → InRange b d z → InRange c d z
raise_bound b c d z l r = record { size = r.size; below = λ j k. omega (arith, r.below j k) }

-- a vector whose largest component is no larger than that of z is below b with z
pub no_larger : (b d : ℕ) (y z : List ℕ) → length y ≡ d → largest y ≤ largest z → InRange b d z → InRange b d y
no_larger b d y z e l r = record { size = e; below = λ j k. omega (arith, component-le y j, ranged_largest b d z (omega (arith, r.below j k)) r) }

-- ---- the order
gentler_irrefl : (z : List ℕ) → Gentler z z → ⊥
unfolding Gentler
gentler_irrefl z g = ⊎_elim (λ l. omega arith) (λ p. before_irrefl z p.1) g

gentler_trans : (x y z : List ℕ) → Gentler x y → Gentler y z → Gentler x z
unfolding Gentler
gentler_trans x y z g h =
    ⊎_elim
    (λ l. ⊎_elim (λ m. inl (omega arith)) (λ p. inl (omega arith)) h)
    (λ p. ⊎_elim (λ m. inl (omega arith)) (λ q. inr (p.0 ∙ q.0, before_trans x y z p.1 q.1)) h)
    g

-- of two vectors of one length one is gentler, or they are equal
gentler_total : (y z : List ℕ) → length y ≡ length z → Gentler y z ⊎ ((y ≡ z) ⊎ Gentler z y)
unfolding Gentler
gentler_total y z e =
    ⊎_elim (λ l. inl (inl l))
    (⊎_elim
    (λ s. ⊎_elim (λ b. inl (inr (s, b))) (⊎_elim (λ q. inr (inl q)) (λ b. inr (inr (inr (sym s, b))))) (before-total y z e))
    (λ l. inr (inr (inl l))))
    (compared (largest y) (largest z))

pub gentler_strict : Strict Gentler
gentler_strict = record { irrefl = gentler_irrefl; trans = gentler_trans; total = gentler_total }
