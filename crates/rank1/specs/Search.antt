-- What the searches look for (demand 3; document 01, "Search"; the order is that of document 02, f). Nothing here searches: each
-- definition speaks of all vectors. They take any rule; that of a plan for a list is `Admissible plan ks`.
use Rattle.std.specs.Prelude.{◌≡◌, ◌⊎◌, ◌≢◌, List, [], ◌∷◌, map, ℕ, ◌<◌, ◌≤◌, max, ℤ, pos, length, get_or}
use Rattle.rank1.specs.Rule.{Rule}

-- an order: which of two vectors comes before the other
abbrev pub Order : Type 1
Order = List ℕ → List ℕ → Type 0

-- y comes before z in dictionary order: the first component is the most significant
unfoldable pub Before : Order
Before [] z = ⊥
Before (a ∷ y) [] = ⊥
Before (a ∷ y) (b ∷ z) = (a < b) ⊎ ((a ≡ b) × Before y z)

-- the largest component, 0 of none
abbrev pub largest : List ℕ → ℕ
largest [] = 0
largest (a ∷ z) = max a (largest z)

-- y is gentler than z: its largest component is smaller, or these are equal and y comes before z in dictionary order
unfoldable pub Gentler : Order
Gentler y z = (largest y < largest z) ⊎ ((largest y ≡ largest z) × Before y z)

-- d components from 0 to n - 1
pub record InRange (n d : ℕ) (z : List ℕ) : Type 0 where
  pub size : length z ≡ d
  pub below : (j : ℕ) → j < d → get_or z j 0 < n

module _ (rule : Rule) (d : ℕ) where
  -- the modulus n fails with every vector of d whole numbers, of any sign and size
  unfoldable pub Hopeless : ℕ → Type 0
  Hopeless n = (z : List ℤ) → length z ≡ d → rule n z → ⊥

  -- in an order, z is the first admissible vector at n with components from 0 to b - 1: every other such one comes after it
  pub record First (order : Order) (n b : ℕ) (z : List ℕ) : Type 0 where
    pub ranged : InRange b d z
    pub admissible : rule n (map pos z)
    pub others-after : (y : List ℕ) → InRange b d y → rule n (map pos y) → y ≢ z → order z y

  -- z is the gentlest admissible vector at n: the first with components from 0 to n - 1 in the order of gentler settings
  abbrev pub Gentlest : ℕ → List ℕ → Type 0
  Gentlest n = First Gentler n n

  -- n, z is the smallest plan up to the ceiling: every smaller modulus is hopeless
  pub record Smallest (ceiling n : ℕ) (z : List ℕ) : Type 0 where
    pub low : 1 ≤ n
    pub high : n ≤ ceiling
    pub gentlest : Gentlest n z
    pub smaller_fail : (m : ℕ) → 1 ≤ m → m < n → Hopeless m

  -- refusal 9: no modulus from 1 to the ceiling works with any whole vector
  unfoldable pub NoPlan : ℕ → Type 0
  NoPlan ceiling = (n : ℕ) → 1 ≤ n → n ≤ ceiling → Hopeless n
