-- The tent numerator by numbers: the case of each residue and what it gives, at n = 6, 5, 2 and 1.
use mathlib.Core.Path.{◌≡◌, refl}
use Prim.Native.Nat.{ℕ}
use native.Mathlib.Omega.{arith}
use Rattle.rank1.specs.declared.TentCase.{TentCase}
use Rattle.rank1.specs.declared.TentCase.TheVariants as case
use Rattle.rank1.specs.Points.{tent}
use Rattle.rank1.specs.Tent.{Meets, numerator}

-- r meets the case c, which gives t; and t is document 01's number
abbrev Gets : ℕ → ℕ → TentCase → ℕ → Type 0
Gets n r c t = Meets n r c × (numerator n r c ≡ t) × (tent n r ≡ t)

-- n even: one residue is exactly half
pub even_cases : Gets 6 0 case.Zero 0 × Gets 6 1 case.BelowHalf 2 × Gets 6 2 case.BelowHalf 4 × Gets 6 3 case.Half 6 × Gets 6 4 case.AboveHalf 4 × Gets 6 5 case.AboveHalf 2
even_cases = (
  (refl, refl, refl),
  ((omega arith, omega arith), refl, refl),
  ((omega arith, omega arith), refl, refl),
  (refl, refl, refl),
  (omega arith, refl, refl),
  (omega arith, refl, refl),
)

-- n odd: none is
pub odd_cases : Gets 5 0 case.Zero 0 × Gets 5 1 case.BelowHalf 2 × Gets 5 2 case.BelowHalf 4 × Gets 5 3 case.AboveHalf 4 × Gets 5 4 case.AboveHalf 2
odd_cases = (
  (refl, refl, refl),
  ((omega arith, omega arith), refl, refl),
  ((omega arith, omega arith), refl, refl),
  (omega arith, refl, refl),
  (omega arith, refl, refl),
)

-- the smallest moduli
pub end_cases : Gets 1 0 case.Zero 0 × Gets 2 0 case.Zero 0 × Gets 2 1 case.Half 2
end_cases = ((refl, refl, refl), (refl, refl, refl), (refl, refl, refl))
