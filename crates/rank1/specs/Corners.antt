-- Lists given by corners (document 02, c): rows from zero up to a corner, the list of some corners, and lower lists.
use Rattle.std.specs.Prelude.{◌≡◌, ◌↔◌, Bool, true, false, ◌&&◌, ℕ, T, leb, ℤ, pos, negsuc, nat_abs, take}
use mathlib.Core.List.{List, [], ◌∷◌, map, Memᴰ}
use Rattle.rank1.specs.Tests.{any}
use Rattle.rank1.specs.Search.{Before}
use Rattle.rank1.specs.Valid.{Distinct, Nonnegative}

-- ---- rows up to a corner
-- a component from 0 up to another
abbrev pub from_zero : ℤ → ℤ → Bool
from_zero (pos a) (pos b) = leb a b
from_zero (pos a) (negsuc b) = false
from_zero (negsuc a) y = false

-- a row from zero up to another: as long as it, without negative components, nowhere larger
abbrev pub under : List ℤ → List ℤ → Bool
under [] [] = true
under [] (y ∷ c) = false
under (x ∷ k) [] = false
under (x ∷ k) (y ∷ c) = from_zero x y && under k c

-- up to some corner
abbrev pub under_some : List (List ℤ) → List ℤ → Bool
under_some cs k = any (under k) cs

-- ---- the list of some corners
-- k comes before h in dictionary order; neither has a negative component
abbrev pub Earlier : List ℤ → List ℤ → Type 0
Earlier k h = Before (map nat_abs k) (map nat_abs h)

-- in dictionary order, each row once: each comes before all that stand behind it
abbrev pub Ascending : List (List ℤ) → Type 0
Ascending [] = Unit {0}
Ascending (k ∷ ks) = ((h : List ℤ) → Memᴰ h ks → Earlier k h) × Ascending ks

-- ks is the list of the corners cs: every row from zero up to some corner and no other, each once, in dictionary order
pub record CornerList (cs ks : List (List ℤ)) : Type 0 where
  pub members : (k : List ℤ) → Memᴰ k ks ↔ T (under_some cs k)
  pub ascending : Ascending ks

-- ---- lower lists
-- with a row, every row without negative components that is nowhere larger is in too; a list with a negative component never is lower
pub record Lower (ks : List (List ℤ)) : Type 0 where
  pub unsigned : (k : List ℤ) → Memᴰ k ks → Nonnegative k
  pub closed : (h k : List ℤ) → Memᴰ k ks → T (under h k) → Memᴰ h ks

-- c is a maximal row of ks: of the rows of ks only c itself has c below it
pub record Maximal (ks : List (List ℤ)) (c : List ℤ) : Type 0 where
  pub listed : Memᴰ c ks
  pub highest : (h : List ℤ) → Memᴰ h ks → T (under c h) → h ≡ c

-- hs are the different rows of ks, shortened to the first j axes
pub record Shortened (j : ℕ) (ks hs : List (List ℤ)) : Type 0 where
  pub each : (k : List ℤ) → Memᴰ k ks → Memᴰ (take j k) hs
  pub only : (h : List ℤ) → Memᴰ h hs → (k : List ℤ) × Memᴰ k ks × (h ≡ take j k)
  pub once : Distinct hs
