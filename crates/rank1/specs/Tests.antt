-- What the other definitions compute with: tests over lists, equal rows, counting, and the numbers below a bound. A test decides a property
-- where it is true exactly where the property holds.
use Rattle.std.specs.Prelude.{◌≡◌, Bool, true, false, cond, ◌&&◌, ◌||◌, List, [], ◌∷◌, ℕ, zero, suc, ◌+◌, eqb, ℤ, pos, negsuc}

-- b is true exactly where P holds
pub record Decides (b : Bool) (P : Type 0) : Type 0 where
  pub yes : b ≡ true → P
  pub no : b ≡ false → P → ⊥

module _ {A : Type 0} where
  -- every member passes
  abbrev pub every : (A → Bool) → List A → Bool
  every f [] = true
  every f (x ∷ xs) = f x && every f xs

  -- some member passes
  abbrev pub any : (A → Bool) → List A → Bool
  any f [] = false
  any f (x ∷ xs) = f x || any f xs

  -- how many members pass
  abbrev pub count : (A → Bool) → List A → ℕ
  count f [] = 0
  count f (x ∷ xs) = cond (f x) 1 0 + count f xs

-- the same whole number
abbrev pub same_number : ℤ → ℤ → Bool
same_number (pos a) (pos b) = eqb a b
same_number (pos a) (negsuc b) = false
same_number (negsuc a) (pos b) = false
same_number (negsuc a) (negsuc b) = eqb a b

-- the same row
abbrev pub same_row : List ℤ → List ℤ → Bool
same_row [] [] = true
same_row [] (y ∷ t) = false
same_row (x ∷ s) [] = false
same_row (x ∷ s) (y ∷ t) = same_number x y && same_row s t

-- k numbers counted up from i
abbrev pub up_from : ℕ → ℕ → List ℕ
up_from i zero = []
up_from i (suc k) = i ∷ up_from (suc i) k

-- the numbers from 0 to n - 1
abbrev pub up_to : ℕ → List ℕ
up_to n = up_from 0 n
