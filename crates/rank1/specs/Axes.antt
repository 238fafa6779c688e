-- Rows and vectors by their axes, as the private functions of the search speak of them. No public contract cites this.
use Rattle.std.specs.Prelude.{◌≡◌, ℕ, zero, suc, ◌<◌, ◌≤◌, ℤ, pos, neg_ℤ, get_or, set}
use mathlib.Core.List.{List, [], ◌∷◌, Memᴰ}

-- every component from axis j on is 0
abbrev pub ZeroFrom : ℕ → List ℤ → Type 0
ZeroFrom j k = (i : ℕ) → j ≤ i → get_or k i (pos 0) ≡ pos 0

-- two vectors have the same components below k
abbrev pub Agree : ℕ → List ℕ → List ℕ → Type 0
Agree k y z = (i : ℕ) → i < k → get_or y i 0 ≡ get_or z i 0

-- components i and j exchanged; where the list has not both, it stays
module _ {A : Type 0} where
  abbrev pub swap : ℕ → ℕ → List A → List A
  swap i j [] = []
  swap zero zero (x ∷ xs) = x ∷ xs
  swap zero (suc j) (x ∷ xs) = get_or xs j x ∷ set xs j x
  swap (suc i) zero (x ∷ xs) = get_or xs i x ∷ set xs i x
  swap (suc i) (suc j) (x ∷ xs) = x ∷ swap i j xs

-- the list stays itself when axes i and j change places
abbrev pub Interchangeable : ℕ → ℕ → List (List ℤ) → Type 0
Interchangeable i j ks = (k : List ℤ) → Memᴰ k ks → Memᴰ (swap i j k) ks

-- the other sign at component j
abbrev pub flip : ℕ → List ℤ → List ℤ
flip j [] = []
flip zero (x ∷ xs) = neg_ℤ x ∷ xs
flip (suc j) (x ∷ xs) = x ∷ flip j xs
