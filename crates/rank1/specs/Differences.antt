-- Differences of rows, as the private functions of the search speak of them: a plan's rule is that no difference of a pair of rows
-- that it keeps apart has residue 0. No public contract cites this.
use Rattle.std.specs.Prelude.{◌≡◌, ◌⊎◌, ◌≢◌, ℕ, zero, suc, ◌<◌, ℤ, pos, neg_ℤ, ◌-ℤ◌, length, get_or}
use mathlib.Core.List.{List, [], ◌∷◌, map, Memᴰ}
use Rattle.rank1.specs.Residue.{residue_at}
use Rattle.rank1.specs.Index.{zero_row, mirrors, mirrored}
use Rattle.rank1.specs.Rule.{Rule}
use Rattle.rank1.specs.Axes.{ZeroFrom, flip}

-- the pairs of rows that a plan keeps apart; the empty row stands for residue 0; a plan above 4 asks what cannot be
abbrev pub Apart : ℕ → List (List ℤ) → List ℤ → List ℤ → Type 0
Apart zero ks s t = Memᴰ s ks × (s ≢ zero_row (length s)) × (t ≡ [])
Apart (suc zero) ks s t = Memᴰ s ks × Memᴰ t ks × (s ≢ t)
Apart (suc (suc zero)) ks s t = Memᴰ s (mirrored ks) × Memᴰ t (mirrored ks) × (s ≢ t)
Apart (suc (suc (suc zero))) ks s t = (k : List ℤ) × Memᴰ t ks × Memᴰ k ks × Memᴰ s (mirrors k) × (s ≢ t)
Apart (suc (suc (suc (suc zero)))) ks s t = (k : List ℤ) × Memᴰ t ks × Memᴰ k ks × (t ≢ k) × Memᴰ s (mirrors k)
Apart (suc (suc (suc (suc (suc p))))) ks s t = (s ≡ []) × (t ≡ [])

-- s - t; a component that a row lacks counts as 0, so that the empty row stands for zero
abbrev pub minus : List ℤ → List ℤ → List ℤ
minus s [] = s
minus [] (y ∷ t) = neg_ℤ y ∷ minus [] t
minus (x ∷ s) (y ∷ t) = (x -ℤ y) ∷ minus s t

-- -h
abbrev pub negative : List ℤ → List ℤ
negative h = map neg_ℤ h

-- h or -h is in D
abbrev pub Has : List (List ℤ) → List ℤ → Type 0
Has D h = Memᴰ h D ⊎ Memᴰ (negative h) D

-- h ends at axis j with the component t: behind it, it is 0
pub record EndsAt (j t : ℕ) (h : List ℤ) : Type 0 where
  pub last : get_or h j (pos 0) ≡ pos t
  pub behind : ZeroFrom (suc j) h

-- no pair that meets the rule gives h the residue 0
unfoldable pub Avoided : Rule → List ℤ → Type 0
Avoided rule h = (n : ℕ) (z : List ℤ) → 0 < n → rule n z → residue_at n z h ≢ 0

-- every row of D is avoided
abbrev pub Sound : Rule → List (List ℤ) → Type 0
Sound rule D = (h : List ℤ) → Memᴰ h D → Avoided rule h

-- D has the difference of each pair that the plan keeps apart, or its negative
abbrev pub Complete : ℕ → List (List ℤ) → List (List ℤ) → Type 0
Complete plan ks D = (s t : List ℤ) → Apart plan ks s t → Has D (minus s t)

-- D stays itself when the sign of axis j changes
abbrev pub Closed : ℕ → List (List ℤ) → Type 0
Closed j D = (h : List ℤ) → Memᴰ h D → Has D (flip j h)

-- the rule passes to z with the other sign at component j
abbrev pub Flips : ℕ → Rule → Type 0
Flips j rule = (n : ℕ) (z : List ℤ) → 0 < n → rule n z → rule n (flip j z)
