-- The five plan rules (document 01): when a pair n, z, where z is any whole numbers, is admissible for a list.
use Rattle.std.specs.Prelude.{◌≢◌, ℕ, zero, suc, ℤ, length}
use mathlib.Core.List.{List, Memᴰ}
use Rattle.rank1.specs.Residue.{residue_at}
use Rattle.rank1.specs.Index.{zero_row, mirrors, mirrored}

module _ (ks : List (List ℤ)) (n : ℕ) (z : List ℤ) where
  -- plan 0, exact integration (003, Lemma 4): no row other than the zero row has residue 0
  unfoldable pub Integrates : Type 0
  Integrates = (k : List ℤ) → Memᴰ k ks → k ≢ zero_row (length k) → residue_at n z k ≢ 0

  -- plan 1, Fourier reconstruction (003, Lemma 5): different rows have different residues
  unfoldable pub Reconstructs : Type 0
  Reconstructs = (k k' : List ℤ) → Memᴰ k ks → Memᴰ k' ks → k ≢ k' → residue_at n z k ≢ residue_at n z k'

  -- plan 2, cosine plan A: different members of M have different residues
  unfoldable pub PlanA : Type 0
  PlanA = (s s' : List ℤ) → Memᴰ s (mirrored ks) → Memᴰ s' (mirrored ks) → s ≢ s' → residue_at n z s ≢ residue_at n z s'

  -- plan 3, cosine plan B: for rows k and k' and each s in S(k') with s different from k, the residues of s and k differ
  unfoldable pub PlanB : Type 0
  PlanB = (k k' s : List ℤ) → Memᴰ k ks → Memᴰ k' ks → Memᴰ s (mirrors k') → s ≢ k → residue_at n z s ≢ residue_at n z k

  -- plan 4, cosine plan C: for different rows k and k' and each s in S(k'), the residues of s and k differ
  unfoldable pub PlanC : Type 0
  PlanC = (k k' s : List ℤ) → Memᴰ k ks → Memᴰ k' ks → k ≢ k' → Memᴰ s (mirrors k') → residue_at n z s ≢ residue_at n z k

-- a rule for a list, as the search takes it: a property of a modulus and a vector of whole numbers
abbrev pub Rule : Type 1
Rule = ℕ → List ℤ → Type 0

-- the rule of the plan named, for a list; there is no plan above 4
abbrev pub Admissible : ℕ → List (List ℤ) → Rule
Admissible zero ks n z = Integrates ks n z
Admissible (suc zero) ks n z = Reconstructs ks n z
Admissible (suc (suc zero)) ks n z = PlanA ks n z
Admissible (suc (suc (suc zero))) ks n z = PlanB ks n z
Admissible (suc (suc (suc (suc zero)))) ks n z = PlanC ks n z
Admissible (suc (suc (suc (suc (suc p))))) ks n z = ⊥
