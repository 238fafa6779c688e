-- The five plan rules as a test that computes, over pairs of rows and mirrors, line by line as in Rule.antt. Theorem
-- `decides_rule` (proofs/RuleTestLaws.antt): it is true exactly where the rule holds.
use Rattle.std.specs.Prelude.{Bool, false, not, ◌||◌, List, ℕ, zero, suc, eqb, ℤ, length}
use Rattle.rank1.specs.Tests.{every, same_row}
use Rattle.rank1.specs.Residue.{residue_at}
use Rattle.rank1.specs.Index.{zero_row, mirrors, mirrored}

module _ (n : ℕ) (z : List ℤ) where
  -- the residues of two rows differ
  abbrev pub differ : List ℤ → List ℤ → Bool
  differ s t = not (eqb (residue_at n z s) (residue_at n z t))

  -- plan 0: k is the zero row, or has a residue other than 0
  abbrev pub integrates : List ℤ → Bool
  integrates k = same_row k (zero_row (length k)) || not (eqb (residue_at n z k) 0)

  -- plans 1 and 2: two rows, or members of M, are one, or their residues differ
  abbrev pub apart : List ℤ → List ℤ → Bool
  apart s t = same_row s t || differ s t

  -- plan 3: each mirror of k' is k, or its residue differs from that of k
  abbrev pub apart_b : List ℤ → List ℤ → Bool
  apart_b k k' = every (λ s. apart s k) (mirrors k')

  -- plan 4: k and k' are one row, or the residue of each mirror of k' differs from that of k
  abbrev pub apart_c : List ℤ → List ℤ → Bool
  apart_c k k' = same_row k k' || every (λ s. differ s k) (mirrors k')

-- all pairs of members of a list
abbrev pub all_pairs : (List ℤ → List ℤ → Bool) → List (List ℤ) → Bool
all_pairs f ss = every (λ s. every (f s) ss) ss

-- the rule of the plan named; there is no plan above 4
unfoldable pub admissible : ℕ → List (List ℤ) → ℕ → List ℤ → Bool
admissible zero ks n z = every (integrates n z) ks
admissible (suc zero) ks n z = all_pairs (apart n z) ks
admissible (suc (suc zero)) ks n z = all_pairs (apart n z) (mirrored ks)
admissible (suc (suc (suc zero))) ks n z = all_pairs (apart_b n z) ks
admissible (suc (suc (suc (suc zero)))) ks n z = all_pairs (apart_c n z) ks
admissible (suc (suc (suc (suc (suc p))))) ks n z = false
