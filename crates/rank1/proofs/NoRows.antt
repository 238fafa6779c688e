-- The list of no rows (document 02, a). It is valid on 1 to 6 axes; every pair is admissible for it under each of the five plans; so
-- at any modulus the zero vector is the gentlest one, and the smallest plan is n = 1 with the zero vector. Its map and its terms are
-- empty, and its sums are n zeros. No definition names this list: all of this is what they say of it.
use mathlib.Core.Path.{◌≡◌, refl, sym, ◌∙◌, ap, subst}
use mathlib.Core.Logic.{⊎_elim}
use mathlib.Core.List.Memᴰ
use mathlib.Core.List.{List, [], ◌∷◌, map}
use Prim.Native.Nat.{ℕ, zero, suc, ◌≤◌}
use native.Mathlib.Nat.{zero-div, zero-mod}
use native.Mathlib.Omega.{arith}
use lib.IntN.{ℤ, pos}
use lib.ListN.{replicate, length-replicate, get_or-replicate}
use lib.Seq.{ext_get_or}
use Rattle.rank1.specs.Index.{rows_of, index_list}
use Rattle.rank1.specs.Rule.{Integrates, Reconstructs, PlanA, PlanB, PlanC, Admissible}
use Rattle.rank1.specs.Search.{Gentler, largest, InRange, Gentlest, Smallest}
use Rattle.rank1.specs.Sums.{residue_map, spread_sums, gathered_terms}
use Rattle.rank1.specs.Refusal.{first_of, bad_axes, bad_length, bad_component, equal_rows, list_conditions}
use Rattle.rank1.specs.Valid.{Distinct}
use Rattle.rank1.proofs.Order.{zeros-least}
use Rattle.rank1.proofs.GentleOrder.{gentler_strict}
use Rattle.rank1.proofs.RefusalLaws.{first_of_skip}
use Rattle.rank1.proofs.SearchLaws.{first-of}
use Rattle.rank1.proofs.UpTo.{length-map-up_to, get_or-up_to}
use Rattle.rank1.proofs.ValidLaws.{axes_clear, length_clear, rows_clear}

-- ---- the list
-- a run of no numbers is a list of no rows
pub no_rows : (d : ℕ) → index_list d [] ≡ []
no_rows d = ap (λ (m : ℕ). rows_of d m []) (zero-div d)

-- "A list of no rows becomes valid": none of 2 to 5 applies
pub no_rows_valid : (plan d : ℕ) → 1 ≤ d → d ≤ 6 → first_of (list_conditions plan d []) ≡ 0
no_rows_valid plan d low high =
    first_of_skip (bad_axes d) (bad_length d [] ∷ bad_component plan [] ∷ equal_rows d [] ∷ []) ((axes_clear d).1 (low, high))
    ∙ first_of_skip (bad_length d []) (bad_component plan [] ∷ equal_rows d [] ∷ []) ((length_clear d []).1 (zero-mod d, omega (arith, zero-div d)))
    ∙ first_of_skip (equal_rows d []) [] ((rows_clear d []).1 (subst Distinct (sym (no_rows d)) tt))

-- ---- the rule and the searches
-- "every pair is then admissible": there is nothing to keep apart
pub no_rows-admissible : (plan n : ℕ) (z : List ℤ) → plan ≤ 4 → Admissible plan [] n z
unfolding Integrates Reconstructs PlanA PlanB PlanC
no_rows-admissible zero n z l = λ k m. absurd (Memᴰ.not-nil m)
no_rows-admissible (suc zero) n z l = λ k k' m. absurd (Memᴰ.not-nil m)
no_rows-admissible (suc (suc zero)) n z l = λ s s' m. absurd (Memᴰ.not-nil m)
no_rows-admissible (suc (suc (suc zero))) n z l = λ k k' s m. absurd (Memᴰ.not-nil m)
no_rows-admissible (suc (suc (suc (suc zero)))) n z l = λ k k' s m. absurd (Memᴰ.not-nil m)
no_rows-admissible (suc (suc (suc (suc (suc p))))) n z l = absurd (omega arith)

-- the vector of d zeros
abbrev pub zero_vector : ℕ → List ℕ
zero_vector d = replicate d 0

-- none has a smaller largest component, and none of largest component 0 comes before it
zeros-largest : (d : ℕ) → largest (zero_vector d) ≡ 0
zeros-largest zero = refl
zeros-largest (suc d) = omega (arith, zeros-largest d)

zeros_gentlest : (d : ℕ) (y : List ℕ) → Gentler y (zero_vector d) → ⊥
unfolding Gentler
zeros_gentlest d y g = ⊎_elim (λ l. omega (arith, zeros-largest d)) (λ p. zeros-least d y p.1) g

module _ (plan d : ℕ) (plans : plan ≤ 4) where
  -- nothing is gentler than the zero vector
  pub no_rows_gentlest : (n : ℕ) → 1 ≤ n → Gentlest (Admissible plan []) d n (zero_vector d)
  no_rows_gentlest n low =
      first-of (Admissible plan []) d Gentler gentler_strict n n (zero_vector d) ranged (no_rows-admissible plan n (map pos (zero_vector d)) plans)
      (λ y r a. zeros_gentlest d y)
    where
      ranged : InRange n d (zero_vector d)
      ranged = record { size = length-replicate d 0; below = λ j l. omega (arith, get_or-replicate {A = ℕ} d j 0 0 l) }

  -- "The smallest plan is n = 1 with the zero vector": there is no smaller modulus
  pub no_rows_smallest : (ceiling : ℕ) → 1 ≤ ceiling → Smallest (Admissible plan []) d ceiling 1 (zero_vector d)
  no_rows_smallest ceiling high = record {
    low = omega arith;
    high = high;
    gentlest = no_rows_gentlest 1 (omega arith);
    smaller_fail = λ m l h. absurd (omega arith);
  }

-- ---- map, spread and gather
module _ (plan n : ℕ) (z : List ℤ) where
  pub no_rows-map : residue_map plan n z [] ≡ []
  no_rows-map = refl

  pub no_rows_sums : (terms : List ℤ) → spread_sums plan n z [] terms ≡ replicate n (pos 0)
  no_rows_sums terms =
      let sized = length-map-up_to (λ r. pos 0) n in
      ext_get_or (pos 0) (spread_sums plan n z [] terms) (replicate n (pos 0)) (sized ∙ sym (length-replicate n (pos 0)))
      (λ r l. get_or-up_to (λ r. pos 0) n r (pos 0) (omega (arith, sized)) ∙ sym (get_or-replicate n r (pos 0) (pos 0) (omega (arith, sized))))

  pub no_rows_terms : (sums : List ℤ) → gathered_terms plan n z [] sums ≡ []
  no_rows_terms sums = refl
