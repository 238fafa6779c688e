-- The test `admissible` (specs/RuleTest.antt) holds exactly where the plan's rule does, line by line.
use mathlib.Core.Path.{◌≡◌}
use mathlib.Core.Logic.{◌↔◌, ◌≢◌}
use mathlib.Core.Bool.{Bool, true, false, not}
use mathlib.Core.List.{List, Memᴰ}
use Prim.Native.Nat.{ℕ, zero, suc}
use lib.Dec.{T, eqb}
use lib.IntN.{ℤ}
use lib.ListN.{length}
use Rattle.rank1.specs.Tests.{every, same_row}
use Rattle.rank1.specs.Residue.{residue_at}
use Rattle.rank1.specs.Index.{zero_row, mirrors, mirrored}
use Rattle.rank1.specs.Rule.{Integrates, Reconstructs, PlanA, PlanB, PlanC, Admissible}
use Rattle.rank1.specs.RuleTest.{differ, integrates, apart, apart_b, apart_c, all_pairs, admissible}
use Rattle.rank1.proofs.TestLaws.{decided_true, decided_false, decided_is, decides_not, decides_else, decides_every, decides_eqb, decides_row}

module _ (ks : List (List ℤ)) (n : ℕ) (z : List ℤ) where
  -- ---- one row, and two
  decides_integrates : (k : List ℤ) → T (integrates n z k) ↔ (k ≢ zero_row (length k) → residue_at n z k ≢ 0)
  decides_integrates k =
      decides_else (same_row k (zero_row (length k))) (not (eqb (residue_at n z k) 0)) (decides_row k (zero_row (length k)))
      (decides_not (eqb (residue_at n z k) 0) (decides_eqb (residue_at n z k) 0))

  decides_differ : (s t : List ℤ) → T (differ n z s t) ↔ (residue_at n z s ≢ residue_at n z t)
  decides_differ s t = decides_not (eqb (residue_at n z s) (residue_at n z t)) (decides_eqb (residue_at n z s) (residue_at n z t))

  decides_apart : (s t : List ℤ) → T (apart n z s t) ↔ (s ≢ t → residue_at n z s ≢ residue_at n z t)
  decides_apart s t = decides_else (same_row s t) (differ n z s t) (decides_row s t) (decides_differ s t)

  decides_B : (k k' : List ℤ) → T (apart_b n z k k') ↔ ((s : List ℤ) → Memᴰ s (mirrors k') → s ≢ k → residue_at n z s ≢ residue_at n z k)
  decides_B k k' = decides_every (λ s. apart n z s k) (mirrors k') (λ s. decides_apart s k)

  decides_C : (k k' : List ℤ) → T (apart_c n z k k') ↔ (k ≢ k' → (s : List ℤ) → Memᴰ s (mirrors k') → residue_at n z s ≢ residue_at n z k)
  decides_C k k' =
      decides_else (same_row k k') (every (λ s. differ n z s k) (mirrors k')) (decides_row k k')
      (decides_every (λ s. differ n z s k) (mirrors k') (λ s. decides_differ s k))

  -- all pairs
  decides_pairs : (f : List ℤ → List ℤ → Bool) {P : List ℤ → List ℤ → Type 0} (ss : List (List ℤ)) → ((s t : List ℤ) → T (f s t) ↔ P s t) → T (all_pairs f ss) ↔ ((s t : List ℤ) → Memᴰ s ss → Memᴰ t ss → P s t)
  decides_pairs f ss g =
      let e = decides_every (λ s. every (f s) ss) ss (λ s. decides_every (f s) ss (g s)) in
      ((λ t x y m m'. e.0 t x m y m'), (λ h. e.1 (λ x m y m'. h x y m m')))

  -- ---- the rule
  pub decides_rule : (plan : ℕ) → T (admissible plan ks n z) ↔ Admissible plan ks n z
  unfolding Integrates Reconstructs PlanA PlanB PlanC admissible
  decides_rule zero = decides_every (integrates n z) ks decides_integrates
  decides_rule (suc zero) = decides_pairs (apart n z) ks decides_apart
  decides_rule (suc (suc zero)) = decides_pairs (apart n z) (mirrored ks) decides_apart
  decides_rule (suc (suc (suc zero))) =
      let e = decides_pairs (apart_b n z) ks decides_B in
      ((λ t k k' s m m'. e.0 t k k' m m' s), (λ r. e.1 (λ k k' m m' s. r k k' s m m')))
  decides_rule (suc (suc (suc (suc zero)))) =
      let e = decides_pairs (apart_c n z) ks decides_C in
      ((λ t k k' s m m' d. e.0 t k k' m m' d s), (λ r. e.1 (λ k k' m m' d s. r k k' s m m' d)))
  decides_rule (suc (suc (suc (suc (suc p))))) = ((λ t. t), (λ r. r))

  -- in equations: true where the rule holds, false where it does not, and equal to whatever else decides it
  pub rule_true : (plan : ℕ) → (admissible plan ks n z ≡ true) ↔ Admissible plan ks n z
  rule_true plan = decided_true (admissible plan ks n z) (decides_rule plan)

  pub rule_false : (plan : ℕ) → (admissible plan ks n z ≡ false) ↔ (Admissible plan ks n z → ⊥)
  rule_false plan = decided_false (admissible plan ks n z) (decides_rule plan)

  pub rule_is : (plan : ℕ) (b : Bool) → (b ≡ true → Admissible plan ks n z) → (b ≡ false → Admissible plan ks n z → ⊥) → b ≡ admissible plan ks n z
  rule_is plan b = decided_is b (admissible plan ks n z) (decides_rule plan)
