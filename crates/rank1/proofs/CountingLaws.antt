-- Under plans 1 to 4 the rows have different residues, so there are at most n of them.
use mathlib.Core.Path.{refl, sym, subst}
use mathlib.Core.Logic.{◌≢◌}
use mathlib.Core.List.Memᴰ
use mathlib.Core.List.{List, map, Memᴰ}
use Prim.Native.Nat.{ℕ, zero, suc, ◌<◌, ◌≤◌}
use native.Mathlib.Omega.{arith}
use lib.IntN.{ℤ}
use lib.ListN.{length, length-map}
use Rattle.rank1.specs.Residue.{dot, residue_at}
use Rattle.rank1.specs.Rule.{Reconstructs, PlanA, PlanB, PlanC, Admissible}
use Rattle.rank1.specs.Valid.{Distinct}
use Rattle.rank1.proofs.ResidueLaws.{residue-lt}
use Rattle.rank1.proofs.Distinct.{distinct_map, pigeonhole}
use Rattle.rank1.proofs.MirrorLaws.{mirror_self, mirrored_in}

-- a row is one of its mirrors, so each of these rules keeps rows apart
pub rule_reconstructs : (plan : ℕ) (ks : List (List ℤ)) (n : ℕ) (z : List ℤ) → plan ≢ 0 → Admissible plan ks n z → Reconstructs ks n z
unfolding Reconstructs PlanA PlanB PlanC
rule_reconstructs zero ks n z some r = absurd (some refl)
rule_reconstructs (suc zero) ks n z some r = r
rule_reconstructs (suc (suc zero)) ks n z some r = λ k k' m m' d. r k k' (mirrored_in ks k k m (mirror_self k)) (mirrored_in ks k' k' m' (mirror_self k')) d
rule_reconstructs (suc (suc (suc zero))) ks n z some r = λ k k' m m' d. r k' k k m' m (mirror_self k) d
rule_reconstructs (suc (suc (suc (suc zero)))) ks n z some r = λ k k' m m' d. r k' k k m' m (λ e. d (sym e)) (mirror_self k)
rule_reconstructs (suc (suc (suc (suc (suc p))))) ks n z some r = absurd r

-- the residues of rows are below n
pub residues_below : (n : ℕ) (z : List ℤ) (ks : List (List ℤ)) → 0 < n → (x : ℕ) → Memᴰ x (map (residue_at n z) ks) → x < n
residues_below n z ks h x m = let s = Memᴰ.of_map (residue_at n z) ks m in subst (λ (y : ℕ). y < n) s.2 (residue-lt n (dot s.0 z) h)

-- so where they are different there are at most n rows
pub rows_fit : (ks : List (List ℤ)) (n : ℕ) (z : List ℤ) → Distinct ks → 0 < n → Reconstructs ks n z → length ks ≤ n
unfolding Reconstructs
rows_fit ks n z d h r =
    omega (arith, length-map ks (residue_at n z), pigeonhole n (map (residue_at n z) ks) (distinct_map (residue_at n z) ks d r) (residues_below n z ks h))
