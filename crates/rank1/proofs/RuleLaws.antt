-- The five rules are one rule: certain pairs of rows must have different residues. So whatever keeps equal residues equal
-- keeps every rule: a part of the list, the residues of z in its place, a multiple of z by a u that has an inverse, and any
-- change of the axes on which all rows are 0. So a vector fails where the rows that end early fail with its beginning (`prune-whole`).
use mathlib.Core.Path.{◌≡◌, refl, sym, ◌∙◌, ap, subst}
use mathlib.Core.Logic.{◌↔◌, ◌≢◌}
use mathlib.Core.List.{List, [], map, Memᴰ}
use Prim.Native.Nat.{ℕ, zero, suc, ◌%◌, ◌<◌}
use native.Mathlib.Nat.{zero-mod}
use lib.IntN.{ℤ, pos, nat_abs, ◌*ℤ◌}
use lib.ListN.{get_or, take, get_or-map}
use lib.Seq.{get_or-take}
use Rattle.rank1.specs.Residue.{residue, residue_at}
use Rattle.rank1.proofs.DotLaws.{reduced, scaled, dot-reduced, scaled_equal, AgreeWhole, dot_agrees}
use Rattle.rank1.specs.Index.{mirrors, mirrored}
use Rattle.rank1.proofs.MirrorLaws.{abs_zero, sizes_at, mirror-sizes, mirror_self, mirrored_in, mirrored-out}
use Rattle.rank1.specs.Rule.{Integrates, Reconstructs, PlanA, PlanB, PlanC, Rule, Admissible}
use Rattle.rank1.specs.Axes.{ZeroFrom}
use Rattle.rank1.specs.Differences.{Apart}

module _ (ks : List (List ℤ)) (n : ℕ) (z : List ℤ) where
  -- every pair that the plan keeps apart has different residues
  abbrev pub Separates : ℕ → Type 0
  Separates plan = (s t : List ℤ) → Apart plan ks s t → residue_at n z s ≢ residue_at n z t

  separates : (plan : ℕ) → Admissible plan ks n z → Separates plan
  unfolding Integrates Reconstructs PlanA PlanB PlanC
  separates zero r s t p = λ e. r s p.0 p.1 (e ∙ ap (residue_at n z) p.2 ∙ zero-mod n)
  separates (suc zero) r s t p = r s t p.0 p.1 p.2
  separates (suc (suc zero)) r s t p = r s t p.0 p.1 p.2
  separates (suc (suc (suc zero))) r s t p = r t p.0 s p.1 p.2 p.3 p.4
  separates (suc (suc (suc (suc zero)))) r s t p = r t p.0 s p.1 p.2 p.3 p.4
  separates (suc (suc (suc (suc (suc q))))) r s t p = absurd r

  admits : (plan : ℕ) → Separates plan → Admissible plan ks n z
  unfolding Integrates Reconstructs PlanA PlanB PlanC
  admits zero r = λ k m d e. r k [] (m, d, refl) (e ∙ sym (zero-mod n))
  admits (suc zero) r = λ k k' m m' d. r k k' (m, m', d)
  admits (suc (suc zero)) r = λ s s' m m' d. r s s' (m, m', d)
  admits (suc (suc (suc zero))) r = λ k k' s m m' i d. r s k (k', m, m', i, d)
  admits (suc (suc (suc (suc zero)))) r = λ k k' s m m' d i. r s k (k', m, m', d, i)
  admits (suc (suc (suc (suc (suc q))))) r = r [] [] (refl, refl) refl

  pub one-rule : (plan : ℕ) → Admissible plan ks n z ↔ Separates plan
  one-rule plan = (separates plan, admits plan)

-- ---- a part of the list
-- every member of the one is a member of the other
abbrev pub Within : List (List ℤ) → List (List ℤ) → Type 0
Within ks' ks = (k : List ℤ) → Memᴰ k ks' → Memᴰ k ks

mirrored-within : (ks' ks : List (List ℤ)) → Within ks' ks → Within (mirrored ks') (mirrored ks)
mirrored-within ks' ks w s m = let r = mirrored-out ks' s m in mirrored_in ks r.row s (w r.row r.listed) r.mirror

apart-within : (plan : ℕ) (ks' ks : List (List ℤ)) (s t : List ℤ) → Within ks' ks → Apart plan ks' s t → Apart plan ks s t
apart-within zero ks' ks s t w p = (w s p.0, p.1, p.2)
apart-within (suc zero) ks' ks s t w p = (w s p.0, w t p.1, p.2)
apart-within (suc (suc zero)) ks' ks s t w p = (mirrored-within ks' ks w s p.0, mirrored-within ks' ks w t p.1, p.2)
apart-within (suc (suc (suc zero))) ks' ks s t w p = (p.0, w t p.1, w p.0 p.2, p.3, p.4)
apart-within (suc (suc (suc (suc zero)))) ks' ks s t w p = (p.0, w t p.1, w p.0 p.2, p.3, p.4)
apart-within (suc (suc (suc (suc (suc q))))) ks' ks s t w p = p

-- ---- the rule is carried over: to another list, another modulus, another vector
pub transfer : (plan : ℕ) (ks ks' : List (List ℤ)) (n n' : ℕ) (z z' : List ℤ) → Within ks' ks → ((s t : List ℤ) → Apart plan ks' s t → residue_at n' z' s ≡ residue_at n' z' t → residue_at n z s ≡ residue_at n z t) → Admissible plan ks n z → Admissible plan ks' n' z'
transfer plan ks ks' n n' z z' w f r =
    admits ks' n' z' plan (λ s t p e. separates ks n z plan r s t (apart-within plan ks' ks s t w p) (f s t p e))

-- every rule passes to a part of the list
pub part : (plan : ℕ) (ks ks' : List (List ℤ)) (n : ℕ) (z : List ℤ) → Within ks' ks → Admissible plan ks n z → Admissible plan ks' n z
part plan ks ks' n z w = transfer plan ks ks' n n z z w (λ s t p e. e)

-- two vectors with which the same pairs have equal residues
pub alike : (plan : ℕ) (ks : List (List ℤ)) (n : ℕ) (z z' : List ℤ) → ((s t : List ℤ) → Apart plan ks s t → (residue_at n z s ≡ residue_at n z t) ↔ (residue_at n z' s ≡ residue_at n z' t)) → Admissible plan ks n z ↔ Admissible plan ks n z'
alike plan ks n z z' f = (
  transfer plan ks ks n n z z' (λ k m. m) (λ s t p. (f s t p).1),
  transfer plan ks ks n n z' z (λ k m. m) (λ s t p. (f s t p).0),
)

-- two vectors with which the rows of those pairs have one residue
pub same_residues : (plan : ℕ) (ks : List (List ℤ)) (n : ℕ) (z z' : List ℤ) → ((s t : List ℤ) → Apart plan ks s t → (residue_at n z s ≡ residue_at n z' s) × (residue_at n z t ≡ residue_at n z' t)) → Admissible plan ks n z ↔ Admissible plan ks n z'
same_residues plan ks n z z' f = alike plan ks n z z' (λ s t p. let q = f s t p in ((λ e. sym q.0 ∙ e ∙ q.1), (λ e. q.0 ∙ e ∙ sym q.1)))

-- only the residues of z matter
pub reduction : (plan : ℕ) (ks : List (List ℤ)) (n : ℕ) (z : List ℤ) → 0 < n → Admissible plan ks n z ↔ Admissible plan ks n (reduced n z)
reduction plan ks n z l = same_residues plan ks n z (reduced n z) (λ s t p. (dot-reduced n s z l, dot-reduced n t z l))

-- a multiple of z by a u with an inverse v
pub scaling : (plan : ℕ) (ks : List (List ℤ)) (n : ℕ) (z : List ℤ) (u v : ℤ) → 0 < n → residue n (u *ℤ v) ≡ 1 % n → Admissible plan ks n z ↔ Admissible plan ks n (scaled u z)
scaling plan ks n z u v l i = alike plan ks n z (scaled u z) (λ s t p. scaled_equal n u v s t z l i)

-- ---- what holds of all mirrors of the rows and of the empty row holds of the rows that a plan keeps apart
pub apart-rows : (Q : List ℤ → Type 0) (plan : ℕ) (ks : List (List ℤ)) → ((k s : List ℤ) → Memᴰ k ks → Memᴰ s (mirrors k) → Q s) → Q [] → (s t : List ℤ) → Apart plan ks s t → Q s × Q t
apart-rows Q plan ks all none s t = go plan
  where
    row : (k : List ℤ) → Memᴰ k ks → Q k
    row k m = all k k m (mirror_self k)

    mirror : (r : List ℤ) → Memᴰ r (mirrored ks) → Q r
    mirror r m = let w = mirrored-out ks r m in all w.row r w.listed w.mirror

    go : (plan : ℕ) → Apart plan ks s t → Q s × Q t
    go zero p = (row s p.0, subst Q (sym p.2) none)
    go (suc zero) p = (row s p.0, row t p.1)
    go (suc (suc zero)) p = (mirror s p.0, mirror t p.1)
    go (suc (suc (suc zero))) p = (all p.0 s p.2 p.3, row t p.1)
    go (suc (suc (suc (suc zero)))) p = (all p.0 s p.2 p.4, row t p.1)
    go (suc (suc (suc (suc (suc q))))) p = (subst Q (sym p.0) none, subst Q (sym p.1) none)

-- ---- rows that are 0 from an axis on: what z has from there on does not count
-- so are their mirrors
pub mirror_zero : (j : ℕ) (k s : List ℤ) → ZeroFrom j k → Memᴰ s (mirrors k) → ZeroFrom j s
mirror_zero j k s f m i l = abs_zero (get_or s i (pos 0)) (sizes_at s k (mirror-sizes k s m) i ∙ ap nat_abs (f i l))

-- where every row is 0 from axis j on, only the first j components of the vector matter
pub prefix :
    (plan : ℕ) (ks : List (List ℤ)) (n j : ℕ) (y z : List ℤ) → ((k : List ℤ) → Memᴰ k ks → ZeroFrom j k) → AgreeWhole j y z
    → Admissible plan ks n y ↔ Admissible plan ks n z
prefix plan ks n j y z f g =
    same_residues plan ks n y z
    (apart-rows (λ s. residue_at n y s ≡ residue_at n z s) plan ks
    (λ k s m i. ap (residue n) (dot_agrees j s y z (mirror_zero j k s (f k m) i) g))
    refl)

-- what a search may prune by: where the rows that are 0 from axis j on fail with the first j components of z, no vector of whole
-- numbers that begins so is admissible
pub prune-whole :
    (plan : ℕ) (ks ks' : List (List ℤ)) (n j : ℕ) (y : List ℤ) (z : List ℕ)
    → Within ks' ks → ((k : List ℤ) → Memᴰ k ks' → ZeroFrom j k) → ((i : ℕ) → i < j → get_or y i (pos 0) ≡ pos (get_or z i 0))
    → (Admissible plan ks' n (map pos (take j z)) → ⊥) → Admissible plan ks n y → ⊥
prune-whole plan ks ks' n j y z w f begins h r = h ((prefix plan ks' n j y (map pos (take j z)) f same).0 (part plan ks ks' n y w r))
  where
    same : AgreeWhole j y (map pos (take j z))
    same i l = begins i l ∙ ap pos (sym (get_or-take j z i 0 l)) ∙ sym (get_or-map pos (take j z) i 0)

-- ---- what the laws of the search ask of a rule: that it passes to the residues of z
abbrev pub Reduces : Rule → Type 0
Reduces rule = (n : ℕ) (z : List ℤ) → 0 < n → rule n z → rule n (reduced n z)

pub plan_reduces : (plan : ℕ) (ks : List (List ℤ)) → Reduces (Admissible plan ks)
plan_reduces plan ks n z l = (reduction plan ks n z l).0
