-- Gathering: after spreading it gives the terms back and is never refused with 11 (plans 1 to 4), and it reads the sums at
-- the rows' residues alone.
use mathlib.Core.Path.{◌≡◌, refl, sym, ◌∙◌, ap}
use mathlib.Core.Logic.{◌≢◌}
use mathlib.Core.Bool.{Bool, true, ◌&&◌}
use mathlib.Core.List.Memᴰ
use mathlib.Core.List.{List, [], ◌∷◌, Memᴰ}
use Prim.Native.Nat.{ℕ, zero, suc, ◌%◌, ◌^◌, ◌<◌, ◌≤◌}
use native.Mathlib.Omega.{arith}
use borrow.Author.Tests.{eq-eqb}
use lib.Dec.{eqb}
use lib.IntN.{ℤ, pos, nat_abs, ◌+ℤ◌, ◌*ℤ◌, +ℤ_idr}
use lib.Signed.{mag, quot_z}
use lib.ListN.{length, get_or, length-map}
use lib.Seq.{ext_get_or}
use Rattle.std.proofs.lemmas.List.{get_or-map}
use Rattle.rank1.specs.Tests.{every}
use Rattle.rank1.specs.Residue.{dot, residue_at}
use Rattle.rank1.specs.Rule.{Reconstructs, PlanA, PlanB, PlanC, Admissible}
use Rattle.rank1.specs.Sums.{mirrors_under, in32, copies, sum_at, spread_sums, gathered_term, gathered_terms, gathers}
use Rattle.rank1.specs.Valid.{Distinct, Nonnegative}
use Rattle.rank1.proofs.Distinct.{member_at}
use Rattle.rank1.proofs.ResidueLaws.{residue-lt}
use Rattle.rank1.proofs.MirrorLaws.{mirror_self, mirrored_in, mirrors-differ}
use Rattle.rank1.proofs.UpTo.{get_or-up_to}
use Rattle.rank1.proofs.TestLaws.{true_every}
use Rattle.rank1.proofs.CountLaws.{every_cong, map-members, at_places}
use Rattle.rank1.proofs.WholeSums.{quot_mul, rem_mul, mag_in32}
use Rattle.rank1.proofs.SumLaws.{copies_some, copies_at_none, sum_skip, sum_none}

-- no s in S(k') has the residue of another row k
abbrev pub RowsApart : ℕ → ℕ → List ℤ → List (List ℤ) → Type 0
RowsApart plan n z ks = (k k' s : List ℤ) → Memᴰ k ks → Memᴰ k' ks → k ≢ k' → Memᴰ s (mirrors_under plan k') → residue_at n z s ≢ residue_at n z k

-- the rules of plans 1 to 4 ask for it, those of plans 2 and 3 because rows without negative components share no mirror
pub shares_apart : (plan n : ℕ) (z : List ℤ) (ks : List (List ℤ)) → 1 ≤ plan → (2 ≤ plan → (k : List ℤ) → Memᴰ k ks → Nonnegative k) → Admissible plan ks n z → RowsApart plan n z ks
unfolding Reconstructs PlanA PlanB PlanC
shares_apart zero n z ks l p r k k' s m m' d i = absurd (omega arith)
shares_apart (suc zero) n z ks l p r k k' s m m' d i = λ e. r k k' m m' d (sym e ∙ ap (residue_at n z) (Memᴰ.eq_of_singleton i))
shares_apart (suc (suc zero)) n z ks l p r k k' s m m' d i =
    r s k (mirrored_in ks k' s m' i) (mirrored_in ks k k m (mirror_self k))
    (mirrors-differ s k k' k (p (omega arith) k' m') (p (omega arith) k m) (λ e. d (sym e)) i (mirror_self k))
shares_apart (suc (suc (suc zero))) n z ks l p r k k' s m m' d i =
    r k k' s m m' i (mirrors-differ s k k' k (p (omega arith) k' m') (p (omega arith) k m) (λ e. d (sym e)) i (mirror_self k))
shares_apart (suc (suc (suc (suc zero)))) n z ks l p r k k' s m m' d i = r k k' s m m' d i
shares_apart (suc (suc (suc (suc (suc q))))) n z ks l p r k k' s m m' d i = absurd r

-- what gathering asks of a sum s for a row whose count is c
abbrev passes : ℤ → ℕ → Bool
passes s c = eqb (nat_abs s % c) 0 && in32 (quot_z s (pos c))

-- a term times c passes
mul-passes : (a : ℤ) (c : ℕ) → 0 < c → mag a < 2 ^ 31 → passes (a *ℤ pos c) c ≡ true
mul-passes a c l h =
    ap (λ (t : Bool). t && in32 (quot_z (a *ℤ pos c) (pos c))) (eq-eqb (nat_abs (a *ℤ pos c) % c) 0 (rem_mul a c))
    ∙ ap in32 (quot_mul a c l)
    ∙ mag_in32 a h

module _ (plan n : ℕ) (z : List ℤ) where
  -- at a row's residue stands its term, c times
  pub sum_at_row : (ks : List (List ℤ)) (terms : List ℤ) (j : ℕ) → Distinct ks → RowsApart plan n z ks → length terms ≡ length ks → j < length ks → sum_at plan n z ks terms (residue_at n z (get_or ks j [])) ≡ get_or terms j (pos 0) *ℤ pos (copies plan n z (get_or ks j []))
  sum_at_row [] terms j d q e l = absurd (omega arith)
  sum_at_row (k ∷ ks) [] j d q e l = absurd (omega arith)
  sum_at_row (k ∷ ks) (a ∷ terms) zero d q e l =
      ap (λ (x : ℤ). (a *ℤ pos (copies plan n z k)) +ℤ x)
      (sum_none plan n z ks terms (residue_at n z k)
      (λ k' m. copies_at_none plan n z (residue_at n z k) k' (λ s. q k k' s (Memᴰ.head refl) (Memᴰ.tail m) (λ p. d.0 (Memᴰ.cast p m)))))
      ∙ +ℤ_idr (a *ℤ pos (copies plan n z k))
  sum_at_row (k ∷ ks) (a ∷ terms) (suc j) d q e l =
      sum_skip plan n z k ks a terms (residue_at n z (get_or ks j []))
      (copies_at_none plan n z (residue_at n z (get_or ks j [])) k (λ s. q (get_or ks j []) k s (Memᴰ.tail other) (Memᴰ.head refl) (λ p. d.0 (Memᴰ.cast (sym p) other))))
      ∙ sum_at_row ks terms j d.1 (λ k₁ k₂ s m₁ m₂. q k₁ k₂ s (Memᴰ.tail m₁) (Memᴰ.tail m₂)) (omega arith) (omega arith)
    where
      other : Memᴰ (get_or ks j []) ks
      other = member_at ks [] j (omega arith)

  module _ (ks : List (List ℤ)) (terms : List ℤ) (l : 0 < n) (d : Distinct ks) (q : RowsApart plan n z ks) (e : length terms ≡ length ks) where
    -- and so in the list of sums
    spread_at_row : (j : ℕ) → j < length ks → get_or (spread_sums plan n z ks terms) (residue_at n z (get_or ks j [])) (pos 0) ≡ get_or terms j (pos 0) *ℤ pos (copies plan n z (get_or ks j []))
    spread_at_row j h =
        get_or-up_to (sum_at plan n z ks terms) n (residue_at n z (get_or ks j [])) (pos 0) (residue-lt n (dot (get_or ks j []) z) l)
        ∙ sum_at_row ks terms j d q e h

    -- gathering after spreading gives the terms back
    pub gather_apart : gathered_terms plan n z ks (spread_sums plan n z ks terms) ≡ terms
    gather_apart =
        ext_get_or (pos 0) (gathered_terms plan n z ks (spread_sums plan n z ks terms)) terms (length-map ks (gathered_term plan n z (spread_sums plan n z ks terms)) ∙ sym e)
        (λ j h. back j (omega (arith, length-map ks (gathered_term plan n z (spread_sums plan n z ks terms)))))
      where
        back : (j : ℕ) → j < length ks → get_or (gathered_terms plan n z ks (spread_sums plan n z ks terms)) j (pos 0) ≡ get_or terms j (pos 0)
        back j h =
            get_or-map (gathered_term plan n z (spread_sums plan n z ks terms)) ks j [] (pos 0) h
            ∙ ap (λ (s : ℤ). quot_z s (pos (copies plan n z (get_or ks j [])))) (spread_at_row j h)
            ∙ quot_mul (get_or terms j (pos 0)) (copies plan n z (get_or ks j [])) (copies_some plan n z (get_or ks j []))

    -- and 11 never applies
    pub passes-apart : ((a : ℤ) → Memᴰ a terms → mag a < 2 ^ 31) → every (gathers plan n z (spread_sums plan n z ks terms)) ks ≡ true
    passes-apart b =
        true_every (gathers plan n z (spread_sums plan n z ks terms)) ks
        (at_places (λ k. gathers plan n z (spread_sums plan n z ks terms) k ≡ true) ks []
        (λ j h. ap (λ (s : ℤ). passes s (copies plan n z (get_or ks j []))) (spread_at_row j h)
        ∙ mul-passes (get_or terms j (pos 0)) (copies plan n z (get_or ks j [])) (copies_some plan n z (get_or ks j []))
        (b (get_or terms j (pos 0)) (member_at terms (pos 0) j (omega arith)))))

-- ---- plans 1 to 4
module _ (plan n : ℕ) (z : List ℤ) (ks : List (List ℤ)) (terms : List ℤ) (from : 1 ≤ plan) (l : 0 < n) (d : Distinct ks) (p : 2 ≤ plan → (k : List ℤ) → Memᴰ k ks → Nonnegative k) (r : Admissible plan ks n z) (e : length terms ≡ length ks) where
  -- gathering after spreading gives the terms back
  pub gather_spread : gathered_terms plan n z ks (spread_sums plan n z ks terms) ≡ terms
  gather_spread = gather_apart plan n z ks terms l d (shares_apart plan n z ks from p r) e

  -- and is never refused with 11
  pub gather_passes : ((a : ℤ) → Memᴰ a terms → mag a < 2 ^ 31) → every (gathers plan n z (spread_sums plan n z ks terms)) ks ≡ true
  gather_passes = passes-apart plan n z ks terms l d (shares_apart plan n z ks from p r) e

-- ---- gathering reads the rows' sums alone
module _ (plan n : ℕ) (z : List ℤ) (ks : List (List ℤ)) (s u : List ℤ) (same : (k : List ℤ) → Memᴰ k ks → get_or s (residue_at n z k) (pos 0) ≡ get_or u (residue_at n z k) (pos 0)) where
  -- the terms
  pub reads_terms : gathered_terms plan n z ks s ≡ gathered_terms plan n z ks u
  reads_terms =
      map-members (gathered_term plan n z s) (gathered_term plan n z u) ks (λ k m. ap (λ (x : ℤ). quot_z x (pos (copies plan n z k))) (same k m))

  -- the test for 11
  pub reads_passes : every (gathers plan n z s) ks ≡ every (gathers plan n z u) ks
  reads_passes =
      every_cong (gathers plan n z s) (gathers plan n z u) ks (λ k m. ap (λ (x : ℤ). passes x (copies plan n z k)) (same k m))
