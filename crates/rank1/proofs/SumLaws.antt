-- Map and spreading: S(k) under a plan and its count c, the places of the map, the total of the sums, a sum row by row, and how
-- large a sum is.
use mathlib.Core.Path.{◌≡◌, refl, sym, ◌∙◌, ap, subst}
use mathlib.Core.Logic.{◌≢◌}
use mathlib.Core.Bool.{Bool, true, false, cond}
use mathlib.Core.List.{List, [], ◌∷◌, map, Memᴰ}
use Prim.Native.Nat.{ℕ, zero, suc, ◌+◌, ◌*◌, ◌<◌, ◌≤◌, zero-le}
use native.Mathlib.Nat.{le_trans, mul_comm, mul-le-mul, suc-mul}
use native.Mathlib.Omega.{arith}
use borrow.Author.Tests.{eq-eqb, ne_eqb, lt-leb, le-leb}
use lib.Dec.{eqb, leb}
use lib.IntN.{ℤ, pos, negsuc, nat_abs, ◌+ℤ◌, ◌*ℤ◌, +ℤ_idl, +ℤ_idr, +ℤ_assoc, *ℤ-zero}
use lib.Pow.{pow_mono}
use lib.ListN.{length, get_or, take}
use lib.Seq.{length-take-le}
use Rattle.rank1.specs.Tests.{count, up_to}
use Rattle.rank1.specs.Residue.{dot, residue_at}
use Rattle.rank1.specs.Index.{mirrors, nonzeros}
use Rattle.rank1.specs.Sums.{mirrors_under, copies_at, copies, residue_map, sum_at, spread_sums}
use Rattle.rank1.proofs.ResidueLaws.{residue-lt}
use Rattle.rank1.proofs.MirrorLaws.{mirror_self, mirrors-length}
use Rattle.rank1.proofs.CountLaws.{count-le, count_none, count_some, member_take}
use Rattle.rank1.proofs.WholeSums.{total, total_none, total-add, total-mul, one_at, total-one_at, abs_add, abs_mul}

-- ---- S(k) under a plan: the row alone, or its mirrors
pub under-row : (plan : ℕ) (k : List ℤ) → plan < 2 → mirrors_under plan k ≡ k ∷ []
under-row plan k l = ap (λ (b : Bool). cond b (mirrors k) (k ∷ [])) (lt-leb 2 plan l)

pub under-mirrors : (plan : ℕ) (k : List ℤ) → 2 ≤ plan → mirrors_under plan k ≡ mirrors k
under-mirrors plan k l = ap (λ (b : Bool). cond b (mirrors k) (k ∷ [])) (le-leb 2 plan l)

-- k is in it
pub under_self : (plan : ℕ) (k : List ℤ) → Memᴰ k (mirrors_under plan k)
under_self plan k = either (leb 2 plan)
  where
    either : (t : Bool) → Memᴰ k (cond t (mirrors k) (k ∷ []))
    either true = mirror_self k
    either false = Memᴰ.head refl

-- no more components are non-zero than there are
pub nonzeros-le : (k : List ℤ) → nonzeros k ≤ length k
nonzeros-le [] = omega arith
nonzeros-le (pos zero ∷ k) = omega (arith, nonzeros-le k)
nonzeros-le (pos (suc a) ∷ k) = omega (arith, nonzeros-le k)
nonzeros-le (negsuc a ∷ k) = omega (arith, nonzeros-le k)

-- a row of at most 6 axes has at most 64 mirrors
pub under-length : (plan : ℕ) (k : List ℤ) → length k ≤ 6 → length (mirrors_under plan k) ≤ 64
under-length plan k l = either (leb 2 plan)
  where
    either : (t : Bool) → length (cond t (mirrors k) (k ∷ [])) ≤ 64
    either true = subst (λ (c : ℕ). c ≤ 64) (sym (mirrors-length k)) (pow_mono {i = nonzeros k} {j = 6} (le_trans (nonzeros-le k) l))
    either false = omega arith

-- the row-wise sum: each term times the size of S(k)
abbrev pub weighted : ℕ → List (List ℤ) → List ℤ → ℤ
weighted plan [] terms = pos 0
weighted plan (k ∷ ks) [] = pos 0
weighted plan (k ∷ ks) (a ∷ terms) = (a *ℤ pos (length (mirrors_under plan k))) +ℤ weighted plan ks terms

-- c times a term of size b at most, with c at most w
pub row_small : (a : ℤ) (c w b : ℕ) → c ≤ w → nat_abs a ≤ b → nat_abs (a *ℤ pos c) ≤ w * b
row_small a c w b l h =
    omega (arith, abs_mul a c, mul_comm (nat_abs a) c, mul-le-mul {n₁ = c} {m₁ = nat_abs a} {n₂ = w} {m₂ = b} l h)

module _ (plan n : ℕ) (z : List ℤ) where
  -- ---- c
  -- a row counts itself, so c is above 0
  pub copies_some : (k : List ℤ) → 0 < copies plan n z k
  copies_some k =
      count_some (λ s. eqb (residue_at n z s) (residue_at n z k)) (mirrors_under plan k) k (under_self plan k)
      (eq-eqb (residue_at n z k) (residue_at n z k) refl)

  -- it is no larger than S(k), at any residue
  pub copies_at-le : (r : ℕ) (k : List ℤ) → copies_at plan n z r k ≤ length (mirrors_under plan k)
  copies_at-le r k = count-le (λ s. eqb (residue_at n z s) r) (mirrors_under plan k)

  pub copies-le : (k : List ℤ) → copies plan n z k ≤ length (mirrors_under plan k)
  copies-le k = copies_at-le (residue_at n z k) k

  -- it is 0 where no s in S(k) has the residue r
  pub copies_at_none : (r : ℕ) (k : List ℤ) → ((s : List ℤ) → Memᴰ s (mirrors_under plan k) → residue_at n z s ≢ r) → copies_at plan n z r k ≡ 0
  copies_at_none r k h =
      count_none (λ s. eqb (residue_at n z s) r) (mirrors_under plan k) (λ s m. ne_eqb (residue_at n z s) r (h s m))

  -- ---- the map
  -- two numbers for each row
  pub map-length : (ks : List (List ℤ)) → length (residue_map plan n z ks) ≡ 2 * length ks
  map-length [] = refl
  map-length (k ∷ ks) = omega (arith, map-length ks)

  -- the residue of row i
  pub map-residue : (ks : List (List ℤ)) (i : ℕ) → i < length ks → get_or (residue_map plan n z ks) (2 * i) 0 ≡ residue_at n z (get_or ks i [])
  map-residue [] i l = absurd (omega arith)
  map-residue (k ∷ ks) zero l = refl
  map-residue (k ∷ ks) (suc i) l =
      ap (λ (j : ℕ). get_or (residue_map plan n z (k ∷ ks)) j 0) double ∙ map-residue ks i (omega arith)
    where
      double : 2 * suc i ≡ suc (suc (2 * i))
      double = omega arith

  -- its c
  pub map-copies : (ks : List (List ℤ)) (i : ℕ) → i < length ks → get_or (residue_map plan n z ks) (2 * i + 1) 0 ≡ copies plan n z (get_or ks i [])
  map-copies [] i l = absurd (omega arith)
  map-copies (k ∷ ks) zero l = refl
  map-copies (k ∷ ks) (suc i) l =
      ap (λ (j : ℕ). get_or (residue_map plan n z (k ∷ ks)) j 0) double ∙ map-copies ks i (omega arith)
    where
      double : 2 * suc i + 1 ≡ suc (suc (2 * i + 1))
      double = omega arith

  -- ---- the total of the sums
  -- over all residues each row of a list is counted once
  counted : (ss : List (List ℤ)) → 0 < n → total (map (λ r. pos (count (λ s. eqb (residue_at n z s) r) ss)) (up_to n)) ≡ pos (length ss)
  counted [] l = total_none (λ r. pos 0) (up_to n) (λ r. refl)
  counted (s ∷ ss) l =
      total-add (λ r. pos (one_at (residue_at n z s) r)) (λ r. pos (count (λ t. eqb (residue_at n z t) r) ss)) (up_to n)
      ∙ ap (λ (x : ℤ). x +ℤ total (map (λ r. pos (count (λ t. eqb (residue_at n z t) r) ss)) (up_to n))) (total-one_at (residue_at n z s) n (residue-lt n (dot s z) l))
      ∙ ap (λ (x : ℤ). pos 1 +ℤ x) (counted ss l)
      ∙ ap pos (one_more (length ss))
    where
      one_more : (c : ℕ) → 1 + c ≡ suc c
      one_more c = omega arith

  -- the total of the sums is the sum over the rows of a times the size of S(k)
  pub spread_total : (ks : List (List ℤ)) (terms : List ℤ) → 0 < n → total (spread_sums plan n z ks terms) ≡ weighted plan ks terms
  spread_total [] terms l = total_none (sum_at plan n z [] terms) (up_to n) (λ r. refl)
  spread_total (k ∷ ks) [] l = total_none (sum_at plan n z (k ∷ ks) []) (up_to n) (λ r. refl)
  spread_total (k ∷ ks) (a ∷ terms) l =
      total-add (λ r. a *ℤ pos (copies_at plan n z r k)) (sum_at plan n z ks terms) (up_to n)
      ∙ ap (λ (x : ℤ). x +ℤ total (spread_sums plan n z ks terms)) (total-mul a (λ r. pos (copies_at plan n z r k)) (up_to n) ∙ ap (λ (x : ℤ). a *ℤ x) (counted (mirrors_under plan k) l))
      ∙ ap (λ (x : ℤ). (a *ℤ pos (length (mirrors_under plan k))) +ℤ x) (spread_total ks terms l)

  -- ---- one row more
  -- a row with no mirror of residue r adds nothing at r
  pub sum_skip : (k : List ℤ) (ks : List (List ℤ)) (a : ℤ) (terms : List ℤ) (r : ℕ) → copies_at plan n z r k ≡ 0 → sum_at plan n z (k ∷ ks) (a ∷ terms) r ≡ sum_at plan n z ks terms r
  sum_skip k ks a terms r e =
      ap (λ (c : ℕ). (a *ℤ pos c) +ℤ sum_at plan n z ks terms r) e
      ∙ ap (λ (x : ℤ). x +ℤ sum_at plan n z ks terms r) (*ℤ-zero a)
      ∙ +ℤ_idl (sum_at plan n z ks terms r)

  -- rows with no mirror of residue r give 0 at r
  pub sum_none : (ks : List (List ℤ)) (terms : List ℤ) (r : ℕ) → ((k : List ℤ) → Memᴰ k ks → copies_at plan n z r k ≡ 0) → sum_at plan n z ks terms r ≡ pos 0
  sum_none [] terms r h = refl
  sum_none (k ∷ ks) [] r h = refl
  sum_none (k ∷ ks) (a ∷ terms) r h =
      sum_skip k ks a terms r (h k (Memᴰ.head refl)) ∙ sum_none ks terms r (λ k' m. h k' (Memᴰ.tail m))

  -- the first i + 1 rows: what the first i rows give, and row i
  pub sum_take : (ks : List (List ℤ)) (terms : List ℤ) (i r : ℕ) → i < length ks → i < length terms → sum_at plan n z (take (suc i) ks) (take (suc i) terms) r ≡ sum_at plan n z (take i ks) (take i terms) r +ℤ (get_or terms i (pos 0) *ℤ pos (copies_at plan n z r (get_or ks i [])))
  sum_take [] terms i r l h = absurd (omega arith)
  sum_take (k ∷ ks) [] i r l h = absurd (omega arith)
  sum_take (k ∷ ks) (a ∷ terms) zero r l h =
      +ℤ_idr (a *ℤ pos (copies_at plan n z r k)) ∙ sym (+ℤ_idl (a *ℤ pos (copies_at plan n z r k)))
  sum_take (k ∷ ks) (a ∷ terms) (suc i) r l h =
      ap (λ (x : ℤ). (a *ℤ pos (copies_at plan n z r k)) +ℤ x) (sum_take ks terms i r (omega arith) (omega arith))
      ∙ sym (+ℤ_assoc (a *ℤ pos (copies_at plan n z r k)) (sum_at plan n z (take i ks) (take i terms) r) (get_or terms i (pos 0) *ℤ pos (copies_at plan n z r (get_or ks i []))))

  -- ---- sizes
  -- the sum of rows of at most w mirrors, whose terms are at most b
  pub sum_small : (ks : List (List ℤ)) (terms : List ℤ) (r w b : ℕ) → ((k : List ℤ) → Memᴰ k ks → length (mirrors_under plan k) ≤ w) → ((a : ℤ) → Memᴰ a terms → nat_abs a ≤ b) → nat_abs (sum_at plan n z ks terms r) ≤ length ks * (w * b)
  sum_small [] terms r w b f g = zero-le
  sum_small (k ∷ ks) [] r w b f g = zero-le
  sum_small (k ∷ ks) (a ∷ terms) r w b f g =
      omega (
        arith,
        abs_add (a *ℤ pos (copies_at plan n z r k)) (sum_at plan n z ks terms r),
        row_small a (copies_at plan n z r k) w b (le_trans (copies_at-le r k) (f k (Memᴰ.head refl))) (g a (Memᴰ.head refl)),
        sum_small ks terms r w b (λ k' m. f k' (Memᴰ.tail m)) (λ a' m. g a' (Memᴰ.tail m)),
        suc-mul (length ks) (w * b),
      )

  -- the first i rows, of at most 6 axes
  pub sum_part_small : (ks : List (List ℤ)) (terms : List ℤ) (i r b : ℕ) → i ≤ length ks → ((k : List ℤ) → Memᴰ k ks → length k ≤ 6) → ((a : ℤ) → Memᴰ a terms → nat_abs a ≤ b) → nat_abs (sum_at plan n z (take i ks) (take i terms) r) ≤ i * (64 * b)
  sum_part_small ks terms i r b l f g =
      subst (λ (c : ℕ). nat_abs (sum_at plan n z (take i ks) (take i terms) r) ≤ c * (64 * b)) (length-take-le i ks l)
      (sum_small (take i ks) (take i terms) r 64 b
      (λ k m. under-length plan k (f k (member_take i ks k m)))
      (λ a m. g a (member_take i terms a m)))
