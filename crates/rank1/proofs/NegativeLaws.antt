-- A row with all signs changed: it is a mirror of the row, and only a row of zeros is its own negative. Negatives have equal residues
-- only where the rows have; and a row whose negative has another residue has not residue 0.
use mathlib.Core.Path.{◌≡◌, refl, sym, ◌∙◌, ap, ap₂}
use mathlib.Core.Logic.{◌≢◌}
use mathlib.Core.List.{List, [], ◌∷◌, Memᴰ, head-eq_of_cons-eq, tail-eq_of_cons-eq}
use Prim.Native.Nat.{ℕ, zero, suc, ◌<◌}
use lib.IntN.{ℤ, pos, negsuc, neg_ℤ, ◌+ℤ◌, ◌-ℤ◌, neg_ℤ-neg_ℤ, +ℤ_comm, pos-ne-negsuc}
use lib.ListN.{length}
use Rattle.rank1.specs.Residue.{residue, dot, residue_at}
use Rattle.rank1.specs.Index.{zero_row, mirrors}
use Rattle.rank1.specs.Differences.{negative}
use Rattle.rank1.proofs.ResidueLaws.{difference_zero, zero_difference}
use Rattle.rank1.proofs.DotLaws.{dot-neg}
use Rattle.rank1.proofs.MirrorLaws.{sizes, sizes-mirror}
use Rattle.rank1.proofs.FlipLaws.{size-neg}
use Rattle.rank1.proofs.DifferenceLaws.{negative_zero, negative-negative}

-- different rows have different negatives
pub negative-one-one : (k l : List ℤ) → negative k ≡ negative l → k ≡ l
negative-one-one k l e = sym (negative-negative k) ∙ ap negative e ∙ negative-negative l

-- ---- it is a mirror
pub negative-sizes : (k : List ℤ) → sizes (negative k) ≡ sizes k
negative-sizes [] = refl
negative-sizes (x ∷ k) = ap₂ (λ (a : ℕ) (l : List ℕ). a ∷ l) (size-neg x) (negative-sizes k)

pub negative-mirror : (k : List ℤ) → Memᴰ (negative k) (mirrors k)
negative-mirror k = sizes-mirror k (negative k) (negative-sizes k)

-- ---- its own negative: only 0, so only a row of zeros
own_number : (x : ℤ) → neg_ℤ x ≡ x → x ≡ pos 0
own_number (pos zero) e = refl
own_number (pos (suc a)) e = absurd (pos-ne-negsuc (suc a) a (sym e))
own_number (negsuc a) e = absurd (pos-ne-negsuc (suc a) a e)

pub own_negative : (k : List ℤ) → negative k ≡ k → k ≡ zero_row (length k)
own_negative [] e = refl
own_negative (x ∷ k) e =
    ap₂ (λ (a : ℤ) (l : List ℤ). a ∷ l) (own_number x (head-eq_of_cons-eq e)) (own_negative k (tail-eq_of_cons-eq e))

pub negative-zeros : (d : ℕ) → negative (zero_row d) ≡ zero_row d
negative-zeros zero = refl
negative-zeros (suc d) = ap (λ (l : List ℤ). pos 0 ∷ l) (negative-zeros d)

-- ---- residues
module _ (n : ℕ) (z : List ℤ) (h : 0 < n) where
  -- of two negatives: their difference is that of the rows, turned round
  pub equal_negative : (s t : List ℤ) → residue_at n z (negative s) ≡ residue_at n z (negative t) → residue_at n z s ≡ residue_at n z t
  equal_negative s t e = sym (zero_difference n (dot t z) (dot s z) h (ap (residue n) (turned (dot s z) (dot t z)) ∙ none))
    where
      turned : (x y : ℤ) → y -ℤ x ≡ neg_ℤ x -ℤ neg_ℤ y
      turned x y = +ℤ_comm y (neg_ℤ x) ∙ ap (λ (k : ℤ). neg_ℤ x +ℤ k) (sym (neg_ℤ-neg_ℤ y))

      none : residue n (neg_ℤ (dot s z) -ℤ neg_ℤ (dot t z)) ≡ 0
      none = difference_zero n (neg_ℤ (dot s z)) (neg_ℤ (dot t z)) h (ap (residue n) (sym (dot-neg s z)) ∙ e ∙ ap (residue n) (dot-neg t z))

  -- with residue 0 the negative has it too
  pub not_zero : (s : List ℤ) → residue_at n z (negative s) ≢ residue_at n z s → residue_at n z s ≢ 0
  not_zero s o e = o (negative_zero n z s h e ∙ sym e)
