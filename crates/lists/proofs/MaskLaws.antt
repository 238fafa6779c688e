-- The axes on which a row is not 0, as bits: how the loop sets them, how many there are, and the row is 0 just where the mask is.
use mathlib.Core.Path.{◌≡◌, refl, sym, ◌∙◌, ap}
use mathlib.Core.Logic.{◌≢◌}
use mathlib.Core.List.{List, [], ◌∷◌}
use Prim.Native.Nat.{ℕ, zero, suc, ◌+◌, ◌*◌, ◌/◌, ◌%◌, ◌^◌, ◌<◌, ◌≤◌}
use native.Mathlib.Numerals.{add-one}
use native.Mathlib.Nat.{pow-suc}
use native.Mathlib.Omega.{arith}
use lib.IntN.{ℤ, pos, negsuc}
use lib.ListN.{length, get_or, drop}
use lib.Seq.{drop-cons, take_all}
use lib.Bits.{bit_or, or_shifted_r}
use lib.Count.{ones, ones_cat, ones-ones, ones_step}
use lib.Dec.{lit<}
use lib.Pow.{shl_exact}
use mir.Syntax.{w16}
use mir.Val.{SFits, to_z, of_z}
use mir.Facts.{to_z-of_z}
use Rattle.rank1.specs.Index.{nonzeros, zero_row}
use Rattle.lists.specs.Rows.{most_axes, on_axes}

-- of a row of at most six components all count
pub on_axes_lem : (k : List ℤ) → length k ≤ most_axes → on_axes k ≡ k
on_axes_lem k l = take_all most_axes k l

-- ---- a component as the code tests it: it is 0 where its bits are
pub bits_zero : (x : ℤ) → SFits w16 x → of_z w16 x ≡ 0 → x ≡ pos 0
bits_zero x s e = sym (to_z-of_z s) ∙ ap (to_z w16) e

pub bits_other : (x : ℤ) → (of_z w16 x ≡ 0 → ⊥) → x ≡ pos 0 → ⊥
bits_other x h e = h (ap (of_z w16) e)

-- ---- how many components are not 0, by bits
other_first : (x : ℤ) (k : List ℤ) → (x ≡ pos 0 → ⊥) → nonzeros (x ∷ k) ≡ nonzeros k + 1
other_first (pos zero) k e = absurd (e refl)
other_first (pos (suc a)) k e = sym (add-one (nonzeros k))
other_first (negsuc a) k e = sym (add-one (nonzeros k))

-- component j counts where it is not 0
module _ (k : List ℤ) (j : ℕ) (l : j < length k) where
  pub nonzeros_zero : get_or k j (pos 0) ≡ pos 0 → nonzeros (drop j k) ≡ nonzeros (drop (j + 1) k)
  nonzeros_zero e = rw (add-one j, drop-cons k j (pos 0) l) (ap (λ (x : ℤ). nonzeros (x ∷ drop (suc j) k)) e)

  pub nonzeros_other : (get_or k j (pos 0) ≡ pos 0 → ⊥) → nonzeros (drop j k) ≡ nonzeros (drop (j + 1) k) + 1
  nonzeros_other e = rw (add-one j, drop-cons k j (pos 0) l) (other_first (get_or k j (pos 0)) (drop (suc j) k) e)

-- the library's `pow-suc`, of j + 1: arithmetic takes 2 ^ (j + 1) and 2 ^ suc j for two numbers
pub pow_step : (j : ℕ) → 2 ^ (j + 1) ≡ 2 ^ j * 2
pow_step j = ap (λ (x : ℕ). 2 ^ x) (add-one j) ∙ pow-suc 2 j

-- a mask of j bits, with bit j set: one bit more, and j + 1 bits
mask_is : (m j : ℕ) → j < 32 → m < 2 ^ j → bit_or m (1 * 2 ^ j % 2 ^ 32) ≡ 1 * 2 ^ j + m
mask_is m j l h = ap (bit_or m) (shl_exact 1 j 32 (lit< tt) (omega arith)) ∙ or_shifted_r 1 j m h

pub mask_ones : (m j : ℕ) → j < 32 → m < 2 ^ j → ones (bit_or m (1 * 2 ^ j % 2 ^ 32)) ≡ ones m + 1
mask_ones m j l h = omega (arith, ap ones (mask_is m j l h) ∙ ones_cat j 1 m h, ones-ones 1)

pub mask_lt : (m j : ℕ) → j < 32 → m < 2 ^ j → bit_or m (1 * 2 ^ j % 2 ^ 32) < 2 ^ (j + 1)
mask_lt m j l h = omega (arith, mask_is m j l h, pow_step j)

-- ---- the zero row
-- a row without non-zero components is the zero row
zero_row_lem : (k : List ℤ) → nonzeros k ≡ 0 → k ≡ zero_row (length k)
zero_row_lem [] e = refl
zero_row_lem (pos zero ∷ k) e = ap (λ (s : List ℤ). pos 0 ∷ s) (zero_row_lem k e)
zero_row_lem (pos (suc a) ∷ k) e = absurd (omega arith)
zero_row_lem (negsuc a ∷ k) e = absurd (omega arith)

-- the zero row has no others
zeros_none : (d : ℕ) → nonzeros (zero_row d) ≡ 0
zeros_none zero = refl
zeros_none (suc d) = zeros_none d

-- a number with no ones is 0
no_ones : (bound r : ℕ) → r ≤ bound → ones r ≡ 0 → r ≡ 0
no_ones zero r l e = omega arith
no_ones (suc bound) r l e = omega (arith, ones_step r, no_ones bound (r / 2) (half bound r l) (omega (arith, ones_step r)))
  where
    half : (b s : ℕ) → s ≤ suc b → s / 2 ≤ b
    half b s m = omega arith

module _ (k : List ℤ) (mask : ℕ) (count : ones mask ≡ nonzeros k) where
  -- the row is 0 just where the mask is
  pub mask_none : mask ≡ 0 → k ≡ zero_row (length k)
  mask_none e = zero_row_lem k (sym count ∙ ap ones e ∙ ones-ones 0)

  pub mask_some : mask ≢ 0 → k ≢ zero_row (length k)
  mask_some some e = some (no_ones mask mask (omega arith) (count ∙ ap nonzeros e ∙ zeros_none (length k)))
