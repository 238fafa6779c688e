-- A row that is turned so that it ends above 0 (`upright`, `upright_turned`).
use mathlib.Core.Path.{◌≡◌, refl, sym, ◌∙◌, ap, subst}
use mathlib.Core.Logic.{inl, inr}
use mathlib.Core.Bool.{true, false}
use mathlib.Core.List.{List}
use Prim.Native.Nat.{ℕ, suc, ◌<◌}
use native.Mathlib.Omega.{arith}
use borrow.Author.Tests.{ltb-true}
use lib.IntN.{ℤ, pos, negsuc, nat_abs, neg_ℤ}
use lib.ListN.{length, get_or, get_or-map, length-map}
use lib.Signed.{lt_z}
use mir.Syntax.{w16}
use mir.Val.{to_z, of_z}
use Rattle.rank1.specs.Axes.{ZeroFrom}
use Rattle.rank1.specs.Differences.{negative}
use Rattle.rank1.proofs.MirrorLaws.{abs_zero}
use Rattle.rank1.proofs.FlipLaws.{size-neg}
use Rattle.planner.specs.Sizes.{largest_size}
use Rattle.planner.specs.Inner.{Covered}
use Rattle.planner.specs.Table.{LastAxis, EndsAbove, Upright}
use Rattle.planner.proofs.products.ProductLaws.{read_back, itself}

-- the negative of a number below 0 is its size
turned : (x : ℤ) → lt_z x (pos 0) ≡ true → neg_ℤ x ≡ pos (nat_abs x)
turned (pos a) e = absurd (impossible (ltb-true a 0 e))
  where
    impossible : a < 0 → ⊥
    impossible h = omega arith
turned (negsuc a) e = refl

pub negative_at : (h : List ℤ) (i : ℕ) → get_or (negative h) i (pos 0) ≡ neg_ℤ (get_or h i (pos 0))
negative_at h i = get_or-map neg_ℤ h i (pos 0)

-- a row's negative has no larger components
pub covered_negative : (top : ℕ) (h : List ℤ) → Covered top h → Covered top (negative h)
covered_negative top h c =
    record { narrow = c.narrow; covered = λ i. rw (negative_at h i) (omega (arith, size-neg (get_or h i (pos 0)), c.covered i)) }

-- j is the last axis of a row, where the code reads the sign
module _ (g : List ℤ) (j : ℕ) (small : Covered largest_size g) (a : LastAxis g j) where
  abbrev x : ℤ
  x = get_or g j (pos 0)

  back : to_z w16 (of_z w16 x) ≡ x
  back = read_back x (small.covered j)

  -- a row that ends there with a component of this size
  ended : (h : List ℤ) → length h ≡ length g → get_or h j (pos 0) ≡ pos (nat_abs x) → ZeroFrom (suc j) h → EndsAbove h
  ended h e last behind = record {
    axis = j;
    inside = omega (arith, a.inside);
    component = nat_abs x;
    above = omega (arith, λ (c : nat_abs x ≡ 0). a.last (abs_zero x c));
    ends = record { last = last; behind = behind };
  }

  -- the component there is not below 0
  pub upright : lt_z (to_z w16 (of_z w16 x)) (pos 0) ≡ false → Upright g g
  upright f = record { which = inl refl; small = small; above = inr (ended g refl (itself x (rw back at f)) a.behind) }

  -- it is, and the row is turned
  pub upright_turned : (h : List ℤ) → h ≡ negative g → lt_z (to_z w16 (of_z w16 x)) (pos 0) ≡ true → Upright g h
  upright_turned h e f = record {
    which = inr e;
    small = subst (Covered largest_size) (sym e) (covered_negative largest_size g small);
    above = inr (ended h (ap length e ∙ length-map g neg_ℤ) (at j ∙ turned x (rw back at f)) (λ i m. at i ∙ ap neg_ℤ (a.behind i m)));
  }
    where
      at : (i : ℕ) → get_or h i (pos 0) ≡ neg_ℤ (get_or g i (pos 0))
      at i = ap (λ (l : List ℤ). get_or l i (pos 0)) e ∙ negative_at g i
