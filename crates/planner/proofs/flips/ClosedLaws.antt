-- A row with the other sign at an axis, as the code makes it (`flip-set`), and what differences that stay themselves say of the rule: of any
-- list of them (`sign-closed`), and of the table (`table-closed`).
use mathlib.Core.Path.{◌≡◌, refl, sym, ◌∙◌, ap, subst}
use mathlib.Core.Bool.{true}
use mathlib.Core.List.{List, [], ◌∷◌}
use Prim.Native.Nat.{ℕ, zero, suc, ◌≤◌}
use native.Mathlib.Omega.{arith}
use lib.IntN.{ℤ, pos, nat_abs, neg_ℤ, ◌-ℤ◌, +ℤ_idl}
use lib.ListN.{get_or, set}
use mir.Syntax.{w16}
use mir.Val.{SFits, to_z, of_z}
use mir.Facts.{to_z-of_z}
use Rattle.rank1.specs.Axes.{flip}
use Rattle.rank1.specs.Rule.{Admissible}
use Rattle.rank1.specs.Differences.{Sound, Complete, Closed, Flips}
use Rattle.rank1.proofs.MirrorLaws.{sizes_at}
use Rattle.rank1.proofs.FlipLaws.{flip-sizes, plan_a_flips}
use Rattle.rank1.proofs.DifferenceLaws.{differences-flip}
use Rattle.planner.specs.Sizes.{largest_size}
use Rattle.planner.specs.Inner.{Covered}
use Rattle.planner.specs.Table.{rows_found, SeesNoSign}
use Rattle.planner.specs.declared.table.Differences.{Differences}
use Rattle.planner.proofs.products.ProductLaws.{small_fits, read_back}
use Rattle.rank1.proofs.FlipLaws.{size-neg}

-- ---- the other sign
-- of a component, as the code reads it: it fits an i16, and is read back
module _ (x : ℤ) (small : nat_abs x ≤ largest_size) where
  read : pos 0 -ℤ to_z w16 (of_z w16 x) ≡ neg_ℤ x
  read = ap (λ (k : ℤ). pos 0 -ℤ k) (read_back x small) ∙ +ℤ_idl (neg_ℤ x)

  pub other_fits : SFits w16 (pos 0 -ℤ to_z w16 (of_z w16 x))
  other_fits = subst (SFits w16) (sym read) (small_fits (neg_ℤ x) (omega (arith, size-neg x)))

  pub other_back : to_z w16 (of_z w16 (pos 0 -ℤ to_z w16 (of_z w16 x))) ≡ neg_ℤ x
  other_back = to_z-of_z other_fits ∙ read

-- of one component
pub flip-set : (j : ℕ) (xs : List ℤ) → set xs j (neg_ℤ (get_or xs j (pos 0))) ≡ flip j xs
flip-set j [] = refl
flip-set zero (x ∷ xs) = refl
flip-set (suc j) (x ∷ xs) = ap (λ (l : List ℤ). x ∷ l) (flip-set j xs)

-- sizes stay
pub covered_flip : (top j : ℕ) (xs : List ℤ) → Covered top xs → Covered top (flip j xs)
covered_flip top j xs c = record { narrow = c.narrow; covered = λ i. omega (arith, sizes_at (flip j xs) xs (flip-sizes j xs) i, c.covered i) }

-- ---- lists of differences
-- plan 2 sees no sign, whatever its list
pub sign-all : (plan j : ℕ) → plan ≡ 2 → (ks : List (List ℤ)) → Flips j (Admissible plan ks)
sign-all plan j e ks = subst (λ (p : ℕ). Flips j (Admissible p ks)) (sym e) (plan_a_flips ks j)

-- where D stays itself, and has all differences of a list and none but avoided ones, the rule of the list does not see the sign: D is any list of
-- differences, of rows of any length
pub sign-closed :
    (plan j : ℕ) (D : List (List ℤ)) → Closed j D → (ks : List (List ℤ)) → Sound (Admissible plan ks) D → Complete plan ks D
    → Flips j (Admissible plan ks)
sign-closed plan j D closed ks sound complete = differences-flip plan ks D j sound complete closed

-- ---- the table
-- so under plan 2 no list whose differences a table has sees the sign
pub table-all : (plan j : ℕ) (t : Differences) → plan ≡ 2 → SeesNoSign plan j t
table-all plan j t e ks f = sign-all plan j e ks

-- and none does where the table has all differences and stays itself
pub table-closed : (plan j : ℕ) (t : Differences) → t.whole ≡ true → Closed j (rows_found t) → SeesNoSign plan j t
table-closed plan j t e closed ks f = sign-closed plan j (rows_found t) closed ks f.sound (f.complete e)
