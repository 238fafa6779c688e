-- Laws of the tent numerator by cases (document 02, e): each residue meets exactly one case, and what that case gives is document 01's
-- number, the smaller of 2r and 2n - 2r.
use mathlib.Core.Path.{◌≡◌, refl, sym, ◌∙◌}
use mathlib.Core.Logic.{⊎_elim}
use Prim.Native.Nat.{ℕ, zero, suc, ◌*◌, ◌≤◌, ◌<◌}
use native.Mathlib.Nat.{suc-ne-zero, min-eq_left, min-eq_right}
use native.Mathlib.Omega.{arith}
use Rattle.rank1.specs.declared.TentCase.{TentCase}
use Rattle.rank1.specs.declared.TentCase.TheVariants as case
use Rattle.rank1.specs.Points.{tent, coordinate}
use Rattle.rank1.specs.Tent.{Meets, numerator}
use Rattle.rank1.proofs.Order.{compared}
use Rattle.rank1.proofs.PointLaws.{coordinate-tent}

-- ---- exactly one case
-- a residue below n meets no two cases: the same one, or by arithmetic not both
pub only_case : (n r : ℕ) → r < n → (c other : TentCase) → Meets n r c → Meets n r other → other ≡ c
only_case n r l case.Zero case.Zero m o = refl
only_case n r l case.Zero case.BelowHalf m o = absurd (omega arith)
only_case n r l case.Zero case.Half m o = absurd (omega arith)
only_case n r l case.Zero case.AboveHalf m o = absurd (omega arith)
only_case n r l case.BelowHalf case.Zero m o = absurd (omega arith)
only_case n r l case.BelowHalf case.BelowHalf m o = refl
only_case n r l case.BelowHalf case.Half m o = absurd (omega arith)
only_case n r l case.BelowHalf case.AboveHalf m o = absurd (omega arith)
only_case n r l case.Half case.Zero m o = absurd (omega arith)
only_case n r l case.Half case.BelowHalf m o = absurd (omega arith)
only_case n r l case.Half case.Half m o = refl
only_case n r l case.Half case.AboveHalf m o = absurd (omega arith)
only_case n r l case.AboveHalf case.Zero m o = absurd (omega arith)
only_case n r l case.AboveHalf case.BelowHalf m o = absurd (omega arith)
only_case n r l case.AboveHalf case.Half m o = absurd (omega arith)
only_case n r l case.AboveHalf case.AboveHalf m o = refl

-- a case that is met, and no other is
pub record MeetsOne (n r : ℕ) : Type 0 where
  pub met : TentCase
  pub meets : Meets n r met
  pub alone : (other : TentCase) → Meets n r other → other ≡ met

-- a case that is met is that one
the_case : (n r : ℕ) → r < n → (c : TentCase) → Meets n r c → MeetsOne n r
the_case n r l c m = record { met = c; meets = m; alone = λ other. only_case n r l c other m }

-- "each residue meets exactly one case"
pub one_case : (n r : ℕ) → r < n → MeetsOne n r
one_case n zero l = the_case n zero l case.Zero refl
one_case n (suc r) l =
    ⊎_elim (λ below. the_case n (suc r) l case.BelowHalf (suc-ne-zero r, below))
    (⊎_elim (the_case n (suc r) l case.Half) (the_case n (suc r) l case.AboveHalf))
    (compared (2 * suc r) n)

-- ---- document 01's number
-- "and gets 01's minimum there"
pub case_minimum : (n r : ℕ) (c : TentCase) → Meets n r c → numerator n r c ≡ tent n r
case_minimum n r case.Zero m = omega arith
case_minimum n r case.BelowHalf m = sym (min-eq_left (omega arith))
case_minimum n r case.Half m = sym m ∙ sym (min-eq_left (omega arith))
case_minimum n r case.AboveHalf m = sym (min-eq_right (omega arith))

-- what stands for a residue in the point list, for plans 2, 3 and 4
pub coordinate_case : (plan n r : ℕ) (c : TentCase) → 2 ≤ plan → Meets n r c → coordinate plan n r ≡ numerator n r c
coordinate_case plan n r c l m = coordinate-tent plan n r l ∙ sym (case_minimum n r c m)
