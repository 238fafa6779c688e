-- The tent numerator of a residue r, over the denominator n, by cases (document 02, e). That a residue meets exactly one case, and gets
-- document 01's minimum (`Points.tent`) there, is shown in proofs/TentLaws.
use Rattle.std.specs.Prelude.{◌≡◌, ◌≢◌, ℕ, ◌*◌, ◌-◌, ◌<◌}
use Rattle.rank1.specs.declared.TentCase.{TentCase}
use Rattle.rank1.specs.declared.TentCase.TheVariants as case

-- when r meets a case: r zero; any other r below half of n; exactly half; above half. Half of n is not rounded: 2r is compared with n,
-- so of an odd n no r is exactly half.
abbrev pub Meets : ℕ → ℕ → TentCase → Type 0
Meets n r case.Zero = r ≡ 0
Meets n r case.BelowHalf = (r ≢ 0) × (2 * r < n)
Meets n r case.Half = 2 * r ≡ n
Meets n r case.AboveHalf = n < 2 * r

-- what a case gives: 0, 2r, n, 2n - 2r
abbrev pub numerator : ℕ → ℕ → TentCase → ℕ
numerator n r case.Zero = 0
numerator n r case.BelowHalf = 2 * r
numerator n r case.Half = n
numerator n r case.AboveHalf = 2 * n - 2 * r
