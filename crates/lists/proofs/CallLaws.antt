-- The least modulus worth trying has 16 bits.
use mathlib.Core.Bool.{Bool, true, false, cond}
use Prim.Native.Nat.{ℕ, zero, suc, ◌+◌, ◌*◌, ◌-◌, ◌≤◌}
use native.Mathlib.Omega.{arith}
use lib.Dec.{ltb}
use Rattle.rank1.specs.declared.Tally.{Tally}
use Rattle.rank1.specs.Tally.{zeros, least_modulus}
use Rattle.rank1.specs.Valid.{ValidTally}

-- it is at most 32,769
pub least_small : (plan : ℕ) (t : Tally) → ValidTally t → least_modulus plan t ≤ 32769
least_small zero t v = two (ltb (zeros t.zero) t.m)
  where
    two : (b : Bool) → cond b 2 1 ≤ 32769
    two true = omega arith
    two false = omega arith
least_small (suc zero) t v = omega (arith, v.few_rows)
least_small (suc (suc zero)) t v = one_more t.zero
  where
    one_more : (b : Bool) → cond b t.size (t.size + 1) ≤ 32769
    one_more true = omega (arith, v.few_rows, v.small)
    one_more false = omega (arith, v.few_rows, v.small)
least_small (suc (suc (suc zero))) t v = twice t.zero
  where
    twice : (b : Bool) → cond b (2 * t.m - 1) (2 * t.m + 1) ≤ 32769
    twice true = omega (arith, v.few_rows)
    twice false = omega (arith, v.few_rows)
least_small (suc (suc (suc (suc zero)))) t v = omega (arith, v.few_rows)
least_small (suc (suc (suc (suc (suc p))))) t v = omega arith
