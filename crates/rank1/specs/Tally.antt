-- The running tally (document 02, b): the record of a list, its recount, and the least modulus worth trying. The record has m, the
-- size of M and whether the zero row is in (src/lib.rt).
use Rattle.std.specs.Prelude.{Bool, true, false, cond, not, ◌&&◌, List, [], ◌∷◌, ℕ, zero, suc, ◌+◌, ◌*◌, ◌-◌, max, eqb, leb, ltb, ℤ, length}
use Rattle.rank1.specs.declared.Tally.{Tally}
use Rattle.rank1.specs.Tests.{any, same_row}
use Rattle.rank1.specs.Index.{zero_row, mirrored}

-- how many different rows there are
abbrev pub different : List (List ℤ) → ℕ
different [] = 0
different (s ∷ ss) = cond (any (same_row s) ss) 0 1 + different ss

-- the size of M, which is a set; for plans 0 and 1 the size kept is m
abbrev pub size_kept : ℕ → List (List ℤ) → ℕ
size_kept plan ks = cond (leb 2 plan) (different (mirrored ks)) (length ks)

-- the zero row is in
abbrev pub zero_in : ℕ → List (List ℤ) → Bool
zero_in d ks = any (same_row (zero_row d)) ks

-- the recount of a list
abbrev pub recount : ℕ → ℕ → List (List ℤ) → Tally
recount plan d ks = record { m = length ks; size = size_kept plan ks; zero = zero_in d ks }

-- two flags are equal
abbrev pub same_flag : Bool → Bool → Bool
same_flag true b = b
same_flag false b = not b

-- two records have all three equal
abbrev pub same_tally : Tally → Tally → Bool
same_tally t u = eqb t.m u.m && (eqb t.size u.size && same_flag t.zero u.zero)

-- how many of the rows are the zero row: 1 where it is in, else 0
abbrev pub zeros : Bool → ℕ
zeros held = cond held 1 0

-- the least modulus worth trying, from the record alone. Plan 0: 2 if a non-zero row is held, else 1. Plans 1 and C: the larger of 1
-- and m. Plan A: size of M, plus 1 without the zero row. Plan B: 2m - 1 with the zero row, else 2m + 1. There is no plan above 4.
abbrev pub least_modulus : ℕ → Tally → ℕ
least_modulus zero t = cond (ltb (zeros t.zero) t.m) 2 1
least_modulus (suc zero) t = max 1 t.m
least_modulus (suc (suc zero)) t = cond t.zero t.size (t.size + 1)
least_modulus (suc (suc (suc zero))) t = cond t.zero (2 * t.m - 1) (2 * t.m + 1)
least_modulus (suc (suc (suc (suc zero)))) t = max 1 t.m
least_modulus (suc (suc (suc (suc (suc p))))) t = 1
