-- The running tally on examples, by computing (document 02, b): recounts, bounds, and what the three calls refuse. Each line of an order
-- has arguments to which two conditions that stand next to each other both apply, and gives the number of the first.
use mathlib.Core.Path.{◌≡◌, refl}
use mathlib.Core.Bool.{Bool, true, false}
use mathlib.Core.List.{List, [], ◌∷◌, map}
use Prim.Native.Nat.{ℕ}
use lib.IntN.{ℤ, pos, negsuc}
use Rattle.rank1.specs.declared.Tally.{Tally}
use Rattle.rank1.specs.Index.{index_list}
use Rattle.rank1.specs.Tally.{recount, least_modulus}
use Rattle.rank1.specs.Refusal.{tally_refusal, add_refusal, least_refusal}

-- a run without signs, and a record by its fields
abbrev run : List ℕ → List ℤ
run = map pos

abbrev tally : ℕ → ℕ → Bool → Tally
tally m size zero = record { m = m; size = size; zero = zero }

abbrev plans : List ℕ
plans = 0 ∷ 1 ∷ 2 ∷ 3 ∷ 4 ∷ []

-- ---- recounts for the five plans
-- rows 0, 1, 2 of one axis: M is 0, 1, -1, 2, -2
pub with_zero_counted : map (λ plan. recount plan 1 (index_list 1 (run (0 ∷ 1 ∷ 2 ∷ [])))) plans ≡ tally 3 3 true ∷ tally 3 3 true ∷ tally 3 5 true ∷ tally 3 5 true ∷ tally 3 5 true ∷ []
with_zero_counted = refl

-- rows (1, 0) and (2, 3) of two axes: a component 0 has one sign, so M has 2 + 4 members
pub one_sign_counted : map (λ plan. recount plan 2 (index_list 2 (run (1 ∷ 0 ∷ 2 ∷ 3 ∷ [])))) plans ≡ tally 2 2 false ∷ tally 2 2 false ∷ tally 2 6 false ∷ tally 2 6 false ∷ tally 2 6 false ∷ []
one_sign_counted = refl

-- M is a set: of 1 and -1, which only plans 0 and 1 take, the mirrors are the same two
pub set-counted : recount 2 1 (index_list 1 (pos 1 ∷ negsuc 0 ∷ [])) ≡ tally 2 2 false
set-counted = refl

-- ---- bounds for the five plans
abbrev bounds : ℕ → List ℤ → List ℕ
bounds d xs = map (λ plan. least_modulus plan (recount plan d (index_list d xs))) plans

pub with_zero : bounds 1 (run (0 ∷ 1 ∷ 2 ∷ [])) ≡ 2 ∷ 3 ∷ 5 ∷ 5 ∷ 3 ∷ []
with_zero = refl

pub without_zero : bounds 1 (run (1 ∷ 2 ∷ [])) ≡ 2 ∷ 2 ∷ 5 ∷ 5 ∷ 2 ∷ []
without_zero = refl

pub zero_alone : bounds 2 (run (0 ∷ 0 ∷ [])) ≡ 1 ∷ 1 ∷ 1 ∷ 1 ∷ 1 ∷ []
zero_alone = refl

pub no_rows : bounds 2 [] ≡ 1 ∷ 1 ∷ 1 ∷ 1 ∷ 1 ∷ []
no_rows = refl

-- the largest, and that of a false record
pub border_bounds : (least_modulus 2 (tally 512 32768 false) ∷ least_modulus 2 (tally 1 0 true) ∷ []) ≡ 32769 ∷ 0 ∷ []
border_bounds = refl

-- ---- what the calls refuse
-- counting a list: 1 and 2, 2 and 3, 3 and 4, 4 and 5; 5; none
pub tally-order :
    (tally_refusal 5 0 (run (0 ∷ []))
    ∷ tally_refusal 1 7 (run (0 ∷ []))
    ∷ tally_refusal 1 2 (run (256 ∷ 0 ∷ 0 ∷ []))
    ∷ tally_refusal 1 1 (run (256 ∷ 256 ∷ []))
    ∷ tally_refusal 1 1 (run (3 ∷ 3 ∷ []))
    ∷ tally_refusal 1 1 (run (3 ∷ 4 ∷ []))
    ∷ [])
    ≡ 1 ∷ 2 ∷ 3 ∷ 4 ∷ 5 ∷ 0 ∷ []
unfolding tally_refusal
tally-order = refl

-- adding a row: 1 and 2, 2 and 3 (the row), 3 (the row) and 4, 3 (the list) and 4, 4 (the row) and 5, 5 and 3 (the record)
pub add-order :
    (add_refusal 5 0 (run (3 ∷ [])) (tally 1 1 false) (run (4 ∷ []))
    ∷ add_refusal 1 7 (run (3 ∷ [])) (tally 1 1 false) (run (4 ∷ []))
    ∷ add_refusal 1 1 (run (256 ∷ [])) (tally 1 1 false) (run (4 ∷ 5 ∷ []))
    ∷ add_refusal 1 2 (run (256 ∷ 0 ∷ 0 ∷ [])) (tally 1 1 false) (run (4 ∷ 5 ∷ []))
    ∷ add_refusal 1 1 (run (3 ∷ 3 ∷ [])) (tally 2 2 false) (run (256 ∷ []))
    ∷ add_refusal 1 1 (run (3 ∷ [])) (tally 2 1 false) (run (3 ∷ []))
    ∷ add_refusal 1 1 (run (3 ∷ 3 ∷ [])) (tally 1 2 false) (run (4 ∷ []))
    ∷ [])
    ≡ 1 ∷ 2 ∷ 3 ∷ 3 ∷ 4 ∷ 5 ∷ 5 ∷ []
unfolding add_refusal
add-order = refl

-- the record is the recount in all three, or it is 3
pub add-records :
    (add_refusal 1 1 (run (3 ∷ [])) (tally 1 1 false) (run (4 ∷ []))
    ∷ add_refusal 1 1 (run (3 ∷ [])) (tally 2 1 false) (run (4 ∷ []))
    ∷ add_refusal 1 1 (run (3 ∷ [])) (tally 1 2 false) (run (4 ∷ []))
    ∷ add_refusal 1 1 (run (3 ∷ [])) (tally 1 1 true) (run (4 ∷ []))
    ∷ add_refusal 2 1 (run (3 ∷ [])) (tally 1 2 false) (run (4 ∷ []))
    ∷ [])
    ≡ 0 ∷ 3 ∷ 3 ∷ 3 ∷ 0 ∷ []
unfolding add_refusal
add-records = refl

-- the least modulus: 1 and 3; each border of 3, and past it
pub least-order :
    (least_refusal 5 (tally 513 0 false)
    ∷ least_refusal 4 (tally 512 32768 true)
    ∷ least_refusal 4 (tally 513 32768 false)
    ∷ least_refusal 4 (tally 512 32769 false)
    ∷ least_refusal 4 (tally 0 0 false)
    ∷ least_refusal 4 (tally 0 0 true)
    ∷ [])
    ≡ 1 ∷ 0 ∷ 3 ∷ 3 ∷ 0 ∷ 3 ∷ []
unfolding least_refusal
least-order = refl
