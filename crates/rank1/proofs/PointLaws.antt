-- Laws of the point list: what stands for a residue, plan by plan; how many lines there are; and the twins of document 02, d: under
-- the tent line n - i equals line i, so every line that plans 2, 3 and 4 omit equals a kept one.
use mathlib.Core.Path.{◌≡◌, sym, ◌∙◌, ap}
use mathlib.Core.Logic.{◌↔◌, ⊎_elim}
use mathlib.Core.Bool.{Bool, cond}
use mathlib.Core.List.{List}
use Prim.Native.Nat.{ℕ, ◌+◌, ◌*◌, ◌-◌, ◌/◌, ◌%◌, ◌≤◌, ◌<◌, min}
use native.Mathlib.Nat.{add-mul, mul-mod_right, min_comm}
use native.Mathlib.Decide.{dec_lt}
use native.Mathlib.Omega.{arith}
use borrow.Author.Tests.{le-leb, lt-leb}
use Rattle.rank1.specs.Points.{tent, coordinate, point_line, line_count}
use Rattle.rank1.proofs.Modulo.{opposite}
use Rattle.rank1.proofs.CountLaws.{map-members}

-- ---- what stands for a residue
-- "the residue r of i × z_j" for plans 0 and 1
pub coordinate-residue : (plan n r : ℕ) → plan < 2 → coordinate plan n r ≡ r
coordinate-residue plan n r l = ap (λ (t : Bool). cond t (tent n r) r) (lt-leb 2 plan l)

-- "For plans 2, 3 and 4 it holds the tent numerator instead: the smaller of 2r and 2n - 2r" (document 01, "Cutting list")
pub coordinate-tent : (plan n r : ℕ) → 2 ≤ plan → coordinate plan n r ≡ min (2 * r) (2 * n - 2 * r)
coordinate-tent plan n r l = ap (λ (t : Bool). cond t (tent n r) r) (le-leb 2 plan l)

-- ---- how many lines there are
-- n for plans 0 and 1
pub lines_whole : (plan n : ℕ) → plan < 2 → line_count plan n ≡ n
lines_whole plan n l = ap (λ (t : Bool). cond t (n / 2 + 1) n) (lt-leb 2 plan l)

-- half of n, rounded down, and one more for the others
pub lines_half : (plan n : ℕ) → 2 ≤ plan → line_count plan n ≡ n / 2 + 1
lines_half plan n l = ap (λ (t : Bool). cond t (n / 2 + 1) n) (le-leb 2 plan l)

-- "lines 0 to n/2 rounded down" for plans 2, 3 and 4
pub kept : (plan n i : ℕ) → 2 ≤ plan → (i < line_count plan n) ↔ (2 * i ≤ n)
kept plan n i l = (λ below. omega (arith, lines_half plan n l), λ half. omega (arith, lines_half plan n l))

-- ---- twins
-- the tent does not tell r from n - r
tent-turn : (n r s : ℕ) → r + s ≡ n → tent n r ≡ tent n s
tent-turn n r s e =
    ap (min (2 * r)) (omega arith) ∙ min_comm (2 * r) (2 * s) ∙ ap (min (2 * s)) (omega arith)

-- one component of lines n - i and i
pub coordinate_twin : (plan n i x : ℕ) → 2 ≤ plan → i < n → coordinate plan n (((n - i) * x) % n) ≡ coordinate plan n ((i * x) % n)
coordinate_twin plan n i x l h =
    coordinate-tent plan n (((n - i) * x) % n) l
    ∙ ⊎_elim (λ e. ap (tent n) (e.0 ∙ sym e.1)) (tent-turn n (((n - i) * x) % n) ((i * x) % n)) (opposite ((n - i) * x) (i * x) n (omega arith) whole)
    ∙ sym (coordinate-tent plan n ((i * x) % n) l)
  where
    -- together they are n × x
    whole : ((n - i) * x + i * x) % n ≡ 0
    whole = ap (λ (t : ℕ). t % n) (sym (add-mul (n - i) i x) ∙ ap (λ (t : ℕ). t * x) (omega arith)) ∙ mul-mod_right n x

-- "Under the tent, line n - i equals line i"
pub twin : (plan n : ℕ) (z : List ℕ) (i : ℕ) → 2 ≤ plan → i < n → point_line plan n z (n - i) ≡ point_line plan n z i
twin plan n z i l h =
    map-members (λ x. coordinate plan n (((n - i) * x) % n)) (λ x. coordinate plan n ((i * x) % n)) z (λ x m. coordinate_twin plan n i x l h)

-- only plans with the tent omit a line
pub omitting : (plan n i : ℕ) → line_count plan n ≤ i → i < n → 2 ≤ plan
omitting plan n i o h = elim (dec_lt plan 2) [
  | yes l ↦ absurd (omega (arith, lines_whole plan n l))
  | no l ↦ omega arith
]

-- "The omitted lines are shown equal to kept ones": line i to line n - i
pub omitted : (plan n : ℕ) (z : List ℕ) (i : ℕ) → line_count plan n ≤ i → i < n → (n - i < line_count plan n) × (point_line plan n z i ≡ point_line plan n z (n - i))
omitted plan n z i o h =
    let l = omitting plan n i o h in
    (omega (arith, lines_half plan n l), sym (twin plan n z i l h))
