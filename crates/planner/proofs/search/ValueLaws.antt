-- The values of a component that the search does not try, each with its law: those below the component of an earlier axis with which
-- the axis can change places, those above n / 2 where the sign of the axis can change, a first component that neither is 0 nor
-- divides n, and those that a difference forbids.
use mathlib.Core.Path.{◌≡◌, sym, ap, ◌∙◌, subst}
use mathlib.Core.Logic.{⊎_elim}
use mathlib.Core.Bool.{false, ◌||◌}
use mathlib.Core.List.{List, Memᴰ}
use Prim.Native.Nat.{ℕ, ◌+◌, ◌*◌, ◌%◌, ◌<◌, ◌≤◌}
use native.Mathlib.Decide.{dec_le}
use native.Mathlib.Omega.{arith}
use borrow.Author.Tests.{eqb-false}
use lib.Dec.{eqb}
use lib.IntN.{ℤ}
use lib.ListN.{length, get_or}
use Rattle.planner.specs.declared.search.Search.{Search}
use Rattle.rank1.specs.Named.{plan_number}
use Rattle.rank1.specs.Index.{row_count}
use Rattle.rank1.specs.Below.{FirstBelow}
use Rattle.rank1.specs.Axes.{Agree}
use Rattle.rank1.proofs.TestLaws.{either_false}
use Rattle.rank1.proofs.IndexLaws.{member_length}
use Rattle.rank1.proofs.RuleLaws.{plan_reduces}
use Rattle.rank1.specs.Rule.{Rule}
use Rattle.rank1.proofs.VectorLaws.{Scales}
use Rattle.rank1.proofs.FirstLaws.{first_component}
use Rattle.rank1.proofs.SwapLaws.{plan_exchanges, swap-first}
use Rattle.rank1.proofs.FlipLaws.{flip-first}
use Rattle.planner.specs.Sizes.{axes}
use Rattle.planner.specs.Lists.{rows_in}
use Rattle.planner.specs.Stage.{rule_of, Tabled, NoFirstFrom, FirstOf, Raised, unraised, higher, Lowest, nothing, started, raised, ValueEnd}

-- ---- how the code finds them
-- one axis more for the lowest value
pub lowest_more :
    (s : Search) (at : ℕ) (z : List ℕ) (low i r : ℕ) → i < at → Raised low (get_or s.task.list.now.swaps (i * axes + at) false) (get_or z i 0) r → Lowest s at z low → Lowest s at z r
lowest_more s at z low i r l (unraised e) before = subst (Lowest s at z) (sym e) before
lowest_more s at z low i r l (higher marked e) before = raised i l marked e

-- ---- and why no first vector has the others
module _ (s : Search) (at : ℕ) (tabled : Tabled s.task) (some : 0 < s.n) (few : s.values ≤ s.n) (within : at < s.task.rows.d) where
  -- every row has d components
  long : (k : List ℤ) → Memᴰ k (rows_in s.task.rows) → length k ≡ s.task.rows.d
  long k m =
      member_length s.task.rows.d (row_count s.task.rows.d s.task.rows.numbers.now) s.task.rows.numbers.now k (omega (arith, s.task.rows.valid.whole)) m

  -- the start, and interchangeable axes: the component of a first vector is not below r
  pub low-passed :
      (z y : List ℕ) (r : ℕ) → s.start ≤ get_or y 0 0 → Lowest s at z r → FirstOf s y → Agree at y z
      → r ≤ get_or y at 0
  low-passed z y r begins (nothing e) f same = omega arith
  low-passed z y r begins (started first e) f same = subst (λ (k : ℕ). r ≤ get_or y k 0) (sym first) (omega (arith, begins))
  low-passed z y r begins (raised i earlier marked e) f same =
      omega (
        arith,
        same i earlier,
        swap-first (rule_of s.task.rows) s.task.rows.d s.n s.values y i at (plan_reduces (plan_number s.task.rows.plan) (rows_in s.task.rows))
            (plan_exchanges (plan_number s.task.rows.plan) s.task.rows.d (rows_in s.task.rows) i at long (tabled.swaps.known i at earlier within marked))
            earlier within some few f,
      )

  -- sign changes: it is below r
  pub high_passed : (y : List ℕ) (r : ℕ) → ValueEnd s at r → FirstOf s y → get_or y at 0 < r
  high_passed y r end f = go (dec_le r (get_or y at 0))
    where
      above : r ≤ get_or y at 0 → ⊥
      above l =
          let h = end.high (get_or y at 0) l (f.ranged.below at within) in
          omega (
            arith,
            h.1,
            flip-first (rule_of s.task.rows) s.task.rows.d s.n s.values y at (plan_reduces (plan_number s.task.rows.plan) (rows_in s.task.rows))
                (tabled.differenced.flips_right.free at within h.0) within some few f,
          )

      go : Dec (r ≤ get_or y at 0) → get_or y at 0 < r
      go (yes l) = absurd (above l)
      go (no l) = omega arith

-- scaling: the first component of a first vector is 0 or divides n
pub lead_passed :
    (rule : Rule) → Scales rule → (d n b at v : ℕ) (z : List ℕ) → 0 < n → 1 ≤ d → at ≡ 0 → b ≡ n → (eqb v 0 || eqb (n % v) 0) ≡ false → get_or z at 0 ≡ v
    → NoFirstFrom rule d n b (at + 1) z
unfolding NoFirstFrom
lead_passed rule scales d n b at v z l h first all_values fails is y f same =
    ⊎_elim
    (λ e. eqb-false v 0 (either_false (eqb v 0) (eqb (n % v) 0) fails).0 (sym here ∙ e))
    (λ e. eqb-false (n % v) 0 (either_false (eqb v 0) (eqb (n % v) 0) fails).1 (ap (λ (x : ℕ). n % x) (sym here) ∙ e))
    (first_component rule scales d n y l h (subst (λ (c : ℕ). FirstBelow rule d n c y) all_values f))
  where
    here : get_or y 0 0 ≡ v
    here = ap (λ (j : ℕ). get_or y j 0) (sym first) ∙ same at (omega arith) ∙ is
