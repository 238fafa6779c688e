-- The rounds at one modulus: what is set before it is searched, what a round gives, and how the rounds end at the gentlest vector.
use mathlib.Core.Path.{◌≡◌, sym, ap, ◌∙◌, subst}
use mathlib.Core.Bool.{Bool, true, false}
use mathlib.Core.List.{List, map}
use Prim.Native.Nat.{ℕ, ◌+◌, ◌*◌, ◌<◌, ◌≤◌}
use native.Mathlib.Nat.{zero-mod}
use native.Mathlib.Omega.{arith}
use lib.IntN.{pos}
use lib.ListN.{length, get_or, take}
use Rattle.planner.specs.declared.search.Search.{Search}
use Rattle.planner.specs.declared.tables.Work.{Work}
use Rattle.rank1.specs.Residue.{residue_at}
use Rattle.rank1.specs.Rule.{Rule}
use Rattle.rank1.proofs.RuleLaws.{Reduces}
use Rattle.rank1.specs.Search.{largest, Gentlest, Hopeless}
use Rattle.rank1.specs.Below.{FirstBelow}
use Rattle.rank1.specs.Valid.{ValidModulus}
use Rattle.rank1.proofs.SearchLaws.{is-first, hopeless}
use Rattle.rank1.proofs.GentleLaws.{descent-ends, descent_falls, descent_starts}
use Rattle.planner.specs.Sizes.{lasts, room}
use Rattle.planner.specs.Runs.{column}
use Rattle.planner.specs.Sieve.{SolutionsOf}
use Rattle.planner.specs.Stage.{rule_of, Tabled, Stage, KeptBefore, NoFirstFrom, FirstOf, Completed, CompletedOf, Blank, below}

-- nothing is fixed yet: the sums before the first axis are 0
pub stage-none :
    (s : Search) (z : List ℕ) (w : Work) → Tabled s.task → ValidModulus s.n → s.values ≤ s.n → ((y : List ℕ) → FirstOf s y → s.start ≤ get_or y 0 0)
    → SolutionsOf s.n s.modulus.now → length z ≡ s.task.rows.d → Blank w → Stage s 0 z w
stage-none s z w t v few begins solved size blank = record {
  fixed = record {
    tabled = t;
    prefix = record { modulus = v; within = omega arith; size = size; entries = λ j x l b. absurd (omega arith) };
    few_values = few;
    begins = begins;
    below = λ j l. absurd (omega arith);
  };
  sums = λ i e l h from to. zero_sum i e (omega arith) (omega (arith, s.task.list.now.bounded.few (s.task.rows.d * lasts)));
  solutions = solved;
}
  where
    zero_sum :
        (i e : ℕ) → i ≡ 0 → e < room → get_or w.sums (i * room + e) 0 ≡ residue_at s.n (map pos z) (take i (column s.task.rows.d s.task.list.now.components e))
    zero_sum i e first l =
        ap (λ (k : ℕ). get_or w.sums (k * room + e) 0) first
        ∙ ap (λ (k : ℕ). get_or w.sums k 0) start
        ∙ blank e l
        ∙ sym (ap (λ (k : ℕ). residue_at s.n (map pos z) (take k (column s.task.rows.d s.task.list.now.components e))) first ∙ zero-mod s.n)
      where
        start : 0 * room + e ≡ e
        start = omega arith

-- what the search of a modulus leaves serves the next
pub blank-kept : (z : List ℕ) (w : Work) (z' : List ℕ) (w' : Work) → KeptBefore 0 z w z' w' → Blank w → Blank w'
blank-kept z w z' w' k blank e l = k.sums e (omega arith) ∙ blank e l

-- ---- what a round below b gives: with nothing fixed, what was completed is the first of all
module _ (rule : Rule) (d n b : ℕ) (z x : List ℕ) (r : Bool) (done : Completed rule d n b 0 z x r) where
  pub round_found : r ≡ true → FirstBelow rule d n b x
  round_found e = is-first rule d n b x (done.ranged e) (done.admissible e) (λ y f before. done.least e y f (λ i h. absurd (omega arith)) before)

  pub round_none : r ≡ false → (y : List ℕ) → FirstBelow rule d n b y → ⊥
  unfolding NoFirstFrom
  round_none e y f = done.none e y f (λ i h. absurd (omega arith))

-- the first round, of all values, says whether n fails
pub round_fails : (rule : Rule) → Reduces rule → (d n : ℕ) (z x : List ℕ) (r : Bool) → 0 < n → Completed rule d n n 0 z x r → r ≡ false → Hopeless rule d n
round_fails rule reduces d n z x r l done e = (hopeless rule d n reduces l).0 (round_none rule d n n z x r done e)

-- ---- the rounds: the vector found last is first below some bound, and the work serves the next
pub record Lowering (s : Search) (z : List ℕ) (w : Work) : Type 0 where
  pub bound : ℕ
  pub few : bound ≤ s.n
  pub first : FirstBelow (rule_of s.task.rows) s.task.rows.d s.n bound z
  pub blank : Blank w

-- a later round s' of the search s: the values are those below the largest component of the vector found last, and its first component
-- is the start
pub record Round (s s' : Search) (z : List ℕ) (w : Work) : Type 0 where
  pub bound : ℕ
  pub start : ℕ
  pub is : s' ≡ below bound start s
  pub top : bound ≡ largest z
  pub first : start ≡ get_or z 0 0
  pub tabled : Tabled s.task
  pub last : Lowering s z w

module _ (s s' : Search) (z : List ℕ) (w : Work) (round : Round s s' z w) where
  some : 1 ≤ s.task.rows.d
  some = s.task.rows.valid.some_axes

  -- the largest component is below the bound of the round before
  falls : round.bound < round.last.bound
  falls = omega (arith, round.top, descent_falls (rule_of s.task.rows) s.task.rows.d s.n round.last.bound z some round.last.first)

  -- what the round asks
  pub round_stage : ValidModulus s.n → SolutionsOf s.n s.modulus.now → Stage s' 0 z w
  round_stage modulus solved =
      subst (λ (r : Search). Stage r 0 z w) (sym round.is)
      (stage-none (below round.bound round.start s) z w round.tabled modulus (omega (arith, falls, round.last.few))
      (λ y f. omega (arith, round.first, descent_starts (rule_of s.task.rows) s.task.rows.d s.n round.last.bound round.bound z some (omega (arith, falls)) round.last.first y f))
      solved round.last.first.ranged.size round.last.blank)

  module _ (z' : List ℕ) (w' : Work) (r : Bool) (done : CompletedOf s' 0 z z' r) where
    -- what it gives, of s
    given : CompletedOf (below round.bound round.start s) 0 z z' r
    given = subst (λ (t : Search). CompletedOf t 0 z z' r) round.is done

    -- it found a vector, the first below the bound
    found : r ≡ true → FirstBelow (rule_of s.task.rows) s.task.rows.d s.n round.bound z'
    found e = round_found (rule_of s.task.rows) s.task.rows.d s.n round.bound z z' r given e

    -- that is the last one now
    pub lower_more : r ≡ true → Blank w' → Lowering s z' w'
    lower_more e blank = record { bound = round.bound; few = omega (arith, falls, round.last.few); first = found e; blank = blank }

    -- and its largest component is smaller
    pub lower_less : r ≡ true → largest z' < largest z
    lower_less e = omega (arith, round.top, descent_falls (rule_of s.task.rows) s.task.rows.d s.n round.bound z' some (found e))

    -- it found none: the last one is the gentlest
    pub lower_ends : r ≡ false → Gentlest (rule_of s.task.rows) s.task.rows.d s.n z
    lower_ends e =
        descent-ends (rule_of s.task.rows) s.task.rows.d s.n round.last.bound z round.last.few round.last.first
        (subst (λ (b : ℕ). (y : List ℕ) → FirstBelow (rule_of s.task.rows) s.task.rows.d s.n b y → ⊥) round.top
        (round_none (rule_of s.task.rows) s.task.rows.d s.n round.bound z z' r given e))
