-- The trial tickets of document 01, the ticket without terms of document 02, a, under each plan, and one where the order of document 02,
-- f, and dictionary order differ: one table, and one theorem over it. Each entry is the smallest plan for its rows, whatever the ceiling,
-- and has the c printed there. Beside it row (6) under plan 0.
use mathlib.Core.Path.{◌≡◌, refl, sym, ◌∙◌, ap}
use mathlib.Core.Logic.{◌≢◌}
use mathlib.Core.Bool.{Bool, true, ◌&&◌}
use mathlib.Core.List.{List, [], ◌∷◌, map, Memᴰ}
use Prim.Native.Nat.{ℕ, ◌%◌, ◌≤◌}
use native.Mathlib.Omega.{arith}
use lib.Dec.{T}
use lib.IntN.{ℤ, pos, nat_abs}
use Rattle.rank1.specs.Tests.{same_row}
use Rattle.rank1.specs.Rule.{Admissible}
use Rattle.rank1.specs.RuleTest.{admissible}
use Rattle.rank1.specs.Search.{Hopeless, Gentlest, Smallest, NoPlan}
use Rattle.rank1.specs.Below.{FirstBelow}
use Rattle.rank1.specs.Sums.{copies}
use Rattle.rank1.proofs.SearchLaws.{Outcome, plan_of, OutcomeIs, determined}
use Rattle.rank1.proofs.TestLaws.{both, every_at, decides_row}
use Rattle.rank1.proofs.SearchTests.{dictionary, gentle, plan_tested, smallest_test, smallest_holds, first_holds, hopeless_holds, no_plan_holds}
use Rattle.rank1.proofs.GentleLaws.{gentlest_below}

-- a ticket, its answer, and the c of its rows, [] where none is printed
pub record Ticket : Type 0 where
  pub plan : ℕ
  pub axes : ℕ
  pub rows : List (List ℕ)
  pub modulus : ℕ
  pub vector : List ℕ
  pub counts : List ℕ

abbrev ticket : ℕ → ℕ → List (List ℕ) → ℕ → List ℕ → List ℕ → Ticket
ticket p d ks n z cs = record { plan = p; axes = d; rows = ks; modulus = n; vector = z; counts = cs }

-- the rows 0, 1, 2
abbrev line : List (List ℕ)
line = (0 ∷ []) ∷ (1 ∷ []) ∷ (2 ∷ []) ∷ []

-- the rows (0,0), (1,0), (0,1)
abbrev corner : List (List ℕ)
corner = (0 ∷ 0 ∷ []) ∷ (1 ∷ 0 ∷ []) ∷ (0 ∷ 1 ∷ []) ∷ []

-- the row (1,1)
abbrev single : List (List ℕ)
single = (1 ∷ 1 ∷ []) ∷ []

-- the rows (1,0), (1,1)
abbrev slant : List (List ℕ)
slant = (1 ∷ 0 ∷ []) ∷ (1 ∷ 1 ∷ []) ∷ []

abbrev pub tickets : List Ticket
tickets =
    ticket 1 1 line 3 (1 ∷ []) []
    ∷ ticket 2 1 line 5 (1 ∷ []) []
    ∷ ticket 3 1 line 5 (1 ∷ []) []
    ∷ ticket 4 1 line 4 (1 ∷ []) (1 ∷ 1 ∷ 2 ∷ [])
    ∷ ticket 1 2 corner 3 (1 ∷ 2 ∷ []) []
    ∷ ticket 2 2 corner 5 (1 ∷ 2 ∷ []) []
    ∷ ticket 4 2 corner 4 (1 ∷ 2 ∷ []) []
    ∷ ticket 2 2 single 5 (1 ∷ 2 ∷ []) []
    ∷ ticket 3 2 single 3 (1 ∷ 1 ∷ []) []
    ∷ ticket 4 2 single 1 (0 ∷ 0 ∷ []) (4 ∷ [])
    -- the two orders differ
    ∷ ticket 2 2 slant 7 (2 ∷ 1 ∷ []) []
    -- no rows
    ∷ ticket 0 2 [] 1 (0 ∷ 0 ∷ []) []
    ∷ ticket 1 2 [] 1 (0 ∷ 0 ∷ []) []
    ∷ ticket 2 2 [] 1 (0 ∷ 0 ∷ []) []
    ∷ ticket 3 2 [] 1 (0 ∷ 0 ∷ []) []
    ∷ ticket 4 2 [] 1 (0 ∷ 0 ∷ []) []
    ∷ []

-- ---- what is claimed of each
module _ (t : Ticket) where
  abbrev pub list_of : List (List ℤ)
  list_of = map (map pos) t.rows

  abbrev pub counts_of : List ℕ
  counts_of = map (copies t.plan t.modulus (map pos t.vector)) list_of

  pub record Trial : Type 0 where
    pub smallest : (ceiling : ℕ) → t.modulus ≤ ceiling → Smallest (Admissible t.plan list_of) t.axes ceiling t.modulus t.vector
    pub counted : t.counts ≢ [] → counts_of ≡ t.counts

-- none is printed, or these
abbrev printed : List ℕ → List ℕ → Bool
printed [] ds = true
printed (c ∷ cs) ds = same_row (map pos ds) (map pos (c ∷ cs))

whole_back : (cs : List ℕ) → map nat_abs (map pos cs) ≡ cs
whole_back [] = refl
whole_back (c ∷ cs) = ap (λ (l : List ℕ). c ∷ l) (whole_back cs)

printed_holds : (cs ds : List ℕ) → T (printed cs ds) → cs ≢ [] → ds ≡ cs
printed_holds [] ds t h = absurd (h refl)
printed_holds (c ∷ cs) ds t h = sym (whole_back ds) ∙ ap (map nat_abs) ((decides_row (map pos ds) (map pos (c ∷ cs))).0 t) ∙ whole_back (c ∷ cs)

abbrev passes : Ticket → Bool
passes t = smallest_test (plan_tested t.plan (list_of t)) t.axes t.modulus t.vector && printed t.counts (counts_of t)

-- every ticket of the table, by computing
pub trials : (t : Ticket) → Memᴰ t tickets → Trial t
unfolding admissible
trials t m =
    let u = both (smallest_test (plan_tested t.plan (list_of t)) t.axes t.modulus t.vector) (printed t.counts (counts_of t)) (every_at passes tickets tt t m) in
    record {
      smallest = smallest_holds (plan_tested t.plan (list_of t)) t.axes t.modulus t.vector u.0;
      counted = printed_holds t.counts (counts_of t) u.1;
    }

-- so whatever answers a ticket's list, plan and ceiling is what the table says
pub trial_answers : (t : Ticket) → Memᴰ t tickets → (ceiling : ℕ) → t.modulus ≤ ceiling → (a : Outcome) → OutcomeIs (Admissible t.plan (list_of t)) t.axes ceiling a → a ≡ plan_of t.modulus t.vector
trial_answers t m ceiling l a p = determined (Admissible t.plan (list_of t)) t.axes ceiling a (plan_of t.modulus t.vector) p ((trials t m).smallest ceiling l)

-- ---- plan 2, rows (1,0), (1,1): where the two orders differ
abbrev slanted : List (List ℤ)
slanted = map (map pos) slant

-- in dictionary order the first vector at 7 is (1, 3)
pub slant_first : FirstBelow (Admissible 2 slanted) 2 7 7 (1 ∷ 3 ∷ [])
unfolding admissible
slant_first = first_holds (plan_tested 2 slanted) 2 dictionary 7 (1 ∷ 3 ∷ []) tt

pub slant_gentlest : Gentlest (Admissible 2 slanted) 2 7 (2 ∷ 1 ∷ [])
unfolding admissible
slant_gentlest = first_holds (plan_tested 2 slanted) 2 gentle 7 (2 ∷ 1 ∷ []) tt

-- scaling does not hold below a bound: (2, 1) is the first vector there below 3, and its first component does not divide 7
pub scaling_fails : FirstBelow (Admissible 2 slanted) 2 7 3 (2 ∷ 1 ∷ []) × (7 % 2 ≢ 0)
scaling_fails = (gentlest_below (Admissible 2 slanted) 2 7 (2 ∷ 1 ∷ []) slant_gentlest, (λ e. omega arith))

-- ---- plan 0, row (6)
abbrev pub six : List (List ℤ)
six = (pos 6 ∷ []) ∷ []

pub six_smallest : (ceiling : ℕ) → 4 ≤ ceiling → Smallest (Admissible 0 six) 1 ceiling 4 (1 ∷ [])
unfolding admissible
six_smallest = smallest_holds (plan_tested 0 six) 1 4 (1 ∷ []) tt

pub six_none : NoPlan (Admissible 0 six) 1 3
unfolding admissible
six_none = no_plan_holds (plan_tested 0 six) 1 3 tt

-- a larger modulus may be worse: 4, 5 and 7 have a vector, and 6 has none
pub six_at_four : Gentlest (Admissible 0 six) 1 4 (1 ∷ [])
unfolding admissible
six_at_four = first_holds (plan_tested 0 six) 1 gentle 4 (1 ∷ []) tt

pub six_at_five : Gentlest (Admissible 0 six) 1 5 (1 ∷ [])
unfolding admissible
six_at_five = first_holds (plan_tested 0 six) 1 gentle 5 (1 ∷ []) tt

pub six_at_six : Hopeless (Admissible 0 six) 1 6
unfolding admissible
six_at_six = hopeless_holds (plan_tested 0 six) 1 6 (omega arith) tt

pub six_at_seven : Gentlest (Admissible 0 six) 1 7 (1 ∷ [])
unfolding admissible
six_at_seven = first_holds (plan_tested 0 six) 1 gentle 7 (1 ∷ []) tt
