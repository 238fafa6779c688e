-- Whole texts and their answers: one table, and one theorem over it. Document 01's request, a ticket without terms (under every plan:
-- NoTerms), row (6) under plan 0, and the refusals that follow the reading, in the program's order; those of the reading stand in
-- ReadingExamples.
use mathlib.Core.Path.{refl}
use mathlib.Core.Logic.{inl, inr}
use mathlib.Core.List.{List, [], ◌∷◌, Memᴰ}
use native.Mathlib.Omega.{arith}
use Prim.Native.String.{String}
use lib.IntN.{ℤ, pos}
use Rattle.rank1.specs.Rule.{Admissible}
use Rattle.rank1.specs.Search.{Smallest}
use Rattle.rank1.specs.RuleTest.{admissible}
use Rattle.rank1.proofs.SearchTests.{plan_tested, smallest_holds}
use Rattle.rank1.proofs.NoRows.{no_rows_smallest}
use Rattle.rank1.proofs.Trials.{six_none, six_smallest}
use Rattle.request.specs.Text.{number_text}
use Rattle.request.specs.Reading.{reading}
use Rattle.request.specs.Answer.{AnswerTo}
use Rattle.request.proofs.Quoted.{bytes, all_at}

abbrev pub answered : List (String × String)
answered =
    -- document 01's example
    ("4 1 3 10\n0\n1\n2\n", "4 1\n0 1\n1 1\n2 2\n")
    -- document 02, a: no rows
    ∷ ("2 2 0 10\n", "1 0 0\n")
    -- nothing admissible; a plan 0, which prints no map
    ∷ ("0 1 1 3\n6\n", "refused 9\n")
    ∷ ("0 1 1 4\n6\n", "4 1\n")
    -- 4 before 5 and 6, 5 before 6, 6
    ∷ ("2 1 2 0\n-1\n-1\n", "refused 4\n")
    ∷ ("1 1 2 0\n-1\n-1\n", "refused 5\n")
    ∷ ("1 1 1 0\n-1\n", "refused 6\n")
    -- a refusal of the reading
    ∷ ("4 1 3\n", "refused 12\n")
    ∷ []

-- the rows (0), (1), (2)
abbrev three_rows : List (List ℤ)
three_rows = (pos 0 ∷ []) ∷ (pos 1 ∷ []) ∷ (pos 2 ∷ []) ∷ []

ticket_smallest : Smallest (Admissible 4 three_rows) 1 10 4 (1 ∷ [])
unfolding admissible
ticket_smallest = smallest_holds (plan_tested 4 three_rows) 1 4 (1 ∷ []) tt 10 (omega arith)

-- every entry of the table
pub answers : (e : String × String) → Memᴰ e answered → AnswerTo (bytes e.0) (bytes e.1)
unfolding AnswerTo reading number_text
answers =
    all_at (λ e. AnswerTo (bytes e.0) (bytes e.1)) answered
    (inl (record { modulus = 4; vector = 1 ∷ []; smallest = ticket_smallest; text = refl }), (inl (record { modulus = 1; vector = 0 ∷ 0 ∷ []; smallest = no_rows_smallest 2 2 (omega arith) 10 (omega arith); text = refl }), (inr (six_none, refl), (inl (record { modulus = 4; vector = 1 ∷ []; smallest = six_smallest 4 (omega arith); text = refl }), (refl, (refl, (refl, (refl, tt))))))))
