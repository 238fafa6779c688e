-- The program on a ticket without terms (document 02, a): for every plan, number of axes and ceiling in range the answer to line 1
-- alone is the line `1 0 .. 0` alone (no_terms_answer). With anything behind line 1 it is 12: RequestForm's `behind_refused`.
use mathlib.Core.Path.{◌≡◌, refl, sym, subst}
use mathlib.Core.List.Memᴰ
use mathlib.Core.List.{List, [], ◌∷◌, ◌++◌, append-nil, flatten}
use Prim.Native.Nat.{ℕ, zero, suc, ◌≤◌}
use native.Mathlib.Omega.{arith}
use lib.IntN.{ℤ}
use Rattle.rank1.specs.Index.{index_list}
use Rattle.rank1.specs.Rule.{Admissible}
use Rattle.rank1.specs.Search.{Smallest}
use Rattle.rank1.specs.Refusal.{bad_component, equal_rows, bad_modulus}
use Rattle.rank1.proofs.NoRows.{no_rows, no_rows_valid, zero_vector, no_rows_smallest}
use Rattle.rank1.proofs.RefusalLaws.{first_of_none}
use Rattle.rank1.proofs.ValidLaws.{list-rows, modulus_clear, rows_clear}
use Rattle.request.specs.Text.{number_text}
use Rattle.request.specs.Reading.{Reading}
use Rattle.request.specs.Printing.{request_text, Writable}
use Rattle.request.specs.Answer.{vector_text, plan_text, request_refusal, Answers, AnswerTo}
use Rattle.request.proofs.AnswerLaws.{answer_determined}
use Rattle.request.proofs.RequestForm.{written_reads}
use Rattle.request.proofs.SearchedLaws.{plan_answers}

-- a plan for no rows prints no map
line_alone : (plan : ℕ) (z : List ℕ) → number_text 1 ++ vector_text z ≡ plan_text plan 1 z []
line_alone zero z = refl
line_alone (suc p) z = sym (append-nil (number_text 1 ++ vector_text z))

module _ (plan d ceiling : ℕ) (plans : plan ≤ 4) (axes : (1 ≤ d) × (d ≤ 6)) (bounds : (1 ≤ ceiling) × (ceiling ≤ 8192)) where
  writable : Writable plan d ceiling []
  writable = record { plans = plans; axes = axes; count = omega arith; rows = λ k m. absurd (Memᴰ.not-nil m); bound = omega (arith, bounds.1) }

  -- neither 4 nor 5 nor 6 applies
  none : request_refusal plan d ceiling [] ≡ 0
  none =
      (first_of_none (bad_component plan []) (equal_rows d [] ∷ bad_modulus ceiling ∷ [])).1 (
        refl,
        (first_of_none (equal_rows d []) (bad_modulus ceiling ∷ [])).1 (
          (rows_clear d []).1 (list-rows plan d [] (no_rows_valid plan d axes.0 axes.1)),
          (first_of_none (bad_modulus ceiling) []).1 ((modulus_clear ceiling).1 bounds, refl),
        ),
      )

  answered : AnswerTo (request_text plan d ceiling []) (number_text 1 ++ vector_text (zero_vector d))
  unfolding AnswerTo flatten
  answered =
      let line = number_text 1 ++ vector_text (zero_vector d) in
      subst (λ (r : Reading). Answers r line) (sym (written_reads plan d ceiling [] writable))
      (plan_answers plan d ceiling (index_list d []) (zero_vector d) (request_refusal plan d ceiling []) 1 line none
      (subst (λ (ks : List (List ℤ)). Smallest (Admissible plan ks) d ceiling 1 (zero_vector d)) (sym (no_rows d)) (no_rows_smallest plan d plans ceiling bounds.0))
      (subst (λ (ks : List (List ℤ)). line ≡ plan_text plan 1 (zero_vector d) ks) (sym (no_rows d)) (line_alone plan (zero_vector d))))

  -- one answer follows from a text, so whatever the program prints is that line
  pub no_terms_answer : (answer : List ℕ) → AnswerTo (request_text plan d ceiling []) answer → answer ≡ number_text 1 ++ vector_text (zero_vector d)
  no_terms_answer answer told = answer_determined (request_text plan d ceiling []) answer (number_text 1 ++ vector_text (zero_vector d)) told answered
