-- From the reading to the answer (for write_answer): what was read is a request, whose rows stand clamped, and its answer is the text's.
use mathlib.Core.Path.{sym, subst}
use mathlib.Core.List.{List, map}
use Prim.Native.Nat.{ℕ}
use lib.IntN.{ℤ}
use Rattle.rank1.specs.Named.{plan_number}
use Rattle.request.specs.declared.reading.Request.{Request}
use Rattle.request.specs.Reading.{Reading, request, reading}
use Rattle.request.specs.Answer.{Answers, AnswerTo}
use Rattle.request.specs.Inner.{clamped, clamped_ceiling, RowsRead}
use Rattle.request.proofs.ClampLaws.{clamp_answers}

-- what was read is answered
pub request_answered : (text answer : List ℕ) (asked : Request) → RowsRead (reading text) asked → Answers (request (plan_number asked.plan) asked.d asked.ceiling asked.rows.now) answer → AnswerTo text answer
unfolding AnswerTo
request_answered text answer asked read h =
    let plan = plan_number asked.plan in
    let clamped-answers : Answers (request plan asked.d (clamped_ceiling read.bound) (map clamped read.run)) answer =
    subst (λ (k : ℕ). Answers (request plan asked.d k (map clamped read.run)) answer) read.is_ceiling
    (subst (λ (xs : List ℤ). Answers (request plan asked.d asked.ceiling xs) answer) read.is_rows h) in
    subst (λ (r : Reading). Answers r answer) (sym read.asks) (clamp_answers plan asked.d read.bound read.run answer clamped-answers)
