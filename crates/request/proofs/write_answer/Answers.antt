-- `request::write_answer` meets its contract: a refusal of the text (refused_answer), or the answer to the request (request_answered).
use mathlib.Core.Path.{◌≡◌, sym, ap, ◌∙◌, subst}
use mathlib.Core.List.{List, ◌++◌}
use Prim.Native.Nat.{ℕ}
use Rattle.rank1.specs.Named.{number}
use Rattle.request.specs.Answer.{AnswerTo, refusal_text}
use Rattle.request.proofs.AnswerLaws.{refused_answer}
use Rattle.request.proofs.CallerLaws.{request_answered}
use Rattle.request.proofs.write_answer.Goals as goal

pub returns-in-Ok : goal.returns-in-Ok
returns-in-Ok c = request_answered c.args.text.now c.answer_request.new.writer c.in-Ok.asked c.in-Ok.ensures c.answer_request.ensures

pub returns-in-Err : goal.returns-in-Err
returns-in-Err c =
    let text : refusal_text (number c.in-Err.refusal) ≡ c.refusal.new.self =
    ap (λ (s : List ℕ). s ++ refusal_text (number c.in-Err.refusal)) (sym c.requires) ∙ sym c.refusal.ensures in
    subst (AnswerTo c.args.text.now) text (refused_answer c.args.text.now (number c.in-Err.refusal) c.in-Err.ensures)
