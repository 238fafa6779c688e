-- What the two public calls leave in the lent places: the answer is their front, for callers; and from a text and the places one
-- answer and one content of them follow (by answer_determined); with 8192 places it is always written.
use mathlib.Core.Path.{◌≡◌, refl, sym, ◌∙◌, ap}
use mathlib.Core.List.{List, ◌++◌}
use Prim.Native.Nat.{ℕ, ◌≤◌}
use native.Mathlib.Omega.{arith}
use lib.ListN.{length, take, drop}
use lib.Seq.{take_at}
use Rattle.std.proofs.Common.{Option, Some, None}
use Rattle.request.specs.Answer.{AnswerTo}
use Rattle.request.specs.Reply.{Stands, AnsweredWith}
use Rattle.request.proofs.AnswerLaws.{answer_determined}

-- ---- an answer that stands at the front
module _ {Is : List ℕ → Type 0} {before after : List ℕ} {size : ℕ} (s : Stands Is before after size) where
  pub stands_front : take size after ≡ s.answer
  stands_front = ap (take size) s.is ∙ take_at s.answer (drop size before) size (sym s.is_size)

-- ---- one outcome
-- one text and one lent place: the same size and the same bytes (answer_whole)
pub whole_determined : (text before after after' : List ℕ) (n n' : ℕ) → Stands (AnswerTo text) before after n → Stands (AnswerTo text) before after' n' → (n ≡ n') × (after ≡ after')
whole_determined text before after after' n n' p q =
    let same = answer_determined text p.answer q.answer p.answers q.answers in
    let size : n ≡ n' = p.is_size ∙ ap length same ∙ sym q.is_size in
    (size, p.is ∙ ap (λ (a : List ℕ). a ++ drop n before) same ∙ ap (λ (k : ℕ). q.answer ++ drop k before) size ∙ sym q.is)

-- the same reply and the same bytes (answer)
pub reply_determined : (text before after after' : List ℕ) (r r' : Option ℕ) → AnsweredWith text before after r → AnsweredWith text before after' r' → (r ≡ r') × (after ≡ after')
reply_determined text before after after' (Some n) (Some n') p q =
    let same = whole_determined text before after after' n n' p q in
    (ap Some same.0, same.1)
reply_determined text before after after' (Some n) None p q =
    absurd (omega (arith, p.is_size, p.room, q.2, ap length (answer_determined text p.answer q.0 p.answers q.1)))
reply_determined text before after after' None (Some n) p q =
    absurd (omega (arith, p.2, q.is_size, q.room, ap length (answer_determined text p.0 q.answer p.1 q.answers)))
reply_determined text before after after' None None p q = (refl, p.4 ∙ sym q.4)

-- with room for every answer it is always written
pub always_written : (text before after : List ℕ) → 8192 ≤ length before → AnsweredWith text before after None → ⊥
always_written text before after l p = omega (arith, p.2, p.3)
