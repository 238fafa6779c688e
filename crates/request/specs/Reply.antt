-- What the public calls leave in the lent places.
use Rattle.std.specs.Prelude.{◌≡◌, List, ◌++◌, ℕ, ◌≤◌, ◌<◌, length, drop, Option, Some, None}
use Rattle.request.specs.Answer.{AnswerTo}

-- a text that answers stands at the front, `size` bytes long, and the rest is as it was
pub record Stands (Is : List ℕ → Type 0) (before after : List ℕ) (size : ℕ) : Type 0 where
  pub answer : List ℕ
  pub answers : Is answer
  pub is_size : size ≡ length answer
  pub room : size ≤ length before
  pub is : after ≡ answer ++ drop size before

-- the answer's text stands at the front, and its size is told; or there is not room for it, and nothing is written. An answer has at
-- most 8192 bytes, so with that room it is always written.
abbrev pub AnsweredWith : List ℕ → List ℕ → List ℕ → Option ℕ → Type 0
AnsweredWith text before after (Some size) = Stands (AnswerTo text) before after size
AnsweredWith text before after None =
    (answer : List ℕ) × AnswerTo text answer × (length before < length answer) × (length answer ≤ 8192) × (after ≡ before)
