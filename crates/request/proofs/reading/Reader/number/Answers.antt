-- `Reader::number` meets its contract, by how many digits stand at the front: none, too many, a superfluous zero, or a field
-- (number_taken).
use mathlib.Core.Path.{◌≡◌, sym, ap, ◌∙◌}
use mathlib.Core.List.{List}
use Prim.Native.Nat.{ℕ, ◌≤◌, ◌<◌, min}
use lib.ListN.{length, get_or, take, drop}
use Rattle.rank1.specs.Tests.{every}
use Rattle.request.specs.Text.{is_digit, digits, decimal}
use Rattle.request.specs.Reading.{got, read_number}
use Rattle.request.proofs.reading.DigitLaws.{digits_taken, digits_front, all_digits}
use native.Mathlib.Omega.{arith}
use Rattle.request.proofs.reading.UnsignedLaws.{number_none, number-many, number-padded, number_taken}
use Rattle.request.proofs.reading.Reader.number.Goals as goal
use Rattle.request.proofs.reading.Reader.number.Goals.{After-digit_count-count, After-value_of, else-count-gt1-via-then-count-gt1+else-self-eq48, else-count-gt1-via-else-count-gt1, then-count-lt1-via-then-count-lt1, then-count-lt1-via-else-count-lt1+then-count-gt-MOST_DIGITS}

-- the digits that were counted, up to 7
counted : (c : After-digit_count-count) → c.digit_count-count.result ≡ min 7 (length (digits c.self.inside.left.now))
counted c = c.digit_count-count.ensures ∙ ap (λ (s : List ℕ). min 7 (length s)) (digits_taken c.self.inside.left.now)

-- all of them, where they are at most 6
all_counted : (c : After-digit_count-count) → c.digit_count-count.result ≤ 6 → c.digit_count-count.result ≡ length (digits c.self.inside.left.now)
all_counted c few = omega (arith, counted c, few)

pub returns-then-count-lt1 : goal.returns-then-count-lt1
returns-then-count-lt1 c = ap read_number (sym c.self.view_is) ∙ elim c.then-count-lt1.branch [
  | then-count-lt1-via-then-count-lt1 w ↦ number_none c.self.inside.left.now (omega (arith, counted (goal.at.returns-then-count-lt1 c).After-digit_count-count))
  | then-count-lt1-via-else-count-lt1+then-count-gt-MOST_DIGITS w ↦ number-many c.self.inside.left.now (omega (arith, counted (goal.at.returns-then-count-lt1 c).After-digit_count-count))
]

pub returns-then-self-eq48 : goal.returns-then-self-eq48
returns-then-self-eq48 c =
    ap read_number (sym c.self.view_is)
    ∙ number-padded c.self.inside.left.now (omega (arith, counted (goal.at.returns-then-self-eq48 c).After-digit_count-count)) c.if-self-eq48.true

-- what is taken is the digits
pub value_of-requires : goal.value_of-requires
value_of-requires c =
    let s = c.self.inside.left.now in
    let count = all_counted (goal.at.value_of-requires c).After-digit_count-count (omega arith) in
    let front : c.split_at.result.0.now ≡ digits s = c.split_at.ensures.front ∙ ap (λ (n : ℕ). take n s) count ∙ sym (digits_front s) in
    (omega (arith, c.split_at.ensures.front_len), ap (every is_digit) front ∙ all_digits s)

-- no zero stands before other digits
unpadded : (c : After-value_of) → 1 < length (digits c.self.inside.left.now) → get_or c.self.inside.left.now 0 0 ≡ 48 → ⊥
unpadded c more zero = elim c.else-count-gt1.branch [
  | else-count-gt1-via-then-count-gt1+else-self-eq48 w ↦ w.if-self-eq48.false zero
  | else-count-gt1-via-else-count-gt1 w ↦ absurd (omega (arith, ap length (digits_taken c.self.inside.left.now)))
]

pub returns : goal.returns
returns c =
    let s = c.self.inside.left.now in
    let count = all_counted (goal.at.returns c).After-digit_count-count (omega arith) in
    ap read_number (sym c.self.view_is)
    ∙ number_taken s (omega (arith, count)) (omega (arith, count)) (unpadded c)
    ∙ ap (λ (n : ℕ). got (decimal (take n s)) (drop n s)) (sym count)
    ∙ ap (λ (t : List ℕ). got (decimal t) (drop c.digit_count-count.result s)) (sym c.split_at.ensures.front)
    ∙ ap (λ (v : ℕ). got v (drop c.digit_count-count.result s)) (sym c.value_of.ensures)
    ∙ ap (got c.value_of.result) (sym c.split_at.ensures.back)
