-- `Reader::component` meets its contract: the sign is told by the minus that was taken or not (component_is), and what was read behind
-- it is a number (sign_got), which is written with its sign.
use mathlib.Core.Path.{◌≡◌, sym, ap, ◌∙◌}
use mathlib.Core.Bool.{Bool, true, true≢false}
use borrow.Author.Rules.{rules}
use lib.IntN.{ℤ}
use mir.Syntax.{w16}
use mir.Facts.{to_z-of_z}
use Rattle.request.specs.Reading.{got, read_number}
use Rattle.request.specs.Inner.{before, clamped, mapped}
use Rattle.request.proofs.reading.SignedLaws.{with_sign, component_is, sign_got}
use Rattle.request.proofs.reading.Reader.component.Goals as goal
use Rattle.request.proofs.reading.Reader.component.Goals.{After-clamp, else-negative-via-then-negative+else-value-eq0, else-negative-via-else-negative}

pub returns : goal.returns
returns c =
    let s = c.args.self.now in
    let left = c.byte.new.self in
    let behind = c.field.new.self in
    let value = c.in_ok-value.value in
    let negative = c.is_some-negative.result in
    ap (mapped clamped) (component_is c.args.b s left c.byte.result c.byte.ensures.taken c.byte.ensures.kept)
    ∙ ap (λ (t : Bool). mapped clamped (with_sign t (before c.args.b (read_number left)))) (sym c.is_some-negative.ensures)
    ∙ sign_got negative (before c.args.b (read_number left)) value behind c.in_ok-value.ensures (unsigned_zero c)
    ∙ ap (λ (x : ℤ). got x behind) (sym (to_z-of_z {w = w16} {z = c.clamp.result} (search rules) ∙ c.clamp.ensures))
  where
    unsigned_zero : (c : After-clamp) → c.is_some-negative.result ≡ true → c.in_ok-value.value ≡ 0 → ⊥
    unsigned_zero c minus zero = elim c.else-negative.branch [
      | else-negative-via-then-negative+else-value-eq0 w ↦ w.if-value-eq0.false zero
      | else-negative-via-else-negative w ↦ true≢false (sym minus ∙ w.if-negative.false)
    ]
