-- `Reader::row` meets its contract. The invariant: j fields are read and written, the rest of the line is left (RowSoFar).
use mathlib.Core.Path.{sym, ap, ◌∙◌}
use Prim.Native.Nat.{ℕ}
use native.Mathlib.Omega.{arith}
use borrow.Author.Rules.{rules}
use lib.ListN.{length}
use mir.Syntax.{w16}
use mir.Facts.{to_z-of_z}
use Rattle.request.specs.Reading.{read_signed}
use Rattle.request.specs.Inner.{before, clamped, mapped}
use Rattle.request.proofs.reading.RowLaws.{row-start, row_more, row_stop}
use Rattle.request.proofs.reading.Reader.row.Goals as goal

pub loop-j-init : goal.loop-j-init
loop-j-init c = row-start c.args.self.now (length c.args.places.now) c.args.places.now c.requires

pub returns-in_err-place : goal.returns-in_err-place
returns-in_err-place c =
    let loop = c.loop-j in
    rw c.from_residual.ensures
    (row_stop c.args.self.now (length c.args.places.now) loop.places loop.j loop.self loop.invariant (omega arith)
    (ap (λ (b : ℕ). mapped clamped (before b (read_signed loop.self))) (sym c.separator.ensures) ∙ c.in_err-place.ensures))

pub loop-j-preserved : goal.loop-j-preserved
loop-j-preserved c =
    let loop = c.loop-j in
    rw (to_z-of_z {w = w16} {z = c.in_ok-place.field-0} (search rules))
    (row_more c.args.self.now (length c.args.places.now) loop.places loop.j loop.self loop.invariant (omega arith) c.in_ok-place.field-0 c.component.new.self (omega arith)
    (ap (λ (b : ℕ). mapped clamped (before b (read_signed loop.self))) (sym c.separator.ensures) ∙ c.in_ok-place.ensures))
