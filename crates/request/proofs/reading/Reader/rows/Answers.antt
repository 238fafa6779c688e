-- `Reader::rows` meets its contract. The invariant: i rows are read and written, the rest is left (RowsSoFar).
use mathlib.Core.Path.{◌≡◌, sym, ap, ◌∙◌}
use mathlib.Core.List.{map}
use Prim.Native.Nat.{ℕ, ◌+◌, ◌-◌, ◌*◌}
use native.Mathlib.Omega.{arith}
use lib.ListN.{length, take, drop}
use Rattle.request.specs.Reading.{read_line, read_signed}
use Rattle.request.specs.Inner.{clamped, mapped}
use Rattle.request.proofs.reading.RowLaws.{rows_fit, lent_row, rows_stop, rows_more, rows_end}
use Rattle.request.proofs.reading.Reader.rows.Goals as goal
use Rattle.request.proofs.reading.Reader.rows.Goals.{In-loop-i}

-- d places are lent
lent : (c : In-loop-i) → length (take (c.loop-i.i * c.args.d + c.args.d - c.loop-i.i * c.args.d) (drop (c.loop-i.i * c.args.d) c.loop-i.places)) ≡ c.args.d
lent c = lent_row c.args.d (c.loop-i.i * c.args.d) c.loop-i.places (omega (arith, rows_fit c.args.d c.args.m c.loop-i.i (omega arith)))

pub returns-in_err-row : goal.returns-in_err-row
returns-in_err-row c =
    let loop = c.loop-i in
    rw c.from_residual.ensures
    (rows_stop c.args.self.now c.args.d c.args.m loop.places loop.i loop.self loop.invariant (omega arith)
    (ap (λ (n : ℕ). read_line read_signed n loop.self) (sym (lent (goal.at.returns-in_err-row c).In-loop-i)) ∙ c.in_err-row.ensures))

pub loop-i-preserved : goal.loop-i-preserved
loop-i-preserved c =
    let loop = c.loop-i in
    rows_more c.args.self.now c.args.d c.args.m loop.places loop.i loop.self loop.invariant (omega arith) c.row.new.places (loop.i * c.args.d + c.args.d - loop.i * c.args.d) c.row.new.self
    (omega (arith, rows_fit c.args.d c.args.m loop.i (omega arith)))
    (ap (λ (n : ℕ). mapped (map clamped) (read_line read_signed n loop.self)) (sym (lent (goal.at.loop-i-preserved c).In-loop-i)) ∙ c.in_ok-row.ensures)

pub returns : goal.returns
returns c =
    rows_end c.args.self.now c.args.d c.args.m c.loop-i.places c.loop-i.i c.loop-i.self c.loop-i.invariant (omega arith) (omega arith) (omega arith)
