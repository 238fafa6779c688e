-- `Writer::number` meets its contract: the text of x is that of x / 10 and its last digit (wrote_last).
use native.Mathlib.Omega.{arith}
use Rattle.request.proofs.writing.WroteLaws.{wrote_digit, wrote_last, wrote_short, wrote_shorter}
use Rattle.request.proofs.writing.Writer.+number.Goals as goal

pub returns-then-x-lt10 : goal.returns-then-x-lt10
returns-then-x-lt10 t c =
    let text = wrote_digit c.args.x c.args.self.now c.byte.new.self c.if-x-lt10.true c.byte.ensures in
    record { text = text; short = wrote_short c.args.x c.args.self.now c.byte.new.self (omega arith) text }

-- there is room for the last digit
pub byte-requires-2 : goal.byte-requires-2
byte-requires-2 t c = omega (arith, wrote_shorter c.args.x c.args.self.now c.number.new.self (omega arith) c.number.ensures.text, c.requires)

pub returns : goal.returns
returns t c =
    let text = wrote_last c.args.x c.args.self.now c.number.new.self c.byte-2.new.self c.if-x-lt10.false c.number.ensures.text c.byte-2.ensures in
    record { text = text; short = wrote_short c.args.x c.args.self.now c.byte-2.new.self (omega arith) text }
