-- `reading::value_of` meets its contract. The invariant: the value of the first digits, below 10 to their number (Valued).
use native.Mathlib.Omega.{arith}
use borrow.Author.Rules.{rules}
use Rattle.request.proofs.reading.DigitLaws.{valued_more}
use Rattle.request.proofs.reading.value_of.Goals as goal

pub loop-digit-preserved : goal.loop-digit-preserved
loop-digit-preserved c =
    valued_more c.args.digits.now c.loop-digit.value c.loop-digit.digit-index c.from.result c.requires.1 c.loop-digit.invariant (omega arith) (search rules)
