-- `reading::value_of` meets its contract. The invariant: the value of the first digits, below 10 to their number (Valued).
use Rattle.request.proofs.reading.DigitLaws.{Valued}
use Rattle.request.proofs.reading.value_of.Given as goal

abbrev pub invariant-loop-digit : goal.invariant-loop-digit
invariant-loop-digit l = Valued l.digits l.value l.digit-index
