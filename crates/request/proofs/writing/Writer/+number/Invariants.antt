-- `Writer::number` calls itself at x / 10, so x is the measure.
use Rattle.request.proofs.writing.Writer.+number.Given as goal

abbrev pub decreases-number : goal.decreases-number
decreases-number l = l.x
