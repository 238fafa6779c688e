-- `Reader::row` meets its contract. The invariant: j fields are read and written, the rest of the line is left (RowSoFar).
use Rattle.request.proofs.reading.RowLaws.{RowSoFar}
use Rattle.request.proofs.reading.Reader.row.Given as goal

abbrev pub invariant-loop-j : goal.invariant-loop-j
invariant-loop-j l = RowSoFar l.fn.self l.d l.places l.j l.self
