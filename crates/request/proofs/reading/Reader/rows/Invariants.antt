-- `Reader::rows` meets its contract. The invariant: i rows are read and written, the rest is left (RowsSoFar).
use Rattle.request.proofs.reading.RowLaws.{RowsSoFar}
use Rattle.request.proofs.reading.Reader.rows.Given as goal

abbrev pub invariant-loop-i : goal.invariant-loop-i
invariant-loop-i l = RowsSoFar l.initial.self l.d l.m l.places l.i l.self
