-- `Lattice::write_sums` meets its contract. The invariant: the sums are those of the rows passed, whose terms have 32 bits. So 512
-- rows of at most 64 residues stay in 64 bits (`addable`).
use lib.ListN.{length}
use Rattle.planner.proofs.sums.SumSteps.{SpreadTo}
use Rattle.planner.proofs.lattice.Lattice.write_sums.Given as goal

abbrev pub invariant-loop-row : goal.invariant-loop-row
invariant-loop-row l = SpreadTo l.self l.terms l.sums (length l.yielded)
