-- `lattice::Lattice::mirror_residues`: the residues of the mirrors that differ from the row from axis j on stand at the front
-- (`Doubling`).
use Rattle.planner.proofs.mirrors.MirrorResidues.{Doubling}
use Rattle.planner.proofs.lattice.Lattice.mirror_residues.Given as goal

abbrev pub invariant-loop-j : goal.invariant-loop-j
invariant-loop-j l = Doubling l.self.n l.self.z.now l.row l.out l.count l.j
