-- `Lattice::write_terms` meets its contract. The invariant: the first terms, as many as rows have passed, are the gathered ones. Every row passes, so each
-- quotient has 32 bits.
use Rattle.std.proofs.Common.{◌≡◌, length, take}
use Rattle.planner.proofs.sums.SumSteps.{terms_of}
use Rattle.planner.proofs.lattice.Lattice.write_terms.Given as goal

abbrev pub invariant-loop-i : goal.invariant-loop-i
invariant-loop-i l = take (length l.yielded) l.terms ≡ take (length l.yielded) (terms_of l.self l.sums)
