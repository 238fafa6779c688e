-- `sieve::set_modulus`: from no table at all, the tables set so far are right (`TablesTo`).
use Rattle.planner.specs.Sieve.{TablesTo}
use Rattle.planner.proofs.sieve.set_modulus.Given as goal

abbrev pub invariant-loop-t : goal.invariant-loop-t
invariant-loop-t l = TablesTo l.n l.at l.modulus
