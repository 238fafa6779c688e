-- `sieve::sieve_first`: from no mark at all, each run's marks are forbidden (`FirstBarred`).
use Rattle.planner.specs.Sieve.{FirstBarred}
use Rattle.planner.proofs.sieve.sieve_first.Given as goal

abbrev pub invariant-loop-t : goal.invariant-loop-t
invariant-loop-t l =
    FirstBarred l.n l.bounds l.initial.marks l.marks
