-- `sieve::set_sums`: the sums before e are set (`sums_more`); those that are read stand before them and are as they were.
use Rattle.planner.specs.Sieve.{SumsSet}
use Rattle.planner.proofs.sieve.set_sums.Given as goal

abbrev pub invariant-loop-e : goal.invariant-loop-e
invariant-loop-e l =
    SumsSet l.n l.at l.components l.products l.initial.sums l.from l.e l.sums
