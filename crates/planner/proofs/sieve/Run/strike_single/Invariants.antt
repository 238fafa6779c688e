-- `sieve::Run::strike_single`: the mark of a turn is a solution of a difference of the run (`struck_turn`), or mark n.
use Rattle.planner.specs.Sieve.{Struck}
use Rattle.planner.proofs.sieve.Run.strike_single.Given as goal

abbrev pub invariant-loop-sum : goal.invariant-loop-sum
invariant-loop-sum l = Struck l.self l.initial.struck l.struck
