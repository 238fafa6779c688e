-- `sieve::Run::strike_steps`: the marks of a turn are solutions of a difference of the run (`struck_turn`).
use Rattle.planner.specs.Sieve.{Struck}
use Rattle.planner.proofs.sieve.Run.strike_steps.Given as goal

abbrev pub invariant-loop-sum : goal.invariant-loop-sum
invariant-loop-sum l = Struck l.self l.initial.struck l.struck
