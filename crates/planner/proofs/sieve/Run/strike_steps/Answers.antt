-- `sieve::Run::strike_steps`: the marks of a turn are solutions of a difference of the run (`struck_turn`).
use Rattle.std.proofs.Common.{rules, refl}
use Rattle.planner.proofs.sieve.SieveLaws.{struck_turn}
use Rattle.planner.proofs.sieve.Run.strike_steps.Goals as goal

pub loop-sum-preserved : goal.loop-sum-preserved
loop-sum-preserved c =
    struck_turn c.args.self.now _ _ _ c.next.new.self (c.in-Some.sum, c.in-Some.x) c.loop-sum.yielded_by c.in-Some.ensures.steps (search rules) c.requires
    c.part_of-c.ensures c.from.ensures refl c.mark_steps.ensures c.loop-sum.invariant
