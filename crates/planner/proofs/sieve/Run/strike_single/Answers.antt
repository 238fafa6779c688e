-- `sieve::Run::strike_single`: the mark of a turn is a solution of a difference of the run (`struck_turn`), or mark n.
use Rattle.std.proofs.Common.{rules}
use Rattle.planner.proofs.sieve.SieveLaws.{marked_alone, struck_turn}
use Rattle.planner.proofs.sieve.Run.strike_single.Goals as goal

pub loop-sum-preserved : goal.loop-sum-preserved
loop-sum-preserved c =
    struck_turn c.args.self.now _ _ _ c.next.new.self (c.in-Some.sum, c.in-Some.x) c.loop-sum.yielded_by c.in-Some.ensures.steps (search rules) c.requires
    c.part_of-c.ensures c.from.ensures c.from-in-loop-sum.ensures (marked_alone _ _ _) c.loop-sum.invariant
