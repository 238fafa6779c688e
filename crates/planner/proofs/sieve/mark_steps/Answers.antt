-- `sieve::mark_steps`: w is a number of steps behind v, and so is each mark.
use Rattle.planner.proofs.sieve.SieveLaws.{marking_more}
use Rattle.planner.proofs.sieve.SolutionLaws.{steps-more}
use Rattle.planner.proofs.sieve.mark_steps.Goals as goal

pub loop-w-preserved : goal.loop-w-preserved
loop-w-preserved c =
    let l = c.loop-w in
    let a = c.args in
    rw (c.from-w-step.ensures, c.from.ensures)
    (steps-more a.v a.step l.w l.invariant.0, marking_more a.v a.step a.struck.now l.struck l.w l.invariant.0 l.invariant.1)
