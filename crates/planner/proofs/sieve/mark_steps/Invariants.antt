-- `sieve::mark_steps`: w is a number of steps behind v, and so is each mark.
use Prim.Native.Nat.{◌-◌}
use Rattle.planner.specs.Sieve.{Steps, Marking}
use Rattle.planner.proofs.sieve.mark_steps.Given as goal

abbrev pub invariant-loop-w : goal.invariant-loop-w
invariant-loop-w l = Steps l.v l.step l.w × Marking l.v l.step l.initial.struck l.struck

abbrev pub decreases-loop-w : goal.decreases-loop-w
decreases-loop-w l = l.n - l.w
