-- `sieve::Prefix::strike_runs`: from no mark at all, each run's marks are forbidden (`barred_more`). Measure: the places left, for each turn
-- goes on (`next_run`).
use Prim.Native.Nat.{◌+◌, ◌-◌, ◌*◌, ◌≤◌}
use Rattle.planner.specs.Sizes.{room}
use Rattle.planner.specs.Sieve.{Barred}
use Rattle.planner.proofs.sieve.Prefix.strike_runs.Given as goal

abbrev pub invariant-loop-at : goal.invariant-loop-at
invariant-loop-at l =
    (l.end ≤ l.self.before * room + room) × Barred l.self l.initial.struck l.struck

abbrev pub decreases-loop-at : goal.decreases-loop-at
decreases-loop-at l = l.end - l.at
