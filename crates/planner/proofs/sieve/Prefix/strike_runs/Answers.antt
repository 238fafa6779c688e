-- `sieve::Prefix::strike_runs`: from no mark at all, each run's marks are forbidden (`barred_more`). Measure: the places left, for each turn
-- goes on (`next_run`).
use Rattle.planner.specs.Sieve.{ForbiddenBy}
use Rattle.planner.proofs.sieve.SieveLaws.{barred_more}
use Rattle.planner.proofs.sieve.Prefix.strike_runs.Goals as goal

pub loop-at-preserved : goal.loop-at-preserved
loop-at-preserved c =
    let p = c.args.self.now in
    let run = c.strike_run in (
      c.loop-at.invariant.0,
      barred_more p.n (ForbiddenBy p) c.fill.new.self c.loop-at.struck run.new.struck c.loop-at.invariant.1 run.ensures,
    )
