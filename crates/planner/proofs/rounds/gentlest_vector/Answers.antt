-- `rounds::gentlest_vector`: with nothing fixed (stage-none) what the first round finds is first below n, or n fails (round_fails); the later
-- rounds make it the gentlest (lower). The work serves the next modulus (blank-kept).
use mathlib.Core.Bool.{false≢true}
use Rattle.rank1.specs.Named.{plan_number}
use Rattle.rank1.proofs.RuleLaws.{plan_reduces}
use Rattle.planner.specs.Lists.{rows_in}
use Rattle.planner.specs.Stage.{rule_of}
use Rattle.planner.proofs.rounds.RoundLaws.{blank-kept, round_found, round_fails}
use Rattle.planner.proofs.rounds.gentlest_vector.Goals as goal

pub returns-then-not-complete-clause-decided : goal.returns-then-not-complete-clause-decided
returns-then-not-complete-clause-decided c =
    let rows = c.args.task.now.rows in
    let done = c.complete in
    record {
      found = λ e. absurd (false≢true e);
      none = λ _.
          round_fails (rule_of rows) (plan_reduces (plan_number rows.plan) (rows_in rows)) rows.d c.args.n _ done.new.z done.result c.requires.valid_modulus.0.low
          done.ensures.completed c.if-not-complete.true;
    }

pub lower-requires : goal.lower-requires
lower-requires c =
    let a = c.args in
    let rows = a.task.now.rows in
    let done = c.complete in
    record {
      tabled = c.requires.tabled;
      modulus = c.requires.valid_modulus.0;
      solutions = c.set_modulus-solved.ensures;
      blank = blank-kept _ a.work.now done.new.z done.new.work done.ensures.kept_before c.requires.valid_modulus.2;
      first = round_found (rule_of rows) rows.d c.args.n c.args.n _ done.new.z done.result done.ensures.completed c.if-not-complete.false;
      place = c.requires.valid_modulus.1;
    }
