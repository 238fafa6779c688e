-- `rounds::lower`: the vector found last is first below some bound, and the work serves the next round (Lowering). Measure: its largest
-- component, which falls (lower_less). A round that finds nothing ends them at the gentlest vector (lower_ends).
use mathlib.Core.Path.{refl, sym, ap, ◌∙◌, subst}
use lib.ListN.{length, get_or}
use Rattle.rank1.specs.Search.{Gentlest}
use Rattle.planner.specs.Stage.{rule_of}
use Rattle.planner.proofs.rounds.RoundLaws.{Round, blank-kept, round_stage, lower_more, lower_less, lower_ends}
use Rattle.planner.proofs.rounds.lower.Goals as goal
use Rattle.planner.proofs.rounds.lower.Goals.{After-below-round}

-- the round that is run
round_of : (m : After-below-round) → Round m.args.s.now m.below-round.result m.loop.z m.loop.work
round_of m = record {
  bound = m.largest_of.result;
  start = get_or m.loop.z 0 0;
  is = m.below-round.ensures;
  top = m.largest_of.ensures;
  first = refl;
  tabled = m.requires.tabled;
  last = m.loop.invariant.0;
}

pub complete-requires : goal.complete-requires
complete-requires c =
    let a = c.args in
    let l = c.loop in
    round_stage a.s.now c.below-round.result l.z l.work (round_of (goal.at.complete-requires c).After-below-round) c.requires.modulus c.requires.solutions

pub returns-then-not-complete : goal.returns-then-not-complete
returns-then-not-complete c =
    let a = c.args in
    let l = c.loop in
    let done = c.complete in
    record {
      gentlest = subst (Gentlest (rule_of a.s.now.task.rows) a.s.now.task.rows.d a.s.now.n) (sym c.copy_from_slice.ensures.after)
          (lower_ends a.s.now c.below-round.result l.z l.work (round_of (goal.at.returns-then-not-complete c).After-below-round)
          done.new.z done.new.work done.result done.ensures.completed c.if-not-complete.true);
      blank = blank-kept l.z l.work done.new.z done.new.work done.ensures.kept_before l.invariant.0.blank;
    }

pub loop-smaller : goal.loop-smaller
loop-smaller c =
    let a = c.args in
    let l = c.loop in
    let done = c.complete in
    lower_less a.s.now c.below-round.result l.z l.work (round_of (goal.at.loop-smaller c).After-below-round)
    done.new.z done.new.work done.result done.ensures.completed c.if-not-complete.false

pub loop-preserved : goal.loop-preserved
loop-preserved c =
    let a = c.args in
    let l = c.loop in
    let done = c.complete in (
      lower_more a.s.now c.below-round.result l.z l.work (round_of (goal.at.loop-preserved c).After-below-round)
          done.new.z done.new.work done.result done.ensures.completed c.if-not-complete.false
          (blank-kept l.z l.work done.new.z done.new.work done.ensures.kept_before l.invariant.0.blank),
      ap length c.copy_from_slice.ensures.after ∙ l.invariant.0.first.ranged.size,
    )
