-- `vectors::comes_before`: what is left of the two vectors comes in the order of the whole ones, so the first components that differ decide
-- (`less_decides`, `more_decides`); equal ones are passed (`same_passed`), and of nothing none comes before (`ended`).
use Rattle.std.proofs.Common.{rules}
use Rattle.std.proofs.lemmas.Iterator.{empty_from_Zip}
use Rattle.planner.proofs.vectors.LargestLaws.{whole_order, less_decides, more_decides, same_passed, ended}
use Rattle.planner.proofs.vectors.comes_before.Goals as goal

pub loop-a-init : goal.loop-a-init
loop-a-init c = whole_order c.args.y.now c.args.z.now _ _ (search rules) (search rules) c.requires

pub returns-then-a-b : goal.returns-then-a-b
returns-then-a-b c =
    less_decides c.args.y.now c.args.z.now _ _ c.in-Some.a.now c.in-Some.b.now _ _ c.in-Some.ensures.steps.0 c.in-Some.ensures.steps.1 c.loop-a.invariant c.if-a-b.true

pub returns-then-b-a : goal.returns-then-b-a
returns-then-b-a c =
    more_decides c.args.y.now c.args.z.now _ _ c.in-Some.a.now c.in-Some.b.now _ _ c.in-Some.ensures.steps.0 c.in-Some.ensures.steps.1 c.loop-a.invariant c.if-b-a.true

pub loop-a-preserved : goal.loop-a-preserved
loop-a-preserved c =
    same_passed c.args.y.now c.args.z.now _ _ c.in-Some.a.now c.in-Some.b.now _ _ c.in-Some.ensures.steps.0 c.in-Some.ensures.steps.1 c.loop-a.invariant c.if-a-b.false c.if-b-a.false

pub returns : goal.returns
returns c =
    let empty = empty_from_Zip c.loop-a.a-iterator c.next.new.self c.next.result c.in-None.is c.next.ensures.steps c.loop-a.invariant.size in
    ended c.args.y.now c.args.z.now _ _ empty.0 c.loop-a.invariant
