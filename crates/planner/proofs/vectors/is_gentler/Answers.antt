-- `vectors::is_gentler`: by the largest components where they differ (`by_largest`), else by dictionary order (`by_dictionary`).
use Rattle.planner.proofs.vectors.LargestLaws.{by_largest, by_dictionary}
use Rattle.planner.proofs.vectors.is_gentler.Goals as goal

pub returns-then-a-b : goal.returns-then-a-b
returns-then-a-b c =
    by_largest c.args.y.now c.args.z.now c.largest_of-a.result c.largest_of-b.result c.requires c.largest_of-a.ensures c.largest_of-b.ensures
    c.if-a-b.true

pub returns : goal.returns
returns c =
    by_dictionary c.args.y.now c.args.z.now c.largest_of-a.result c.largest_of-b.result c.largest_of-a.ensures c.largest_of-b.ensures
    c.if-a-b.false c.comes_before.result c.comes_before.ensures
