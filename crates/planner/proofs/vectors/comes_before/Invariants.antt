-- `vectors::comes_before`: what is left of the two vectors comes in the order of the whole ones (`SameOrder`).
use Rattle.planner.proofs.vectors.LargestLaws.{SameOrder}
use Rattle.planner.proofs.vectors.comes_before.Given as goal

abbrev pub invariant-loop-a : goal.invariant-loop-a
invariant-loop-a l = SameOrder l.y l.z l.a-iterator.a.rest.now l.a-iterator.b.rest.now
