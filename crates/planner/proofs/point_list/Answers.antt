-- `point_list` meets its contract: where nothing is refused the pair is valid and has the places of its list (`point_clear`), and what is
-- written there is the answer (`given`).
use mathlib.Core.Path.{refl, sym}
use native.Mathlib.Omega.{arith}
use lib.ListN.{length}
use Rattle.planner.proofs.CallLaws.{given}
use Rattle.planner.proofs.refusals.HandedLaws.{PointsHanded, point_clear}
use Rattle.planner.proofs.point_list.Goals as goal
use Rattle.planner.proofs.point_list.Goals.{In_ok-plan}

handed : (c : In_ok-plan) → let a = c.args in PointsHanded a.plan a.d a.n a.z.now (length a.out.now)
handed c =
    let a = c.args in
    point_clear a.plan a.d a.n a.z.now (length a.out.now) (sym c.in_ok-plan.ensures.number)

pub invariant_of-write : goal.invariant_of-write
invariant_of-write c =
    let h = handed (goal.at.invariant_of-write c).In_ok-plan in
    record { modulus = h.modulus; few_axes = omega (arith, h.few_axes, h.vector.size); below = rw h.vector.size h.vector.below }

pub write-requires : goal.write-requires
write-requires c =
    let h = handed (goal.at.write-requires c).In_ok-plan in
    rw h.vector.size (rw c.in_ok-plan.ensures.named h.room)

pub returns : goal.returns
returns c = let told = c.in_ok-plan.ensures in given told.number refl (rw told.named at c.write.ensures)
