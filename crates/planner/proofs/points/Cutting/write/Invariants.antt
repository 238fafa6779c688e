-- `Cutting::write` meets its contract. The invariant: the first i lines stand at the front (`points_more`). There are no more of
-- them than n, which is what `write_line` asks of a line's number.
use Rattle.std.proofs.Common.{◌≡◌, ◌*◌, take}
use Rattle.rank1.specs.Named.{plan_number}
use Rattle.rank1.specs.Tests.{up_to}
use Rattle.rank1.specs.Points.{point_lines}
use Rattle.planner.proofs.points.Cutting.write.Given as goal

abbrev pub invariant-loop-i : goal.invariant-loop-i
invariant-loop-i l =
    let cut = l.self in
    take (l.i * l.d) l.out ≡ point_lines (plan_number cut.plan) cut.n cut.z.now (up_to l.i)
