-- `Cutting::write_line`: the components before j are those of the line.
use Rattle.std.proofs.Common.{◌≡◌, ℕ, ◌<◌, length, get_or}
use Rattle.rank1.specs.Named.{plan_number}
use Rattle.rank1.specs.Points.{point_line}
use Rattle.planner.proofs.points.Cutting.write_line.Given as goal

abbrev pub invariant-loop-j : goal.invariant-loop-j
invariant-loop-j l =
    let cut = l.self in
    (length l.line ≡ length cut.z.now)
    × ((k : ℕ) → k < l.j → get_or l.line k 0 ≡ get_or (point_line (plan_number cut.plan) cut.n cut.z.now l.i) k 0)
