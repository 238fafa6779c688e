-- `Cutting::write`: the first i lines stand at the front, and line i is written behind them (`points_more`).
use Rattle.std.proofs.Common.{◌≡◌, ◌++◌, ◌∙◌, ap, sym, List, ℕ, ◌+◌, ◌-◌, ◌*◌, length, take, add-one, arith}
use native.Mathlib.Nat.{suc-mul}
use Rattle.std.proofs.lemmas.Slice.{take-put_mid}
use Rattle.rank1.specs.Named.{plan_number}
use Rattle.planner.proofs.points.PointSteps.{line-length, points_more}
use Rattle.planner.proofs.points.Cutting.write.Goals as goal

pub loop-i-preserved : goal.loop-i-preserved
loop-i-preserved c =
    let i = c.loop-i.i in
    let cut = c.args.self.now in
    let plan = plan_number cut.plan in
    let z = cut.z.now in
    let d = length z in
    let out = c.loop-i.out in
    let line = c.write_line.new.line in
    let next : i * d + d ≡ (i + 1) * d = sym (ap (λ (k : ℕ). k * d) (add-one i) ∙ suc-mul i d) in
    let wrote = take-put_mid (i * d) (i * d + d - i * d) out line (i * d + d) (omega (arith, line-length plan cut.n z i)) (grind arith)
    ∙ ap (λ (t : List ℕ). take (i * d) out ++ t) c.write_line.ensures
    in
    rw (c.from.ensures, ← next) (points_more plan cut.n z out _ i (i * d) d c.loop-i.invariant wrote)
