-- `levels::copy`: places with the row's numbers at each place are the row.
use Rattle.std.proofs.Common.{arith, pos}
use lib.Seq.{ext_get_or}
use Rattle.planner.proofs.levels.copy.Goals as goal

pub returns : goal.returns
returns c =
    let v = c.loop-j.invariant in
    ext_get_or (pos 0) c.loop-j.places c.args.row.now v.0 (λ i h. v.1 i (omega (arith, v.0)))
