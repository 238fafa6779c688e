-- `flips::negate`: when all components have the other sign, the row is the negative.
use mathlib.Core.Path.{sym, ◌∙◌}
use native.Mathlib.Omega.{arith}
use lib.IntN.{pos, neg_ℤ}
use lib.ListN.{length-map}
use lib.Seq.{ext_get_or}
use Rattle.rank1.specs.Differences.{negative}
use Rattle.planner.proofs.flips.UprightLaws.{negative_at}
use Rattle.planner.proofs.flips.negate.Goals as goal

pub returns : goal.returns
returns c =
    let h = c.args.h.now in
    let l = c.loop-x in
    ext_get_or (pos 0) l.h (negative h) (l.auto.h ∙ sym (length-map h neg_ℤ)) (λ k m. l.invariant.0 k (omega arith) ∙ sym (negative_at h k))
