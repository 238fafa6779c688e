-- `mirrors::mirror_count`: of a row with at most six components all count (on_axes_lem), and it has 1 to 64 mirrors.
use mathlib.Core.Path.{◌≡◌, ◌∙◌, ap}
use native.Mathlib.Omega.{arith}
use lib.ListN.{length}
use Rattle.rank1.specs.Index.{mirrors}
use Rattle.rank1.proofs.MirrorLaws.{mirrors_some}
use Rattle.rank1.proofs.SumLaws.{under-length}
use Rattle.lists.proofs.MaskLaws.{on_axes_lem}
use Rattle.planner.proofs.mirrors.mirror_count.Goals as goal

pub returns : goal.returns
returns c =
    let k = c.args.row.now in
    let count : c.mirror_count.result ≡ length (mirrors k) = c.mirror_count.ensures ∙ ap (λ l. length (mirrors l)) (on_axes_lem k c.requires) in
    (count, omega (arith, count, mirrors_some k), omega (arith, count, under-length 2 k c.requires))
