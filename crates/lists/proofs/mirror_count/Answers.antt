-- `lists::mirror_count`: at most a bit for each axis is set, so the shift is exact, and it is the number of mirrors (`mirrors-length`).
use mathlib.Core.Path.{sym, ◌∙◌, ap}
use Prim.Native.Nat.{ℕ, ◌^◌, ◌≤◌}
use native.Mathlib.Nat.{one-mul}
use native.Mathlib.Omega.{arith}
use lib.Count.{ones, ones-le}
use lib.Dec.{lit<}
use lib.Pow.{shl_exact}
use Rattle.rank1.proofs.MirrorLaws.{mirrors-length}
use Rattle.lists.specs.Rows.{most_axes, on_axes}
use Rattle.lists.proofs.mirror_count.Goals as goal
use Rattle.lists.proofs.mirror_count.Goals.{After-nonzero_mask}

-- the mask has at most a bit for each axis
few : (c : After-nonzero_mask) → ones c.nonzero_mask.result ≤ most_axes
few c = ones-le most_axes c.nonzero_mask.result c.nonzero_mask.ensures.1

pub overflow_cast-result : goal.overflow_cast-result
overflow_cast-result c = omega (arith, few c)

pub overflow_shl-result : goal.overflow_shl-result
overflow_shl-result c = omega (arith, few c)

pub returns : goal.returns
returns c =
    let k = ones c.nonzero_mask.result in
    shl_exact 1 k 64 (lit< tt) (omega (arith, few c))
    ∙ one-mul (2 ^ k)
    ∙ ap (λ (x : ℕ). 2 ^ x) c.nonzero_mask.ensures.0
    ∙ sym (mirrors-length (on_axes c.args.row.now))
