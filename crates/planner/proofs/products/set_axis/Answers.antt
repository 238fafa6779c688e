-- `products::set_axis`: after x turns p is the residue of x v, and the products of the numbers of size below x are set
-- (`set_more`).
use Rattle.std.proofs.Common.{◌∙◌, ◌+◌, ◌-◌, ◌*◌, arith, slice_set}
use Rattle.planner.specs.Sizes.{places, middle}
use Rattle.planner.proofs.products.ProductLaws.{Setting, set_more, set_all, next_multiple}
use Rattle.planner.proofs.products.set_axis.Goals as goal
use Rattle.planner.proofs.products.set_axis.Goals.{After-sum_of-p}

-- a turn's stores, at its end
turned : (c : After-sum_of-p) → Setting c.args.n c.args.v c.args.axis (c.loop-x.x + 1) c.args.products.now (slice_set (slice_set c.loop-x.products (c.args.axis * places + middle + c.loop-x.x) c.loop-x.p) (c.args.axis * places + middle - c.loop-x.x) c.negative.result)
turned c =
    let a = c.args in
    set_more a.n a.v a.axis c.loop-x.x c.loop-x.p c.negative.result a.products.now c.loop-x.products
    (omega arith) (omega arith) (omega arith) c.loop-x.invariant.0 c.negative.ensures.0 c.loop-x.invariant.2

pub loop-x-preserved : goal.loop-x-preserved
loop-x-preserved c =
    let a = c.args in (
      c.sum_of-p.ensures.0 ∙ next_multiple a.n a.v c.loop-x.x c.loop-x.p c.loop-x.invariant.0,
      c.sum_of-p.ensures.1,
      turned (goal.at.loop-x-preserved c).After-sum_of-p,
    )

pub returns-2 : goal.returns-2
returns-2 c =
    let a = c.args in
    set_all a.n a.v a.axis (c.loop-x.x + 1) a.top a.products.now _ (omega arith) (turned (goal.at.returns-2 c).After-sum_of-p)
