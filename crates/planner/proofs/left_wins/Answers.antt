-- `left_wins`: by the lengths where they differ (by_length), else by the order (by_order).
use native.Mathlib.Omega.{arith}
use Rattle.rank1.proofs.WinnerLaws.{by_length, by_order}
use Rattle.planner.proofs.left_wins.Goals as goal

pub returns-then-left-right : goal.returns-then-left-right
returns-then-left-right c =
    by_length c.args.left.now c.args.right.now c.if-left-right.true

pub returns : goal.returns
returns c =
    by_order c.args.left.now c.args.right.now (omega arith) c.is_gentler.result c.is_gentler.ensures
