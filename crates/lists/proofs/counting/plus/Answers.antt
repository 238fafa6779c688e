-- `counting::plus` meets its contract (more_is).
use Rattle.rank1.specs.Named.{plan_number}
use Rattle.lists.proofs.RecountLaws.{more_is}
use Rattle.lists.proofs.counting.plus.Goals as goal

pub returns : goal.returns
returns c =
    more_is (plan_number c.args.plan) c.args.tally c.args.row.now c.members_of.result c.nonzero_mask.result c.requires.short
    c.members_of.ensures.0 c.nonzero_mask.ensures.0
