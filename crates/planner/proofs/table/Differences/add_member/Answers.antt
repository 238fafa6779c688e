-- `Differences::add_member`: the member and the row are as long as the table's, with components of index rows.
use mathlib.Core.Path.{sym, subst}
use Rattle.planner.specs.Sizes.{largest_component}
use Rattle.planner.specs.Inner.{Covered}
use Rattle.planner.proofs.table.Differences.add_member.Goals as goal

pub add_ending-requires : goal.add_ending-requires
add_ending-requires c = (
  record {
    left = c.row_at.ensures.1;
    right = c.row_at-2.ensures.1;
    left_small = subst (Covered largest_component) (sym c.row_at.ensures.0) (c.requires.member.0.run c.args.e c.requires.member.1).small;
    right_small = subst (Covered largest_component) (sym c.row_at-2.ensures.0) c.requires.row.small;
  },
  c.requires.member.0.inner,
)
