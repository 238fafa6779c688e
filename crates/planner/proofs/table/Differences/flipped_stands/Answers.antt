-- `Differences::flipped_stands`: with the other sign at an axis a row has no larger components.
use mathlib.Core.Path.{sym, subst}
use Rattle.planner.specs.Sizes.{largest_size}
use Rattle.planner.specs.Inner.{Covered}
use Rattle.planner.proofs.flips.ClosedLaws.{covered_flip}
use Rattle.planner.proofs.table.Differences.flipped_stands.Goals as goal

pub set_upright-requires : goal.set_upright-requires
set_upright-requires c = subst (Covered largest_size) (sym c.flip_row.ensures) (covered_flip largest_size c.args.j c.args.row.now c.requires.0.small)
