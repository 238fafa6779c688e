-- `flips::flip_row`: a store of the other sign in a copy of the row flips it (`flip-set`).
use mathlib.Core.Path.{◌∙◌, ap}
use lib.IntN.{ℤ, pos}
use lib.ListN.{get_or, set}
use mathlib.Core.List.{List}
use mir.Syntax.{w16}
use mir.Val.{to_z, of_z}
use lib.IntN.{◌-ℤ◌}
use Rattle.planner.proofs.flips.ClosedLaws.{other_back, flip-set}
use Rattle.planner.proofs.flips.flip_row.Goals as goal

pub returns : goal.returns
returns c =
    let row = c.args.row.now in
    let j = c.args.j in
    ap (λ (h : List ℤ). set h j (to_z w16 (of_z w16 (pos 0 -ℤ to_z w16 (of_z w16 (get_or h j (pos 0))))))) c.copy_from_slice.ensures.after
    ∙ ap (set row j) (other_back (get_or row j (pos 0)) (c.requires.1.covered j))
    ∙ flip-set j row
