-- `members::Members::push_flipped`: what comes behind is member i, flipped (`flip-is`).
use mathlib.Core.Path.{◌∙◌}
use native.Mathlib.Omega.{arith}
use lib.Seq.{length-take-le}
use Rattle.rank1.specs.Index.{zero_row}
use Rattle.planner.specs.Sizes.{axes}
use Rattle.planner.proofs.members.MemberLaws.{member_covered, flip-is, pushed-as}
use Rattle.planner.proofs.members.Members.push_flipped.Goals as goal

pub flip_row-requires : goal.flip_row-requires
flip_row-requires c =
    let a = c.args in
    let row = c.row_at in
    let size = length-take-le a.d (zero_row axes) c.requires.within.0 in (
      omega (arith, size, row.ensures.1),
      member_covered a.d a.i a.self.now row.result.now c.requires.within.2 row.ensures.0 c.requires.small_row,
      omega (arith, size),
    )

pub returns : goal.returns
returns c =
    let a = c.args in
    let row = c.row_at in
    let h = c.flip_row.new.h in
    pushed-as a.d a.owner h _ a.self.now c.push.new.self
    (flip-is a.d a.i a.axis a.self.now row.result.now h c.requires.within.2 row.ensures.0 c.flip_row.ensures)
    (c.flip_row.auto.h ∙ length-take-le a.d (zero_row axes) c.requires.within.0) c.push.ensures
