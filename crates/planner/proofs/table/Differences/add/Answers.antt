-- `table::Differences::add`: where the row is not there and there is room for it, it joins the table (`rows-joined`).
use mathlib.Core.Path.{◌≡◌, refl, sym}
use Prim.Native.Nat.{◌*◌}
use native.Mathlib.Omega.{arith}
use Rattle.std.proofs.lemmas.Slice.{put_mid-paste}
use lib.ListN.{length}
use Rattle.planner.specs.Sizes.{axes, room}
use Rattle.planner.specs.Table.{joined}
use Rattle.planner.proofs.table.TableLaws.{rows-joined}
use Rattle.planner.proofs.table.Differences.add.Goals as goal

pub returns : goal.returns
returns c =
    let t = c.args.self.now in
    let h = c.args.h.now in
    let long : length t.rows ≡ room * axes = omega arith in
    joined refl (rows-joined t long h _ c.requires.size c.if-self-eq-ROOM.false (put_mid-paste _ _ t.rows _ h t.d c.copy_from_slice.ensures.after (omega arith) (sym c.requires.size))) refl
