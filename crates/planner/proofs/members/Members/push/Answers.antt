-- `members::Members::push`: the row that is copied comes behind the others (`pushed-row`).
use mathlib.Core.Path.{◌≡◌, refl}
use Prim.Native.Nat.{◌*◌}
use native.Mathlib.Omega.{arith}
use Rattle.std.proofs.lemmas.Slice.{put_mid-paste}
use lib.ListN.{length}
use lib.Seq.{get_or-set_same, get_or-set_other}
use Rattle.planner.specs.Sizes.{axes, most_members}
use Rattle.planner.proofs.members.MemberLaws.{pushed-row}
use Rattle.planner.proofs.members.Members.push.Goals as goal

pub returns : goal.returns
returns c =
    let m = c.args.self.now in
    let long : length m.rows ≡ most_members * axes = omega arith in
    record {
      rows = pushed-row c.args.row.now _ m c.requires.0 long c.requires.1 (put_mid-paste _ _ m.rows _ c.args.row.now (length c.args.row.now) c.copy_from_slice.ensures.after (omega arith) refl);
      kept = λ e l. get_or-set_other m.owners m.count e c.args.owner 0 (λ q. omega arith);
      owned = get_or-set_same m.owners m.count c.args.owner 0 (omega arith);
      count = refl;
      whole = refl;
    }
