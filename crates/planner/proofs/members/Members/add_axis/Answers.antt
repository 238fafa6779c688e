-- `members::Members::add_axis`: where the row is 0 nothing is to be done (`mirroring-zero`), else what stands there is doubled
-- (`mirroring-doubled`).
use mathlib.Core.Path.{sym, ◌∙◌, ap}
use Prim.Native.Nat.{◌-◌}
use native.Mathlib.Omega.{arith}
use lib.IntN.{pos}
use lib.ListN.{length, get_or}
use mir.Syntax.{w16}
use mir.Val.{to_z}
use Rattle.planner.proofs.products.ProductLaws.{read_back}
use Rattle.planner.proofs.members.MemberLaws.{mirror_small, stay-doubled, mirroring-zero, mirroring-doubled}
use Rattle.planner.proofs.members.Members.add_axis.Goals as goal

pub returns-then-row-axis-eq0-clause-mirroring : goal.returns-then-row-axis-eq0-clause-mirroring
returns-then-row-axis-eq0-clause-mirroring c =
    let a = c.args in
    let row = a.row.now in
    let t = c.requires.1 in
    mirroring-zero (length row) a.owner row a.axis a.from a.self.now
    (sym (read_back (get_or row a.axis (pos 0)) (omega (arith, t.small a.axis))) ∙ ap (to_z w16) c.if-row-axis-eq0.true) t

pub double-requires : goal.double-requires
double-requires c =
    let t = c.requires.1 in
    record {
      few_axes = t.few_axes;
      inside = c.requires.0;
      within = t.within;
      fits = c.if-self-from-gt-MOST_MEMBERS.false;
      small = λ s m. mirror_small c.args.row.now s t.small (t.kin s m);
    }

pub returns-clause-mirroring : goal.returns-clause-mirroring
returns-clause-mirroring c =
    let a = c.args in
    let row = a.row.now in
    mirroring-doubled (length row) a.owner row a.axis a.from a.self.now c.double.new.self c.requires.1 c.double.ensures

pub returns-clause-members_stay : goal.returns-clause-members_stay
returns-clause-members_stay c =
    let a = c.args in
    let m = a.self.now in
    stay-doubled (length a.row.now) a.from (m.count - a.from) a.axis a.owner m c.double.new.self c.requires.1.within c.double.ensures
