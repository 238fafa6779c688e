-- `members::Members::add_mirrors`: the row, its mirrors or nothing of it come behind the members that are there.
use mathlib.Core.Path.{refl, sym, ◌∙◌}
use lib.ListN.{length}
use Rattle.rank1.specs.Named.{plan_number}
use Rattle.planner.specs.Members.{Pushed}
use Rattle.planner.proofs.members.MemberLaws.{stay_some, stay_then, stay-pushed, mirroring-first, row-full, row-alone, row-mirrors}
use Rattle.planner.proofs.members.Members.add_mirrors.Goals as goal
use Rattle.planner.proofs.members.Members.add_mirrors.Goals.{After-push}

pub returns-then-from-eq-MOST_MEMBERS : goal.returns-then-from-eq-MOST_MEMBERS
returns-then-from-eq-MOST_MEMBERS c =
    let k = c.args.row.now in
    let m = c.args.self.now in (
      stay_some (length k) m.count m _,
      row-full (plan_number c.args.plan) (length k) c.args.owner k m c.requires.0 _,
    )

-- the row came behind the members
pushed : (c : After-push) → Pushed (length c.args.row.now) c.args.row.now c.args.owner c.args.self.now c.push.new.self
pushed c = c.push.ensures

-- it is the first of its mirrors
pub add_signs-requires : goal.add_signs-requires
add_signs-requires c =
    let k = c.args.row.now in (
      c.requires.2,
      mirroring-first (length k) c.args.owner k c.args.self.now c.push.new.self c.requires.0 refl c.requires.1 (pushed (goal.at.add_signs-requires c).After-push),
    )

pub returns-else-takes_mirrors : goal.returns-else-takes_mirrors
returns-else-takes_mirrors c =
    let k = c.args.row.now in
    let m = c.args.self.now in
    let p = pushed (goal.at.returns-else-takes_mirrors c).After-push in (
      stay-pushed (length k) c.args.owner k m c.push.new.self p,
      row-alone (plan_number c.args.plan) (length k) c.args.owner k m c.push.new.self (sym c.takes_mirrors.ensures ∙ c.if-takes_mirrors.false) p
          (mirroring-first (length k) c.args.owner k m c.push.new.self c.requires.0 refl c.requires.1 p),
    )

pub returns-then-takes_mirrors : goal.returns-then-takes_mirrors
returns-then-takes_mirrors c =
    let k = c.args.row.now in
    let m = c.args.self.now in
    let made = c.add_signs in (
      stay_then (length k) m.count m c.push.new.self made.new.self
          (stay-pushed (length k) c.args.owner k m c.push.new.self (pushed (goal.at.returns-then-takes_mirrors c).After-push)) made.ensures.members_stay,
      row-mirrors (plan_number c.args.plan) (length k) m.count c.args.owner k made.new.self (sym c.takes_mirrors.ensures ∙ c.if-takes_mirrors.true) made.ensures.mirroring,
    )
