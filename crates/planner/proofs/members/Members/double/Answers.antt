-- `members::Members::double`: the next member is as it was (`doubled-as`), so it is small; once it stands behind the others with the
-- other sign, one more is doubled (`doubled-once`).
use mathlib.Core.Path.{sym, subst}
use mathlib.Core.List.{[]}
use native.Mathlib.Omega.{arith}
use lib.ListN.{get_or}
use Rattle.rank1.specs.Index.{rows_of}
use Rattle.planner.specs.Members.{SmallRow}
use Rattle.planner.proofs.RowLaws.{row-behind}
use Rattle.planner.proofs.members.MemberLaws.{doubled-as, doubled-once}
use Rattle.planner.proofs.members.Members.double.Goals as goal

pub push_flipped-requires-clause-small_row : goal.push_flipped-requires-clause-small_row
push_flipped-requires-clause-small_row c =
    let a = c.args in
    let l = c.loop-i in
    let m = a.self.now in
    subst SmallRow (sym (doubled-as a.d a.from l.i a.axis a.owner m l.self l.invariant (omega arith) (omega arith)))
    (c.requires.small (get_or (rows_of a.d m.count m.rows) l.i []) (row-behind a.d a.from m.count l.i m.rows (omega arith) (omega arith)))

pub loop-i-preserved : goal.loop-i-preserved
loop-i-preserved c =
    let a = c.args in
    let l = c.loop-i in
    let p = c.push_flipped in
    doubled-once a.d a.from l.i a.axis a.owner a.self.now l.self l.invariant (omega arith) (omega arith) p.new.self p.ensures
