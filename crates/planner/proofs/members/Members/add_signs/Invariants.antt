-- `members::Members::add_signs`: the mirrors are there for the axes passed, and what stood before the row stays.
use lib.ListN.{length}
use Rattle.planner.specs.Members.{Mirroring, MembersStay}
use Rattle.planner.proofs.members.Members.add_signs.Given as goal

abbrev pub invariant-loop-axis : goal.invariant-loop-axis
invariant-loop-axis l =
    Mirroring (length l.row) l.axis l.from l.owner l.row l.self × MembersStay (length l.row) l.from l.initial.self l.self
