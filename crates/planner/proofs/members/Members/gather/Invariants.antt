-- `members::Members::gather`: the members of the rows passed are gathered.
use lib.ListN.{length}
use Rattle.rank1.specs.Index.{rows_of}
use Rattle.rank1.specs.Named.{plan_number}
use Rattle.planner.specs.Members.{Gathering}
use Rattle.planner.proofs.members.Members.gather.Given as goal

abbrev pub invariant-loop-i : goal.invariant-loop-i
invariant-loop-i l = Gathering (plan_number l.rows.plan) l.rows.d (rows_of l.rows.d (length l.yielded) l.rows.numbers.now) l.members
