-- `Differences::add_against`: the turns before e are done.
use Rattle.rank1.specs.Named.{plan_number}
use Rattle.planner.specs.Table.{MemberPair, Turns, GrownTo}
use Rattle.planner.proofs.table.Differences.add_against.Given as goal

abbrev pub invariant-loop-e : goal.invariant-loop-e
invariant-loop-e l = GrownTo (Turns l.from l.e (MemberPair (plan_number l.pairing.plan) l.initial.self.d l.pairing.rows.now l.pairing.members.now l.i)) l.initial.self l.self
