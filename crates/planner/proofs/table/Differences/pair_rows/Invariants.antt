-- `Differences::pair_rows`: the turns of the rows before i are done.
use Rattle.rank1.specs.Named.{plan_number}
use Rattle.planner.specs.Table.{PairsFrom, Turns, GrownTo}
use Rattle.planner.proofs.table.Differences.pair_rows.Given as goal

abbrev pub invariant-loop-i : goal.invariant-loop-i
invariant-loop-i l = GrownTo (Turns 0 l.i (PairsFrom (plan_number l.pairing.plan) l.initial.self.d 0 l.pairing.rows.now l.pairing.members.now)) l.initial.self l.self
