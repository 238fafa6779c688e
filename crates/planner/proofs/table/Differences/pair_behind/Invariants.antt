-- `Differences::pair_behind`: the turns of the rows before i are done.
use Prim.Native.Nat.{◌+◌}
use Rattle.rank1.specs.Named.{plan_number}
use Rattle.planner.specs.Table.{PairsFrom, Turns, GrownTo}
use Rattle.planner.proofs.table.Differences.pair_behind.Given as goal

abbrev pub invariant-loop-i : goal.invariant-loop-i
invariant-loop-i l = GrownTo (Turns 0 l.i (λ k. PairsFrom (plan_number l.pairing.plan) l.initial.self.d (k + 1) l.pairing.rows.now l.pairing.members.now k)) l.initial.self l.self
