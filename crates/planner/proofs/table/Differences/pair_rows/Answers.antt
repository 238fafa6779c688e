-- `Differences::pair_rows`: the rows of the table stay as long; a row and the members that it meets are one turn more (`grown-turn`).
use Prim.Native.Nat.{zero-le}
use native.Mathlib.Omega.{arith}
use Rattle.planner.proofs.differences.PairLaws.{grown-turn}
use Rattle.planner.proofs.table.Differences.pair_rows.Goals as goal

pub add_against-requires-clause-row : goal.add_against-requires-clause-row
add_against-requires-clause-row c = rw c.loop-i.invariant.axes (c.requires.rows c.loop-i.i (omega arith))

pub loop-i-preserved : goal.loop-i-preserved
loop-i-preserved c = grown-turn zero-le c.loop-i.invariant (simp c.loop-i.invariant.axes at c.add_against.ensures)
