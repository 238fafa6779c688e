-- `moduli::first_modulus`: the tables are made with zeros in the sums.
use Prim.Native.Nat.{◌*◌}
use native.Mathlib.Omega.{arith}
use Rattle.planner.specs.Sizes.{axes, room}
use Rattle.planner.proofs.Writing.{unwritten}
use Rattle.planner.proofs.moduli.first_modulus.Goals as goal

pub loop-n-init : goal.loop-n-init
loop-n-init c = ((λ e l. unwritten 0 (axes * room) e), omega arith, (λ m l h. absurd (omega arith)), c.requires.le_low.2)
