-- `differences::set_minus`: the components below j are set.
use mathlib.Core.Path.{◌≡◌}
use Prim.Native.Nat.{ℕ, ◌<◌}
use lib.IntN.{pos, ◌-ℤ◌}
use lib.ListN.{get_or}
use Rattle.planner.proofs.differences.set_minus.Given as goal

abbrev pub invariant-loop-j : goal.invariant-loop-j
invariant-loop-j l = (i : ℕ) → i < l.j → get_or l.h i (pos 0) ≡ get_or l.s i (pos 0) -ℤ get_or l.t i (pos 0)
