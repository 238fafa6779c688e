-- `moduli::first_modulus`: the moduli from low to below n fail, and the work serves the next.
use mathlib.Core.Path.{◌≡◌}
use Prim.Native.Nat.{ℕ, ◌≤◌, ◌<◌}
use lib.ListN.{length}
use Rattle.rank1.specs.Search.{Hopeless}
use Rattle.planner.specs.Stage.{rule_of, Blank}
use Rattle.planner.proofs.moduli.first_modulus.Given as goal

abbrev pub invariant-loop-n : goal.invariant-loop-n
invariant-loop-n l = Blank l.work × (l.low ≤ l.n) × ((m : ℕ) → l.low ≤ m → m < l.n → Hopeless (rule_of l.task.rows) l.task.rows.d m) × (length l.best ≡ l.task.rows.d)
