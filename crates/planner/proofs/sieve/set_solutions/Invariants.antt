-- `sieve::set_solutions`: c is the residue of -t v, so v is a solution for it (`next_solves`).
use mathlib.Core.Path.{◌≡◌}
use Prim.Native.Nat.{◌+◌, ◌*◌, ◌%◌, ◌<◌, ◌≤◌}
use Rattle.planner.specs.Sieve.{Solutions}
use Rattle.planner.proofs.sieve.set_solutions.Given as goal

abbrev pub invariant-loop-v : goal.invariant-loop-v
invariant-loop-v l =
    (1 ≤ l.v) × (l.v ≤ l.n) × (l.c < l.n) × ((l.c + l.t * l.v) % l.n ≡ 0) × Solutions l.n l.t l.solutions
