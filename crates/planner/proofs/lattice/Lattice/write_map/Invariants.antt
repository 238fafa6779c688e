-- `Lattice::write_map` meets its contract. The invariant: the first 2 * i places are the map's, where i rows have passed, and a turn makes
-- two more (`map_more`).
use Rattle.std.proofs.Common.{◌≡◌, ◌*◌, length, take}
use Rattle.planner.proofs.sums.SumSteps.{map_of}
use Rattle.planner.proofs.lattice.Lattice.write_map.Given as goal

abbrev pub invariant-loop-i : goal.invariant-loop-i
invariant-loop-i l = take (2 * length l.yielded) l.out ≡ take (2 * length l.yielded) (map_of l.self)
