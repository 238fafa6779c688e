-- `lattice::Lattice::residue`: the sum of the entries passed, with the residue of what is left of the row, has the residue of the
-- row (`row-turn`).
use mathlib.Core.Path.{◌≡◌}
use mathlib.Core.List.{map}
use Prim.Native.Nat.{◌+◌, ◌*◌, ◌%◌, ◌≤◌}
use lib.IntN.{pos}
use lib.ListN.{drop}
use Rattle.rank1.specs.Residue.{residue, dot}
use Rattle.planner.specs.Sizes.{largest_modulus}
use Rattle.planner.proofs.lattice.Lattice.residue.Given as goal

abbrev pub invariant-loop-j : goal.invariant-loop-j
invariant-loop-j l =
    (l.sum ≤ l.j * largest_modulus)
    × ((l.sum + residue l.self.n (dot (drop l.j l.row) (map pos (drop l.j l.self.z.now)))) % l.self.n ≡ residue l.self.n (dot l.row (map pos l.self.z.now)))
