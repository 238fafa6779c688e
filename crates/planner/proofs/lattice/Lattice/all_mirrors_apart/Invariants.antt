-- `Lattice::all_mirrors_apart` meets its contract. Both loops keep that the rule holds just where the residues left to pass are different and
-- free in the table (TakenLaws): the rows left for the outer loop, the mirrors of the row left besides for the inner one. A clash
-- refutes the rule, and at the end none is left.
use Rattle.std.proofs.Common.{◌≡◌, ◌↔◌, true, map, length, pos}
use Rattle.std.specs.Slice.Iter.{chunks_exact_size}
use Rattle.rank1.specs.Rule.{PlanA}
use Rattle.planner.specs.Sizes.{largest_modulus}
use Rattle.planner.specs.Lists.{rows_in}
use Rattle.planner.proofs.rule.TakenLaws.{Untaken, ahead, rows_left, mirrors_left}
use Rattle.planner.proofs.lattice.Lattice.all_mirrors_apart.Given as goal

abbrev pub invariant-loop-r : goal.invariant-loop-r
invariant-loop-r l =
    (l.apart ≡ true)
    × (length l.taken ≡ largest_modulus)
    × (PlanA (rows_in l.self.rows) l.self.n (map pos l.self.z.now) ↔ Untaken l.taken (mirrors_left l.self l.r-items l.r-index (ahead l.self l.row-iterator)))

abbrev pub invariant-rows : goal.invariant-rows
invariant-rows l =
    (l.apart ≡ true)
    × (length l.taken ≡ largest_modulus)
    × (PlanA (rows_in l.self.rows) l.self.n (map pos l.self.z.now) ↔ Untaken l.taken (rows_left l.self (ahead l.self l.row-iterator)))
    × (chunks_exact_size l.row-iterator ≡ l.self.rows.d)
