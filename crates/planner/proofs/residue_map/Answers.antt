-- `residue_map` meets its contract: where nothing is refused the arguments are what `write_map` asks for (`map_clear`), and what it writes is the answer
-- (`given`).
use mathlib.Core.Path.{◌≡◌, refl, sym}
use mathlib.Core.List.{map}
use lib.IntN.{pos}
use lib.ListN.{length}
use Rattle.rank1.specs.Index.{index_list}
use Rattle.rank1.specs.Sums.{residue_map}
use Rattle.planner.proofs.CallLaws.{given, of_arguments}
use Rattle.planner.proofs.refusals.HandedLaws.{MapHanded, map_clear}
use Rattle.planner.proofs.residue_map.Goals as goal
use Rattle.planner.proofs.residue_map.Goals.{In_ok-rows}

handed : (c : In_ok-rows) → let a = c.args in MapHanded a.plan a.d a.rows.now a.n a.z.now (length a.out.now)
handed c =
    let a = c.args in
    map_clear a.plan a.d a.rows.now a.n a.z.now (length a.out.now) (sym c.in_ok-rows.ensures.number)

pub write_map-requires : goal.write_map-requires
write_map-requires c =
    let h = handed (goal.at.write_map-requires c).In_ok-rows in
    let g = c.in_ok-rows.ensures.given in
    rw c.of.ensures.0 (rw g.axes (rw g.numbers h.room))

pub returns : goal.returns
returns c =
    let wrote = of_arguments c.of.result (λ plan d xs n z. c.write_map.new.out ≡ residue_map plan n (map pos z) (index_list d xs))
    c.in_ok-rows.ensures.given c.of.ensures c.write_map.ensures in
    given c.in_ok-rows.ensures.number refl wrote
