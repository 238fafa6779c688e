-- `spread` meets its contract: where nothing is refused the arguments are what `write_sums` asks for (`spread_clear`), and what it writes is the answer
-- (`given`).
use mathlib.Core.Path.{◌≡◌, refl, sym}
use mathlib.Core.List.{map}
use lib.IntN.{pos}
use lib.ListN.{length}
use Rattle.rank1.specs.Index.{index_list}
use Rattle.rank1.specs.Sums.{spread_sums}
use Rattle.planner.proofs.CallLaws.{given, of_arguments}
use Rattle.planner.proofs.refusals.HandedLaws.{SpreadHanded, spread_clear}
use Rattle.planner.proofs.spread.Goals as goal
use Rattle.planner.proofs.spread.Goals.{In_ok-rows}

handed : (c : In_ok-rows) → let a = c.args in SpreadHanded a.plan a.d a.rows.now a.n a.z.now (length a.terms.now) (length a.sums.now)
handed c =
    let a = c.args in
    spread_clear a.plan a.d a.rows.now a.n a.z.now (length a.terms.now) (length a.sums.now) (sym c.in_ok-rows.ensures.number)

pub write_sums-requires : goal.write_sums-requires
write_sums-requires c =
    let h = handed (goal.at.write_sums-requires c).In_ok-rows in
    let g = c.in_ok-rows.ensures.given in
    let m = c.of.ensures in
    (rw m.0 (rw g.axes (rw g.numbers h.term_room)), rw m.1 h.sum_room)

pub returns : goal.returns
returns c =
    let wrote = of_arguments c.of.result (λ plan d xs n z. c.write_sums.new.sums ≡ spread_sums plan n (map pos z) (index_list d xs) c.args.terms.now)
    c.in_ok-rows.ensures.given c.of.ensures c.write_sums.ensures.0 in
    record { answered = given c.in_ok-rows.ensures.number refl wrote; narrow = λ none. c.write_sums.ensures.1 }
