-- `gather` meets its contract: where nothing is refused the arguments are what `write_terms` asks for (`gather_clear`), and what it writes is the answer
-- (`given`).
use mathlib.Core.Path.{◌≡◌, refl, sym}
use mathlib.Core.List.{map}
use lib.IntN.{pos}
use lib.ListN.{length}
use Rattle.rank1.specs.Index.{index_list}
use Rattle.rank1.specs.Sums.{gathered_terms}
use Rattle.planner.proofs.CallLaws.{given, of_arguments}
use Rattle.planner.proofs.refusals.HandedLaws.{GatherHanded, gather_clear}
use Rattle.planner.proofs.gather.Goals as goal
use Rattle.planner.proofs.gather.Goals.{In_ok-rows}

handed : (c : In_ok-rows) → let a = c.args in GatherHanded a.plan a.d a.rows.now a.n a.z.now a.sums.now (length a.terms.now)
handed c =
    let a = c.args in
    gather_clear a.plan a.d a.rows.now a.n a.z.now a.sums.now (length a.terms.now) (sym c.in_ok-rows.ensures.number)

pub write_terms-requires : goal.write_terms-requires
write_terms-requires c =
    let h = handed (goal.at.write_terms-requires c).In_ok-rows in
    let g = c.in_ok-rows.ensures.given in
    let m = c.of.ensures in
    record { sums_len = (rw m.1 h.spread.sum_room, rw m.0 (rw g.axes (rw g.numbers h.spread.term_room))); rows_value = rw m.0 (rw m.1 (rw m.2 (rw g.plans (rw g.axes (rw g.numbers h.passes))))) }

pub returns : goal.returns
returns c =
    let wrote = of_arguments c.of.result (λ plan d xs n z. c.write_terms.new.terms ≡ gathered_terms plan n (map pos z) (index_list d xs) c.args.sums.now)
    c.in_ok-rows.ensures.given c.of.ensures c.write_terms.ensures in
    given c.in_ok-rows.ensures.number refl wrote
