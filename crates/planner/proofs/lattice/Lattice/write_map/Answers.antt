-- `Lattice::write_map` meets its contract. The invariant: the first 2 * i places are the map's, where i rows have passed, and a turn makes
-- two more (`map_more`).
use Rattle.std.proofs.Common.{rules, ◌≡◌, sym, ◌*◌, ◌+◌, ◌<◌, map, pos, arith, subst, ℕ, length, take}
use lib.ListN.{set, length-set}
use Rattle.rank1.specs.Named.{plan_number}
use Rattle.rank1.proofs.SumLaws.{map-length}
use Rattle.planner.specs.Lists.{rows_in}
use Rattle.std.proofs.lemmas.List.{length_push}
use Rattle.planner.proofs.RowLaws.{Comes, rows_counted, next-number, no-number}
use Rattle.planner.proofs.mirrors.MirrorResidues.{row-ready}
use Rattle.planner.proofs.sums.SumSteps.{map_of, map_more, fill_all}
use Rattle.planner.proofs.lattice.Lattice.write_map.Goals as goal
use Rattle.planner.proofs.lattice.Lattice.write_map.Goals.{In-Some}

-- the row that comes is the next of the list, and has its number
next : (c : In-Some) → Comes c.args.self.now.rows (length c.loop-i.yielded) c.in-Some.i c.in-Some.row.now
next c = next-number c.args.self.now.rows _ (search rules) _ _ _ c.loop-i.yielded_by c.in-Some.is c.next.ensures.steps

pub entry_of-e-requires : goal.entry_of-e-requires
entry_of-e-requires c = row-ready c.args.self.now (next (goal.at.entry_of-e-requires c).In-Some)

-- so the places of its numbers are lent, and a list has few rows
room : (c : In-Some) → (2 * c.in-Some.i + 1 < length c.loop-i.out) × (c.in-Some.i < 512)
room c = (omega (arith, (next c).among, c.requires), omega (arith, (next c).among, c.args.self.now.rows.valid.few_rows))

pub overflow_mul-out : goal.overflow_mul-out
overflow_mul-out c = record { fits = omega (arith, (room (goal.at.overflow_mul-out c).In-Some).1) }

pub overflow_mul-out-in-loop-i : goal.overflow_mul-out-in-loop-i
overflow_mul-out-in-loop-i c = record { fits = omega (arith, (room (goal.at.overflow_mul-out-in-loop-i c).In-Some).1) }

pub overflow_add-out : goal.overflow_add-out
overflow_add-out c = record { fits = omega (arith, (room (goal.at.overflow_add-out c).In-Some).1) }

pub offset_bounds-out-i : goal.offset_bounds-out-i
offset_bounds-out-i c = record { fits = omega (arith, (room (goal.at.offset_bounds-out-i c).In-Some).1) }

pub offset_bounds-out-i-in-loop-i : goal.offset_bounds-out-i-in-loop-i
offset_bounds-out-i-in-loop-i c = record { fits = omega (arith, (room (goal.at.offset_bounds-out-i-in-loop-i c).In-Some).1) }

pub bounds-out-i : goal.bounds-out-i
bounds-out-i c = omega (arith, (room (goal.at.bounds-out-i c).In-Some).0)

pub bounds-out-i-in-loop-i : goal.bounds-out-i-in-loop-i
bounds-out-i-in-loop-i c = simp length-set (room (goal.at.bounds-out-i-in-loop-i c).In-Some).0

pub loop-i-preserved : goal.loop-i-preserved
loop-i-preserved c =
    let lattice = c.args.self.now in
    subst (λ (m : ℕ). take (2 * m) (set (set c.loop-i.out (2 * c.in-Some.i) c.entry_of-e.result.residue) (2 * c.in-Some.i + 1) c.entry_of-e.result.copies) ≡ take (2 * m) (map_of lattice))
    (sym (length_push c.loop-i.yielded (c.in-Some.i, c.in-Some.row)))
    (map_more lattice (next (goal.at.loop-i-preserved c).In-Some) c.entry_of-e.ensures c.loop-i.out (omega (arith, c.requires)) c.loop-i.invariant)

pub returns : goal.returns
returns c =
    let lattice = c.args.self.now in
    let size = rows_counted lattice.rows in
    let m = map-length (plan_number lattice.rows.plan) lattice.n (map pos lattice.z.now) (rows_in lattice.rows) in
    let all = no-number lattice.rows _ (search rules) _ _ _ c.loop-i.yielded_by c.in-None.is c.next.ensures.steps in
    fill_all c.loop-i.out (map_of lattice) (2 * length c.loop-i.yielded) (omega (arith, c.requires, size, m)) (omega (arith, size, m, all)) c.loop-i.invariant
