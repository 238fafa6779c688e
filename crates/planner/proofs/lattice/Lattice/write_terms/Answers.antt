-- `Lattice::write_terms` meets its contract. The invariant: the first i terms are the gathered ones, and a turn writes one more (`terms_more`).
-- Every row passes, so each quotient has 32 bits (`term_some`).
use Rattle.std.proofs.Common.{rules, w32, to_z, of_z, ◌≡◌, length, ℕ, sym, subst, map, arith, pos, take}
use lib.ListN.{length-map, set}
use Rattle.rank1.specs.Named.{plan_number}
use Rattle.rank1.specs.Sums.{gathered_term}
use Rattle.planner.specs.Lists.{rows_in}
use Rattle.std.proofs.lemmas.List.{length_push}
use Rattle.planner.proofs.RowLaws.{Comes, rows_counted, next-number, no-number}
use Rattle.planner.proofs.mirrors.MirrorResidues.{row-ready}
use Rattle.planner.proofs.sums.SumSteps.{terms_of, terms_more, term_some, fill_all}
use Rattle.planner.proofs.lattice.Lattice.write_terms.Goals as goal
use Rattle.planner.proofs.lattice.Lattice.write_terms.Goals.{In-Some}

-- the row that comes is the next of the list, and has its number
next : (c : In-Some) → Comes c.args.self.now.rows (length c.loop-i.yielded) c.in-Some.i c.in-Some.row.now
next c = next-number c.args.self.now.rows _ (search rules) _ _ _ c.loop-i.yielded_by c.in-Some.is c.next.ensures.steps

pub entry_of-e-requires : goal.entry_of-e-requires
entry_of-e-requires c = row-ready c.args.self.now (next (goal.at.entry_of-e-requires c).In-Some)

pub bounds-terms-i : goal.bounds-terms-i
bounds-terms-i c = omega (arith, (next (goal.at.bounds-terms-i c).In-Some).among, c.requires.sums_len.1)

pub offset_bounds-terms-i : goal.offset_bounds-terms-i
offset_bounds-terms-i c = record { fits = omega (arith, (next (goal.at.offset_bounds-terms-i c).In-Some).among, c.args.self.now.rows.valid.few_rows) }

pub loop-i-preserved-in-Some-quotient_of : goal.loop-i-preserved-in-Some-quotient_of
loop-i-preserved-in-Some-quotient_of c =
    let lattice = c.args.self.now in
    let sums = c.args.sums.now in
    subst (λ (m : ℕ). take m (set c.loop-i.terms c.in-Some.i (to_z w32 (of_z w32 c.in-Some-quotient_of.quotient))) ≡ take m (terms_of lattice sums)) (sym (length_push c.loop-i.yielded (c.in-Some.i, c.in-Some.row)))
    (terms_more lattice (next (goal.at.loop-i-preserved-in-Some-quotient_of c).In-Some) c.entry_of-e.ensures sums c.from.ensures (omega arith) c.loop-i.terms c.in-Some-quotient_of.ensures
    (omega (arith, c.requires.sums_len.1)) c.loop-i.invariant)

-- every row passes, so each has a quotient
pub loop-i-preserved : goal.loop-i-preserved
loop-i-preserved c =
    absurd (term_some c.args.self.now (next (goal.at.loop-i-preserved c).In-Some) c.entry_of-e.ensures c.args.sums.now c.from.ensures (omega arith) c.requires.rows_value c.in_default.is c.quotient_of.ensures)

pub returns : goal.returns
returns c =
    let lattice = c.args.self.now in
    let size = rows_counted lattice.rows in
    let m = length-map (rows_in lattice.rows) (gathered_term (plan_number lattice.rows.plan) lattice.n (map pos lattice.z.now) c.args.sums.now) in
    let all = no-number lattice.rows _ (search rules) _ _ _ c.loop-i.yielded_by c.in-None.is c.next.ensures.steps in
    fill_all c.loop-i.terms (terms_of lattice c.args.sums.now) (length c.loop-i.yielded) (omega (arith, c.requires.sums_len.1, size, m)) (omega (arith, size, all, m)) c.loop-i.invariant
