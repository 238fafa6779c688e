-- `Lattice::write_sums` meets its contract. The invariant: the sums are those of the rows passed, whose terms have 32 bits. So 512
-- rows of at most 64 residues stay in 64 bits (`addable`).
use Rattle.std.proofs.Common.{rules, ◌≡◌, ◌∙◌, sym, subst, true, ◌<◌, arith, ℤ, pos, get_or, length, w64, to_z, of_z}
use Rattle.std.proofs.lemmas.List.{length_push}
use Rattle.rank1.specs.Sums.{in32}
use Rattle.rank1.proofs.WholeSums.{mag_in32}
use Rattle.planner.proofs.RowLaws.{Comes, next-pair, no-pair}
use Rattle.planner.proofs.mirrors.MirrorResidues.{row-ready}
use Rattle.planner.proofs.sums.SignedSteps.{passed}
use Rattle.planner.proofs.sums.SumSteps.{SpreadTo, addable, sums_more, sums_all}
use Rattle.planner.proofs.lattice.Lattice.write_sums.Goals as goal
use Rattle.planner.proofs.lattice.Lattice.write_sums.Goals.{After-from, In-Some}

-- the row that comes is the next of the list, and its term the next term
next :
    (c : In-Some)
    → Comes c.args.self.now.rows (length c.loop-row.yielded) (length c.loop-row.yielded) c.in-Some.row.now
    × (length c.loop-row.yielded < length c.args.terms.now)
    × ((z : ℤ) → c.in-Some.term.now ≡ get_or c.args.terms.now (length c.loop-row.yielded) z)
next c = next-pair c.args.self.now.rows c.args.terms.now _ (search rules) _ _ c.next.new.self c.loop-row.yielded_by c.in-Some.is c.next.ensures.steps

-- the term is what the call reads, and has 32 bits
term : (c : After-from) (x : ℤ) → c.in-Some.term.now ≡ x → (to_z w64 (of_z w64 c.from.result) ≡ x) × (in32 x ≡ true)
term c x e = (passed c.in-Some.term.now c.from.result (omega arith) c.from.ensures ∙ e, subst (λ (a : ℤ). in32 a ≡ true) e (mag_in32 c.in-Some.term.now (omega arith)))

pub residues_under-residues-requires : goal.residues_under-residues-requires
residues_under-residues-requires c = row-ready c.args.self.now (next (goal.at.residues_under-residues-requires c).In-Some).0

pub add_term-requires : goal.add_term-requires
add_term-requires c =
    let here = next (goal.at.add_term-requires c).In-Some in
    let its = term (goal.at.add_term-requires c).After-from _ (here.2 (pos 0)) in
    addable c.args.self.now c.args.terms.now c.loop-row.sums c.loop-row.invariant here.0 here.1 its.0 its.1 c.residues_under-residues.ensures.0 (omega (arith, c.requires.1))

pub loop-row-preserved : goal.loop-row-preserved
loop-row-preserved c =
    let lattice = c.args.self.now in
    let here = next (goal.at.loop-row-preserved c).In-Some in
    let its = term (goal.at.loop-row-preserved c).After-from _ (here.2 (pos 0)) in
    subst (SpreadTo lattice c.args.terms.now c.add_term.new.sums) (sym (length_push c.loop-row.yielded (c.in-Some.row, c.in-Some.term)))
    (sums_more lattice c.args.terms.now c.loop-row.sums c.loop-row.invariant here.0 here.1 its.0 its.1 c.residues_under-residues.ensures.0 c.add_term.new.sums c.add_term.ensures)

pub returns : goal.returns
returns c =
    let lattice = c.args.self.now in
    let terms = c.args.terms.now in
    sums_all lattice terms c.loop-row.sums c.loop-row.invariant (no-pair lattice.rows terms _ (search rules) _ _ c.next.new.self c.loop-row.yielded_by c.in-None.is c.next.ensures.steps c.requires.0) c.requires.0 (omega (arith, c.requires.1))
