-- `Lattice::all_mirrors_apart` meets its contract. Both loops keep that the rule holds just where the residues left to pass are different and
-- free in the table (TakenLaws): the rows left for the outer loop, the mirrors of the row left besides for the inner one. A clash
-- refutes the rule, and at the end none is left.
use Rattle.std.proofs.Common.{rules, refl, sym, ◌∙◌, ap, ◌≡◌, ◌∷◌, arith, length-set}
use mathlib.Core.Bool.{true≢false}
use Rattle.std.proofs.lemmas.Grind.{common_steps}
use Rattle.std.specs.Slice.Iter.{chunks_exact_rest}
use Rattle.rank1.proofs.IndexLaws.{index_front, index_short}
use Rattle.planner.proofs.RowLaws.{next_row}
use Rattle.planner.proofs.rule.TakenLaws.{Next, ahead, rows_left, rows_start, row_begins, mirror-next, taken_more, taken_clash, taken_all}
use Rattle.planner.proofs.mirrors.MirrorResidues.{row-ready}
use Rattle.planner.proofs.lattice.Lattice.all_mirrors_apart.Goals as goal
use Rattle.planner.proofs.lattice.Lattice.all_mirrors_apart.Goals.{In-Some, After-from-r}

-- of the rows that are left the one that comes is the first
front : (c : In-Some) → ahead c.args.self.now c.rows.row-iterator ≡ c.in-Some.row.now ∷ ahead c.args.self.now c.next.new.self
front c =
    let rows = c.args.self.now.rows in
    let e = index_front rows.d c.in-Some.row.now (chunks_exact_rest c.next.new.self) rows.valid.some_axes (search rules) in
    search (rules, e)

-- where a residue r of the row has been read, r is the next residue to pass
next : (c : After-from-r) → Next c.args.self.now c.mirror_residues-r-items.result.now (ahead c.args.self.now c.next.new.self) c.loop-r.r-index c.from-r.result
next c = mirror-next c.args.self.now c.in-Some.row.now (ahead c.args.self.now c.next.new.self) c.mirror_residues-r-items.ensures.0 c.loop-r.r-index c.loop-r-test.true c.from-r.ensures

pub rows-init : goal.rows-init
rows-init c =
    let lattice = c.args.self.now in
    let all : chunks_exact_rest c.into_iter-row-iterator.result ≡ lattice.rows.numbers.now = search rules in (
      refl,
      grind (arith, common_steps),
      rw all (rows_start lattice c.requires (grind (arith, common_steps))),
      search rules,
    )

pub mirror_residues-r-items-requires : goal.mirror_residues-r-items-requires
mirror_residues-r-items-requires c =
    let lattice = c.args.self.now in
    row-ready lattice (next_row lattice.rows _ (search rules) _ _ _ c.rows.yielded_by c.in-Some.is c.next.ensures.steps)

pub loop-r-init : goal.loop-r-init
loop-r-init c =
    let lattice = c.args.self.now in
    let begins = ap (rows_left lattice) (front (goal.at.loop-r-init c).In-Some) ∙ row_begins lattice c.in-Some.row.now (ahead lattice c.next.new.self) c.mirror_residues-r-items.ensures.0 in
    (c.rows.invariant.0, c.rows.invariant.1, rw (← begins) c.rows.invariant.2)

pub bounds-taken-r : goal.bounds-taken-r
bounds-taken-r c = omega (arith, (next (goal.at.bounds-taken-r c).After-from-r).below, c.args.self.now.ready.modulus.high)

pub bounds-taken-r-in-loop-r : goal.bounds-taken-r-in-loop-r
bounds-taken-r-in-loop-r c = omega (arith, (next (goal.at.bounds-taken-r-in-loop-r c).After-from-r).below, c.args.self.now.ready.modulus.high)

pub loop-r-preserved : goal.loop-r-preserved
loop-r-preserved c =
    let l = c.loop-r in
    let read = next (goal.at.loop-r-preserved c).After-from-r in (
      l.invariant.0,
      simp length-set l.invariant.1,
      taken_more l.taken _ l.invariant.2 read.next (omega (arith, l.invariant.1, read.below, c.args.self.now.ready.modulus.high)) c.if-taken-r.false,
    )

pub returns-in-None : goal.returns-in-None
returns-in-None c =
    let lattice = c.args.self.now in
    let none = index_short lattice.rows.d (chunks_exact_rest c.rows.row-iterator) (search rules) in
    record {
      yes = λ _. taken_all c.rows.taken _ c.rows.invariant.2 (ap (rows_left lattice) none);
      no = λ e. absurd (true≢false (sym c.rows.invariant.0 ∙ e));
    }

pub returns-then-taken-r : goal.returns-then-taken-r
returns-then-taken-r c =
    record {
      yes = λ e. absurd (true≢false (sym e));
      no = λ _. taken_clash c.loop-r.taken _ c.loop-r.invariant.2 (next (goal.at.returns-then-taken-r c).After-from-r).next c.if-taken-r.true;
    }
