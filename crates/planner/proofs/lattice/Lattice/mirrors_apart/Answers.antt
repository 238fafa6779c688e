-- `Lattice::mirrors_apart` meets its contract: no mirror passed, from number 1 on, has the residue of a row that the plan keeps
-- apart from its own (`mirror-passes`), and one that has it breaks the rule (`mirrors_break`).
use Rattle.std.proofs.Common.{rules, sym, subst, ◌∙◌, ℕ, ◌+◌, arith, length, ◌<◌}
use Rattle.std.proofs.lemmas.List.{length_push}
use Rattle.planner.proofs.RowLaws.{Comes, next-number, no-number}
use Rattle.planner.proofs.mirrors.MirrorResidues.{row-ready}
use Rattle.planner.proofs.rule.RuleIndex.{RowFree, MirrorAt, mirror_read, rows_free, mirror-passes, mirrors_hold, mirrors_break}
use Rattle.planner.proofs.lattice.Lattice.mirrors_apart.Goals as goal
use Rattle.planner.proofs.lattice.Lattice.mirrors_apart.Goals.{In-Some, After-from}

-- the row that comes is the next of the list, and has its number
next : (c : In-Some) → Comes c.args.self.now.rows (length c.rows.yielded) c.in-Some.i c.in-Some.row.now
next c = next-number c.args.self.now.rows _ (search rules) _ _ _ c.rows.yielded_by c.in-Some.is c.next.ensures.steps

pub mirror_residues-requires : goal.mirror_residues-requires
mirror_residues-requires c = row-ready c.args.self.now (next (goal.at.mirror_residues-requires c).In-Some)

-- where a residue has been read, it is that of mirror number t + 1 of row i
here : (c : After-from) → Comes c.args.self.now.rows (length c.rows.yielded) c.in-Some.i c.in-Some.row.now → MirrorAt c.args.self.now c.in-Some.i (c.loop-r.r-index + 1) c.from.result
here c at = mirror_read c.args.self.now at c.mirror_residues.ensures.0 c.loop-r.r-index c.loop-r-test.true c.from.ensures

pub bounds-owners-from : goal.bounds-owners-from
bounds-owners-from c =
    omega (arith, (here (goal.at.bounds-owners-from c).After-from (next (goal.at.bounds-owners-from c).In-Some)).below, c.args.self.now.ready.modulus.high)

pub loop-r-preserved : goal.loop-r-preserved
loop-r-preserved c =
    let read = here (goal.at.loop-r-preserved c).After-from (next (goal.at.loop-r-preserved c).In-Some) in
    (c.loop-r.invariant.0, mirror-passes c.args.self.now c.requires.owners read (sym c.clashes.ensures ∙ c.if-clashes.false) c.loop-r.invariant.1)

pub rows-preserved : goal.rows-preserved
rows-preserved c =
    let lattice = c.args.self.now in (
      c.loop-r.invariant.0,
      subst (λ (m : ℕ). (j : ℕ) → j < m → RowFree lattice j) (sym (length_push c.rows.yielded (c.in-Some.i, c.in-Some.row)))
          (rows_free lattice (next (goal.at.rows-preserved c).In-Some) c.mirror_residues.ensures.0 c.rows.invariant.1 (λ t l. c.loop-r.invariant.1 t (omega arith))),
    )

pub returns-in-None : goal.returns-in-None
returns-in-None c =
    let lattice = c.args.self.now in
    let all = no-number lattice.rows _ (search rules) _ _ _ c.rows.yielded_by c.in-None.is c.next.ensures.steps in
    rw c.rows.invariant.0 (mirrors_hold lattice c.requires.owners c.requires.le_plan (λ i l. c.rows.invariant.1 i (omega (arith, all))))

pub returns-then-clashes : goal.returns-then-clashes
returns-then-clashes c =
    let read = here (goal.at.returns-then-clashes c).After-from (next (goal.at.returns-then-clashes c).In-Some) in
    mirrors_break c.args.self.now c.requires.owners c.requires.le_plan read (omega arith) (sym c.clashes.ensures ∙ c.if-clashes.true)
