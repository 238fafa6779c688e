-- `Lattice::record_owners` meets its contract: the table has the owners among the rows passed; a turn adds the next row
-- (`recorded_more`), and an owner that stands there already is the clash (`recorded_clash`).
use Rattle.std.proofs.Common.{rules, ◌∙◌, sym, subst, ℕ, arith, length, length-set}
use lib.ListN.{set}
use Rattle.std.specs.Prelude.{Some}
use Rattle.std.proofs.lemmas.List.{length_push}
use Rattle.planner.proofs.RowLaws.{Comes, next-number, no-number}
use Rattle.planner.proofs.mirrors.MirrorResidues.{row-ready}
use Rattle.planner.proofs.rule.RuleIndex.{Owned, recorded_all, recorded_clash, recorded_more}
use Rattle.planner.proofs.lattice.Lattice.record_owners.Goals as goal
use Rattle.planner.proofs.lattice.Lattice.record_owners.Goals.{In-Some}

-- the row that comes is the next of the list, and has its number
next : (c : In-Some) → Comes c.args.self.now.rows (length c.loop-i.yielded) c.in-Some.i c.in-Some.row.now
next c = next-number c.args.self.now.rows _ (search rules) _ _ _ c.loop-i.yielded_by c.in-Some.is c.next.ensures.steps

pub residue-requires : goal.residue-requires
residue-requires c = row-ready c.args.self.now (next (goal.at.residue-requires c).In-Some)

pub overflow_cast-owners : goal.overflow_cast-owners
overflow_cast-owners c = record { fits = omega (arith, (next (goal.at.overflow_cast-owners c).In-Some).among, c.args.self.now.rows.valid.few_rows) }

pub returns-then-is_some : goal.returns-then-is_some
returns-then-is_some c =
    recorded_clash c.args.self.now (next (goal.at.returns-then-is_some c).In-Some) (c.from-r.ensures ∙ c.residue.ensures.0) (omega arith) c.loop-i.invariant.1 (search rules)

pub loop-i-preserved : goal.loop-i-preserved
loop-i-preserved c =
    let lattice = c.args.self.now in (
      simp length-set c.loop-i.invariant.0,
      subst (λ (m : ℕ). Owned lattice m (set c.loop-i.owners c.from-r.result (Some c.in-Some.i))) (sym (length_push c.loop-i.yielded (c.in-Some.i, c.in-Some.row)))
          (recorded_more lattice (next (goal.at.loop-i-preserved c).In-Some) (c.from-r.ensures ∙ c.residue.ensures.0) (omega arith) c.loop-i.invariant.1 (omega arith) (search rules)),
    )

pub returns : goal.returns
returns c =
    let lattice = c.args.self.now in
    recorded_all lattice (no-number lattice.rows _ (search rules) _ _ _ c.loop-i.yielded_by c.in-None.is c.next.ensures.steps) c.loop-i.invariant.1
