-- `Lattice::keeps_rule` meets its contract, plan by plan: where two rows have one residue none of the plans but Integration holds
-- (`recorded_breaks`), and under Fourier the rows alone decide (`recorded_decides`).
use Rattle.std.proofs.Common.{ap, arith}
use mathlib.Core.Logic.{⊎_elim}
use Rattle.rank1.specs.Named.{plan_number}
use Rattle.planner.proofs.rule.RuleIndex.{recorded_rows, recorded_decides, recorded_breaks}
use Rattle.planner.proofs.lattice.Lattice.keeps_rule.Goals as goal

pub returns-then-not-record_owners : goal.returns-then-not-record_owners
returns-then-not-record_owners c =
    recorded_breaks c.args.self.now c.record_owners-in-B.ensures
    (λ none. ⊎_elim (λ e. omega (arith, none, ap plan_number e)) (λ e. omega (arith, none, ap plan_number e)) c.in-B.is)
    c.if-not-record_owners.true

pub mirrors_apart-requires-clause-owners : goal.mirrors_apart-requires-clause-owners
mirrors_apart-requires-clause-owners c = recorded_rows c.args.self.now c.record_owners-in-B.ensures c.if-not-record_owners.false

pub returns-in-Fourier : goal.returns-in-Fourier
returns-in-Fourier c = rw c.in-Fourier.is (recorded_decides c.args.self.now c.record_owners.ensures)
