-- `Differences::pair_all`: the pairs by plan (`grown-zeros`, `grown-behind`), of rows and members that can be paired (`listed-rows`,
-- `listed-members`).
use mathlib.Core.Path.{◌≡◌, sym, ap, subst}
use mathlib.Core.Logic.{◌⊎◌, inl, inr, ⊎_elim}
use mathlib.Core.List.{List}
use Prim.Native.Nat.{ℕ, ◌*◌}
use native.Mathlib.Omega.{arith}
use lib.IntN.{ℤ}
use lib.ListN.{length}
use Rattle.rank1.specs.declared.Plan.{Plan}
use Rattle.rank1.specs.declared.Plan.TheVariants as plans
use Rattle.rank1.specs.Named.{plan_number}
use Rattle.planner.specs.Sizes.{axes, most_members}
use Rattle.planner.specs.Table.{RowPairs, GrownTo, RowRun, Pairable}
use Rattle.planner.proofs.differences.PlanLaws.{front_zeros, run-zeros, listed-rows, listed-members, grown-zeros, grown-behind}
use Rattle.rank1.specs.Index.{row_count}
use Rattle.planner.proofs.table.Differences.pair_all.Goals as goal
use Rattle.planner.proofs.table.Differences.pair_all.Goals.{Start}

-- the members are rows as long as the table's
pairable : (s : Start) → Pairable s.args.self.now.d s.args.level s.args.members.now
pairable s =
    let rows = s.args.rows.now in
    let members = s.args.members.now in
    let long : length members.rows ≡ most_members * axes = omega arith in
    subst (λ (d : ℕ). Pairable d s.args.level members) (sym s.requires.axes.0)
    (listed-members (plan_number rows.plan) rows.d rows.numbers.now members rows.valid s.requires.members s.args.level long s.requires.axes.1)

pub pair_rows-requires-clause-rows : goal.pair_rows-requires-clause-rows
pair_rows-requires-clause-rows c =
    let t = c.args.self.now in
    subst (λ (zs : List ℤ). RowRun t.d (row_count t.d zs) zs) (sym (front_zeros t.d axes t.few_axes)) (run-zeros t.d t.some_axes)

pub pair_rows-requires-clause-members : goal.pair_rows-requires-clause-members
pair_rows-requires-clause-members c = pairable (goal.at.pair_rows-requires-clause-members c).Start

pub pair_behind-requires-clause-rows : goal.pair_behind-requires-clause-rows
pair_behind-requires-clause-rows c = (pairable (goal.at.pair_behind-requires-clause-rows c).Start).run

pub pair_behind-requires-clause-members : goal.pair_behind-requires-clause-members
pair_behind-requires-clause-members c = pairable (goal.at.pair_behind-requires-clause-members c).Start

pub pair_rows-requires-in-B-clause-rows : goal.pair_rows-requires-in-B-clause-rows
pair_rows-requires-in-B-clause-rows c =
    let rows = c.args.rows.now in
    subst (λ (d : ℕ). RowRun d (row_count d rows.numbers.now) rows.numbers.now) (sym c.requires.axes.0)
    (listed-rows (plan_number rows.plan) rows.d rows.numbers.now rows.valid)

pub pair_rows-requires-in-B-clause-members : goal.pair_rows-requires-in-B-clause-members
pair_rows-requires-in-B-clause-members c = pairable (goal.at.pair_rows-requires-in-B-clause-members c).Start

pub returns-in-Integration : goal.returns-in-Integration
returns-in-Integration c =
    let rows = c.args.rows.now in
    let members = c.args.members.now in
    let t = c.args.self.now in
    let p = c.pair_rows in
    let plan = plan_number rows.plan in
    grown-zeros t.d rows.numbers.now members t p.new.self plan (ap plan_number c.in-Integration.is)
    (subst (λ (zs : List ℤ). GrownTo (RowPairs plan t.d zs members) t p.new.self) (front_zeros t.d axes t.few_axes) p.ensures)

-- the two plans by their numbers
named : (p : Plan) → p ≡ plans.Fourier ⊎ p ≡ plans.A → plan_number p ≡ 1 ⊎ plan_number p ≡ 2
named p is = ⊎_elim (λ e. inl (ap plan_number e)) (λ e. inr (ap plan_number e)) is

pub returns-in-Fourier : goal.returns-in-Fourier
returns-in-Fourier c =
    let rows = c.args.rows.now in
    let p = c.pair_behind in
    grown-behind c.args.self.now.d rows.numbers.now c.args.members.now c.args.self.now p.new.self (plan_number rows.plan)
    (named rows.plan c.in-Fourier.is) p.ensures
