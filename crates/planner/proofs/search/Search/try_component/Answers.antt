-- `Search::try_component`: no first vector begins so where v cannot lead (lead_passed) or the rule fails on the rows that end there
-- (none_first); else the products of the next stage are set (prefixed_more).
use mathlib.Core.Path.{◌≡◌, refl, sym, ap, ◌∙◌, subst}
use mathlib.Core.Bool.{false≢true}
use mathlib.Core.List.{List}
use Prim.Native.Nat.{ℕ, ◌+◌}
use native.Mathlib.Omega.{arith}
use lib.ListN.{get_or, set}
use lib.Seq.{get_or-set_same}
use Rattle.rank1.specs.Named.{plan_number}
use Rattle.rank1.proofs.VectorLaws.{plan_scales}
use Rattle.planner.specs.declared.tables.Work.{Work}
use Rattle.planner.specs.Inner.{AxisSet}
use Rattle.planner.specs.Lists.{rows_in}
use Rattle.planner.specs.Stage.{rule_of, Prefixed}
use Rattle.planner.proofs.search.PrefixLaws.{none_first}
use Rattle.planner.proofs.search.ValueLaws.{lead_passed}
use Rattle.planner.proofs.search.StageLaws.{prefixed_more}
use Rattle.planner.proofs.search.Search.try_component.Goals as goal
use Rattle.planner.proofs.search.Search.try_component.Goals.{Start}

-- the next prefix, once the products of the axis are set
next_prefix :
    (b : Start) (p : List ℕ) → AxisSet b.args.self.now.n b.args.v b.args.at b.args.self.now.task.listing.top b.args.work.now.products p
    → Prefixed b.args.self.now (b.args.at + 1) (set b.args.z.now b.args.at b.args.v) p
next_prefix b p anew =
    let a = b.args in
    prefixed_more a.self.now a.at a.v a.z.now b.requires.within a.work.now.products p b.requires.listed.covers.narrow b.requires.prefix anew

pub returns-then-cannot_lead : goal.returns-then-cannot_lead
returns-then-cannot_lead c =
    let a = c.args in
    record {
      stored = refl;
      only = refl;
      kept_products = λ i l. refl;
      prefix = λ e. absurd (false≢true e);
      none = λ _.
          let s = a.self.now in
          let rows = s.task.rows in
          let cannot = c.cannot_lead.ensures c.if-cannot_lead.true in
          lead_passed (rule_of rows) (plan_scales (plan_number rows.plan) (rows_in rows)) rows.d s.n s.values a.at a.v (set a.z.now a.at a.v) c.requires.prefix.modulus.low
          rows.valid.some_axes cannot.first cannot.all_values cannot.fails (get_or-set_same a.z.now a.at a.v 0 (omega (arith, c.requires.prefix.size, c.requires.within)));
      tested = λ unsieved e. absurd (false≢true e);
    }

pub ends_hold-requires-clause-prefixed : goal.ends_hold-requires-clause-prefixed
ends_hold-requires-clause-prefixed c = next_prefix (goal.at.ends_hold-requires-clause-prefixed c).Start c.set_axis.new.products c.set_axis.ensures

pub returns : goal.returns
returns c =
    let a = c.args in
    let s = a.self.now in
    let axis = c.set_axis in
    let ends = c.ends_hold in
    let w' = ends.new.work in
    let z' = set a.z.now a.at a.v in
    let e : w'.products ≡ axis.new.products = ap (λ (x : Work). x.products) ends.ensures.only in
    record {
      stored = refl;
      only = ends.ensures.only ∙ ap (λ (p : List ℕ). record a.work.now { products = p; owners = w'.owners; taken = w'.taken }) (sym e);
      kept_products = λ i l. ap (λ (x : List ℕ). get_or x i 0) e ∙ axis.ensures.kept i l;
      prefix = λ _.
          subst (Prefixed a.self.now (a.at + 1) z') (sym e) (next_prefix (goal.at.returns c).Start axis.new.products axis.ensures);
      none = λ no. none_first (rule_of s.task.rows) s.task.rows.d s.n s.values (a.at + 1) z' (ends.ensures.holds.none no);
      tested = ends.ensures.holds.tested;
    }
