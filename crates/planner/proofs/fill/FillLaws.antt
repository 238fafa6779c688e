-- Filling the table of a list: what the pairs of the plan add are differences of the list (`found-grown`): all of them where the table
-- had no others, no member was missing and no difference was turned away (`found-once`).
use mathlib.Core.Path.{◌≡◌, ◌∙◌, ap, subst}
use mathlib.Core.Logic.{⊎_elim}
use mathlib.Core.Bool.{true}
use mathlib.Core.List.Memᴰ
use mathlib.Core.List.{List, Memᴰ}
use Prim.Native.Nat.{ℕ}
use lib.IntN.{ℤ}
use Rattle.rank1.specs.Index.{rows_of}
use Rattle.rank1.specs.Named.{plan_number}
use Rattle.rank1.specs.Rule.{Admissible}
use Rattle.rank1.specs.Differences.{minus, Avoided, Sound}
use Rattle.planner.specs.Members.{Kin, AllMembers}
use Rattle.planner.specs.Table.{rows_found, PlanPairs, Made, Grown, GrownTo, Found, FoundOf}
use Rattle.planner.specs.Lists.{rows_in}
use Rattle.planner.specs.declared.list.Rows.{Rows}
use Rattle.planner.specs.declared.members.Members.{Members}
use Rattle.planner.specs.declared.table.Differences.{Differences}
use Rattle.planner.proofs.differences.PairLaws.{has_stays}
use Rattle.planner.proofs.rule.RuleIndex.{few_plans}
use Rattle.planner.proofs.differences.PlanLaws.{made-avoided, members_complete}

-- ---- a table with no rows
pub none_found : (t : Differences) → t.count ≡ 0 → (h : List ℤ) → Memᴰ h (rows_found t) → ⊥
none_found t none h m = Memᴰ.not-nil (subst (Memᴰ h) (ap (λ (n : ℕ). rows_of t.d n t.rows) none) m)

-- ---- the pairs of the plan
module _ (rows : Rows) (members : Members) (t t' : Differences)
    (kin : Kin (plan_number rows.plan) rows.d (rows_in rows) members) (axes : t.d ≡ rows.d)
    (g : GrownTo (PlanPairs (plan_number rows.plan) t.d rows.numbers.now members) t t') where
  grown : Grown (PlanPairs (plan_number rows.plan) rows.d rows.numbers.now members) (rows_found t) (rows_found t') t.whole t'.whole
  grown =
      subst (λ (d : ℕ). Grown (PlanPairs (plan_number rows.plan) d rows.numbers.now members) (rows_found t) (rows_found t') t.whole t'.whole) axes
      g.grown

  avoided : (h : List ℤ) → Made (PlanPairs (plan_number rows.plan) rows.d rows.numbers.now members) h → Avoided (Admissible (plan_number rows.plan) (rows_in rows)) h
  avoided = made-avoided (plan_number rows.plan) rows.d rows.numbers.now members (few_plans rows.plan) rows.valid kin

  -- come to a table of differences of the list
  pub found-grown : Found (plan_number rows.plan) (rows_in rows) t → FoundOf rows t'
  found-grown f = record {
    axes = g.axes ∙ axes;
    found = record {
      sound = λ h m. ⊎_elim (f.sound h) (avoided h) (grown.only h m);
      complete = λ w x y a. has_stays (rows_found t) (rows_found t') (minus x y) grown.stays (f.complete (grown.was w) x y a);
    };
  }

  -- and are all of them, where all members were there
  pub found-once :
      Sound (Admissible (plan_number rows.plan) (rows_in rows)) (rows_found t)
      → (t.whole ≡ true → AllMembers (plan_number rows.plan) rows.d (rows_in rows) members) → FoundOf rows t'
  found-once sound all = record {
    axes = g.axes ∙ axes;
    found = record {
      sound = λ h m. ⊎_elim (sound h) (avoided h) (grown.only h m);
      complete = λ w.
          members_complete (plan_number rows.plan) rows.d rows.numbers.now members (few_plans rows.plan) rows.valid (all (grown.was w)) (rows_found t')
          (grown.all w);
    };
  }
