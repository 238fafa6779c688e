-- The rows that end by an axis: what the rule asks of them, and that where they fail no vector of whole numbers that begins so meets
-- the rule. At the last axis they are the whole list.
use mathlib.Core.Path.{◌≡◌, sym, ap, ◌∙◌, subst}
use mathlib.Core.Bool.{Bool}
use mathlib.Core.List.{List, map}
use Prim.Native.Nat.{ℕ}
use native.Mathlib.Omega.{arith}
use lib.IntN.{ℤ, pos, ◌*ℤ◌}
use lib.ListN.{length, take}
use lib.Seq.{get_or-take, length-take-le}
use Rattle.rank1.specs.Named.{plan_number}
use Rattle.planner.specs.declared.search.Search.{Search}
use Rattle.rank1.specs.Tests.{Decides}
use Rattle.rank1.specs.Residue.{residue}
use Rattle.rank1.specs.Index.{index_list}
use Rattle.rank1.specs.Rule.{Admissible}
use Rattle.rank1.specs.Valid.{ValidList}
use Rattle.rank1.specs.Axes.{ZeroFrom}
use Rattle.rank1.proofs.RuleLaws.{prune-whole}
use Rattle.planner.specs.Sizes.{product_room}
use Rattle.planner.specs.Inner.{Ready}
use Rattle.planner.specs.Levels.{level_run, ending}
use Rattle.planner.specs.Lists.{rows_in}
use Rattle.planner.specs.Stage.{rule_of, Listed, Prefixed, NoneFrom, EndsHold}
use Rattle.planner.proofs.products.ProductLaws.{prepared_up_to}
use Rattle.planner.proofs.CallLaws.{ready_whole}
use Rattle.planner.proofs.levels.LevelLaws.{LevelReady, level_ready, zero_from_lem, ending-out}

module _ (s : Search) (at : ℕ) (z products : List ℕ) (listed : Listed s.task) (prefix : Prefixed s at z products) (wide : length products ≡ product_room) where
  -- the components that are fixed
  fixed : length (take at z) ≡ at
  fixed = length-take-le at z (omega (arith, prefix.size, prefix.within))

  module _ (xs : List ℤ) (is : xs ≡ level_run s.task.list.now.levels s.task.list.now.sizes at) where
    level : LevelReady (plan_number s.task.rows.plan) s.task.rows.d s.task.listing.top at xs
    level = subst (LevelReady (plan_number s.task.rows.plan) s.task.rows.d s.task.listing.top at) (sym is) (level_ready (plan_number s.task.rows.plan) s.task.rows.d s.task.rows.numbers.now s.task.rows.valid s.task.listing.top s.task.list.now.levels s.task.list.now.sizes listed.ends at prefix.within)

    -- they are a valid list
    pub ends_valid : ValidList (plan_number s.task.rows.plan) s.task.rows.d xs
    ends_valid = level.valid

    -- what the rule asks of them
    pub ends_ready : Ready s.task.rows.d xs s.n (take at z) products
    ends_ready = record {
      modulus = prefix.modulus;
      short = omega (arith, fixed, prefix.within);
      ended = λ k m. subst (λ (j : ℕ). ZeroFrom j k) (sym fixed) (level.ended k m);
      prepared = prepared_up_to s.n s.task.listing.top (take at z) xs products level.covers (record {
        size = wide;
        entry = λ j x l b.
            prefix.entries j x (omega (arith, fixed)) b ∙ ap (λ (c : ℕ). residue s.n (x *ℤ pos c)) (sym (get_or-take at z j 0 (omega (arith, fixed))));
      });
    }

    ends_are : index_list s.task.rows.d xs ≡ ending at (rows_in s.task.rows)
    ends_are = ap (index_list s.task.rows.d) is ∙ (listed.ends.level at (omega (arith, prefix.within))).rows

    -- where they fail, nothing that begins so meets the rule
    ends_none : (Admissible (plan_number s.task.rows.plan) (ending at (rows_in s.task.rows)) s.n (map pos (take at z)) → ⊥) → NoneFrom (rule_of s.task.rows) s.task.rows.d s.n at z
    unfolding NoneFrom
    ends_none fails y size begins =
        prune-whole (plan_number s.task.rows.plan) ks (ending at ks) s.n at y z (λ k m. (ending-out at ks k m).0) (λ k m. zero_from_lem at k (ending-out at ks k m).1) begins fails
      where
        ks : List (List ℤ)
        ks = rows_in s.task.rows

    -- what deciding the rule on them says
    pub ends_decided : (r : Bool) → Decides r (Admissible (plan_number s.task.rows.plan) (index_list s.task.rows.d xs) s.n (map pos (take at z))) → EndsHold s at z r
    ends_decided r e =
        let f = subst (λ (ks : List (List ℤ)). Decides r (Admissible (plan_number s.task.rows.plan) ks s.n (map pos (take at z)))) ends_are e in
        record { none = λ no. ends_none (f.no no); tested = λ unsieved. f.yes }

-- ---- all components are fixed: the whole list
module _ (s : Search) (z products : List ℕ) (listed : Listed s.task) (prefix : Prefixed s s.task.rows.d z products) (wide : length products ≡ product_room) where
  pub list-ready : Ready s.task.rows.d s.task.rows.numbers.now s.n z products
  list-ready = ready_whole s.task.rows prefix.modulus prefix.size listed.covers (record { size = wide; entry = λ j x l b. prefix.entries j x (omega (arith, prefix.size)) b })
