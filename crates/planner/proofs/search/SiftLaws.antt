-- From what the sieve gives to the marks and sums of a stage: at the first axis nothing is marked, and the sums are added to only where
-- a difference ends behind the next axis.
use mathlib.Core.Path.{◌≡◌, refl, sym, ap, ◌∙◌, subst}
use mathlib.Core.List.{List}
use Prim.Native.Nat.{ℕ, suc, ◌+◌, ◌*◌}
use native.Mathlib.Omega.{arith}
use lib.ListN.{get_or}
use Rattle.planner.specs.declared.search.Search.{Search}
use Rattle.planner.specs.declared.tables.Work.{Work}
use Rattle.planner.specs.Sizes.{lasts, room}
use Rattle.planner.specs.Sieve.{part_at, SumsSet, Sieved}
use Rattle.planner.specs.Stage.{behind, Sifted, SumsAdded}

module _ (s : Search) (at : ℕ) (w : Work) where
  -- behind it: what the sieve gives
  pub sifted_behind : (before : ℕ) (w' : Work) → at ≡ suc before → w' ≡ record w { struck = w'.struck } → Sieved s.n before s.task.list.now w.products w.sums w.struck w'.struck → Sifted s at w w'
  sifted_behind before w' e only sieved =
      subst (λ (k : ℕ). Sifted s k w w') (sym e)
      (record { only = only; kept = sieved.kept; reason = λ v h marked. behind before refl (sieved.reason v h marked) })

  -- the sums of the differences that end behind axis at are set
  pub sums-set :
      (new : List ℕ) (before from to : ℕ) → at ≡ suc before → from ≡ get_or s.task.list.now.bounds ((at + 1) * lasts) 0 → to ≡ get_or s.task.list.now.bounds (s.task.rows.d * lasts) 0
      → SumsSet s.n before s.task.list.now.components w.products w.sums from to new → SumsAdded s at w (record w { sums = new })
  sums-set new before from to e f t set = record {
    only = refl;
    kept = λ i h. set.kept i (omega arith);
    added = λ other a o l m.
        subst (λ (k : ℕ). get_or new (at * room + a) 0 ≡ part_at s.n k s.task.list.now.components w.products w.sums a) (same other o)
        (ap (λ (k : ℕ). get_or new (k * room + a) 0) e ∙ set.set a (omega arith) (omega arith));
  }
    where
      same : (other : ℕ) → at ≡ suc other → before ≡ other
      same other o = omega arith
