-- The sieve at the first axis: a number of periods of t is struck where a difference ends there with component t.
use mathlib.Core.Path.{◌≡◌, sym, ap, ◌∙◌}
use mathlib.Core.Logic.{inl, inr, ⊎_elim}
use mathlib.Core.Bool.{Bool, false, false≢true}
use mathlib.Core.List.{List}
use Prim.Native.Nat.{ℕ, suc, ◌+◌, ◌*◌, ◌%◌, ◌<◌}
use native.Mathlib.Omega.{arith}
use lib.ListN.{length, get_or}
use Rattle.planner.specs.Sizes.{lasts}
use Rattle.planner.specs.declared.tables.ModulusTables.{ModulusTables}
use Rattle.planner.specs.Sieve.{Steps, Marking, SolutionsOf, Periods, FirstForbidden, FirstBarred, AllFirstBarred}
use Rattle.planner.proofs.sieve.SolutionLaws.{zero_solves, steps_solve}

module _ (n : ℕ) (bounds : List ℕ) where
  -- the multiples of a period are
  pub first-marked :
      (t step : ℕ) (old new : List Bool) → t < lasts → get_or bounds t 0 < get_or bounds (suc t) 0 → (t * step) % n ≡ 0 → Marking 0 step old new → FirstBarred n bounds old new
  first-marked t step old new l some period m = record { size = m.size; reason = λ v h q. ⊎_elim inl (λ w. inr (forbidden v w)) (m.reason v q) }
    where
      forbidden : (v : ℕ) → Steps 0 step v → FirstForbidden n bounds v
      forbidden v w = record {
        last = t;
        which = get_or bounds t 0;
        small = l;
        from = omega arith;
        to = some;
        solved = ap (λ (x : ℕ). x % n) (nothing v) ∙ steps_solve n t 0 0 step v period w (zero_solves n t);
      }
        where
          nothing : (v : ℕ) → t * v ≡ 0 + t * v
          nothing v = omega arith

  -- from no mark at all
  pub first_all : (old clean new : List Bool) → length clean ≡ length old → ((v : ℕ) → v < n → get_or clean v false ≡ false) → FirstBarred n bounds clean new → AllFirstBarred n bounds old new
  first_all old clean new e none s = record { size = s.size ∙ e; reason = λ v l m. ⊎_elim (λ q. absurd (false≢true (sym (none v l) ∙ q))) (λ f. f) (s.reason v l m) }

-- the steps of the tables of solutions are periods
pub periods : (n : ℕ) (M : ModulusTables) → SolutionsOf n M → Periods n M.solved
periods n M f = record {
  some = λ t s l e. (f t s l e).right.some;
  few = λ t s l e. (f t s l e).right.few;
  period = λ t s l e. (f t s l e).right.period;
}
