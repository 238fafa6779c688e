-- `rows::end_of`: behind the axis that is found, and on all axes where none is, the components were passed over.
use mathlib.Core.Path.{◌≡◌, refl}
use Prim.Native.Nat.{ℕ}
use lib.ListN.{get_or-eq_default}
use Rattle.std.proofs.Common.{rules, tests, Option, Some, None, MatchOption}
use Rattle.planner.proofs.rows.end_of.Goals as goal

-- either case
by_option : (r : Option ℕ) (N : Type 0) (P : ℕ → Type 0) → (r ≡ None → N) → ((j : ℕ) → r ≡ Some j → P j) → MatchOption r N P
by_option None N P none some = none refl
by_option (Some j) N P none some = some j refl

pub returns : goal.returns
returns c =
    by_option c.rposition.result _ _ (λ e. search (rules, tests, get_or-eq_default)) (λ j e. search (rules, tests, get_or-eq_default))
