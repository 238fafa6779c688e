-- The moduli upward: those below the tally's bound fail, and the first that does not fail.
use mathlib.Core.Path.{◌≡◌, refl, subst}
use mathlib.Core.List.{List}
use Prim.Native.Nat.{ℕ, ◌<◌, ◌≤◌, max}
use native.Mathlib.Decide.{dec_lt}
use native.Mathlib.Omega.{arith}
use lib.IntN.{ℤ}
use Rattle.std.specs.Prelude.{Result, Ok, Err}
use Rattle.rank1.specs.declared.Refusal.{Refusal}
use Rattle.rank1.specs.declared.Refusal.TheVariants as refusals
use Rattle.rank1.specs.declared.Tally.{Tally}
use Rattle.rank1.specs.Index.{index_list}
use Rattle.rank1.specs.Rule.{Admissible}
use Rattle.rank1.specs.Search.{Hopeless}
use Rattle.rank1.specs.Tally.{recount, least_modulus}
use Rattle.rank1.specs.Valid.{ValidList}
use Rattle.rank1.proofs.BoundLaws.{valid_rows, bound_hopeless}
use Rattle.planner.specs.Stage.{PlanBetween}

-- counting: moduli below the tally's bound are passed over
module _ (plan d low start high : ℕ) (rows : List ℤ) (tally : Tally) (list : ValidList plan d rows) (counted : tally ≡ recount plan d (index_list d rows)) (some : 1 ≤ low) (begins : start ≡ max low (least_modulus plan tally)) where
  passed : (m : ℕ) → low ≤ m → m < start → Hopeless (Admissible plan (index_list d rows)) d m
  passed m l h =
      let below : m < least_modulus plan tally = omega (arith, begins) in
      bound_hopeless plan d (index_list d rows) m (valid_rows plan d rows list) (omega arith) (subst (λ (t : Tally). m < least_modulus plan t) counted below)

  -- all of them are
  pub all_counted : (before : List ℕ) → high < start → PlanBetween (Admissible plan (index_list d rows)) d low high before before (Err refusals.NoPlan)
  all_counted before none = (refl, refl, (λ m l h. passed m l (omega arith)))

  -- and the others are run
  pub rest-run : (before after : List ℕ) (r : Result ℕ Refusal) → PlanBetween (Admissible plan (index_list d rows)) d start high before after r → PlanBetween (Admissible plan (index_list d rows)) d low high before after r
  rest-run before after (Ok n) p =
      (omega (arith, begins, p.0), p.1, p.2, (λ m l h. elim (dec_lt m start) [ yes e ↦ passed m l e | no e ↦ p.3 m (omega arith) h ]))
  rest-run before after (Err k) p = (p.0, p.1, (λ m l h. elim (dec_lt m start) [ yes e ↦ passed m l e | no e ↦ p.2 m (omega arith) h ]))
