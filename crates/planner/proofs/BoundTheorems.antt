-- The searches and the tally's bound (document 02, b), over their contracts alone: below the bound of the list's recount the vector search
-- is refused with 9, and so is the smallest plan with a ceiling there; the smallest plan found is not below it.
use mathlib.Core.Path.{◌≡◌}
use mathlib.Core.List.{List, map}
use Prim.Native.Nat.{ℕ, ◌<◌, ◌≤◌}
use native.Mathlib.Omega.{arith}
use lib.IntN.{ℤ, pos}
use lib.ListN.{length}
use Rattle.std.specs.Prelude.{Result, Ok}
use Rattle.rank1.specs.declared.Refusal.{Refusal}
use Rattle.rank1.specs.Named.{refused}
use Rattle.rank1.specs.Index.{index_list}
use Rattle.rank1.specs.Search.{NoPlan}
use Rattle.rank1.specs.Tally.{recount, least_modulus}
use Rattle.rank1.specs.Refusal.{search_refusal}
use Rattle.rank1.proofs.BoundLaws.{valid_rows, bound_hopeless, bound_fits}
use Rattle.planner.specs.Answer.{VectorSearch, SmallestSearch}
use Rattle.planner.proofs.SearchCalls.{ValidSearch, valid_search}
use Rattle.planner.proofs.SearchTheorems.{smallest_answer, vector_refused_nine, refused_nine}

module _ (plan d : ℕ) (xs : List ℤ) (n : ℕ) (before after : List ℕ) (none : search_refusal plan d xs n (length before) ≡ 0) where
  -- the least modulus worth trying, from the list's recount
  abbrev pub least : ℕ
  least = least_modulus plan (recount plan d (index_list d xs))

  valid : ValidSearch plan d xs n (length before)
  valid = valid_search plan d xs n (length before) none

  -- at n, below the bound
  pub vector-below-bound : (r : Result ℕ Refusal) → VectorSearch plan d xs n before after r → n < least → refused r ≡ 9
  vector-below-bound r s l =
      (vector_refused_nine plan d xs n before after r none s).1 (bound_hopeless plan d (index_list d xs) n (valid_rows plan d xs valid.list) valid.modulus.low l)

  -- up to the ceiling n, below the bound
  pub ceiling_below-bound : (r : Result ℕ Refusal) → SmallestSearch plan d xs n before after r → n < least → refused r ≡ 9
  unfolding NoPlan
  ceiling_below-bound r s l =
      (refused_nine plan d xs n before after r none s).1 (λ m h g. bound_hopeless plan d (index_list d xs) m (valid_rows plan d xs valid.list) h (omega (arith, l, g)))

  -- the plan that is found
  pub smallest_from-bound : (m : ℕ) → SmallestSearch plan d xs n before after (Ok m) → least ≤ m
  smallest_from-bound m s =
      let p = smallest_answer plan d xs n before after (Ok m) none s in
      bound_fits plan d (index_list d xs) m (map pos after) (valid_rows plan d xs valid.list) p.low p.gentlest.admissible
