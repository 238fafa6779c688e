-- Theorems of the two searches, over their contracts alone: a call has one answer and leaves one content of the lent places; a refused
-- one leaves them as they were, 9 among the refusals; 9 is that there is no plan, and a plan is found just where there is one; and
-- demand 3, sentence by sentence.
use mathlib.Core.Path.{◌≡◌, refl, sym, ◌∙◌, ap}
use mathlib.Core.Logic.{◌↔◌, ◌≢◌}
use mathlib.Core.List.{List, [], ◌∷◌, map}
use Prim.Native.Nat.{ℕ, zero, suc, ◌<◌, ◌≤◌}
use native.Mathlib.Omega.{arith}
use lib.IntN.{ℤ, pos}
use lib.ListN.{length, get_or, length-map}
use Rattle.std.specs.Prelude.{Result, Ok, Err}
use Rattle.rank1.specs.declared.Refusal.{Refusal}
use Rattle.rank1.specs.Named.{number, refused}
use Rattle.rank1.specs.Index.{index_list}
use Rattle.rank1.specs.Rule.{Rule, Admissible}
use Rattle.rank1.specs.Search.{Gentler, Gentlest, Hopeless, NoPlan}
use Rattle.rank1.specs.Refusal.{first_of, bad_places, search_conditions, search_refusal}
use Rattle.rank1.proofs.RefusalLaws.{first_of_none, first_of_none_append}
use Rattle.rank1.proofs.ValidLaws.{places_clear}
use Rattle.rank1.proofs.NamedLaws.{refused_same}
use Rattle.rank1.proofs.GentleOrder.{gentler_strict}
use Rattle.rank1.proofs.SearchLaws.{first_unique, hopeless_first, smallest_unique, smallest_plan}
use Rattle.planner.specs.Answer.{RefusedOr, GentlestOrNone, SmallestOrNone, VectorSearch, SmallestSearch}

-- ---- one answer: what is returned, and what is left in the lent places
abbrev pub Same : Result ℕ Refusal → Result ℕ Refusal → List ℕ → List ℕ → Type 0
Same r r' after after' = (r ≡ r') × (after ≡ after')

module _ (rule : Rule) (d n : ℕ) (before after after' : List ℕ) where
  gentlest_determined : (r r' : Result ℕ Refusal) → GentlestOrNone rule d n before after r → GentlestOrNone rule d n before after' r' → Same r r' after after'
  gentlest_determined (Ok m) (Ok m') p q = (ap Ok (p.0 ∙ sym q.0), first_unique rule d Gentler gentler_strict n n after after' p.1 q.1)
  gentlest_determined (Ok m) (Err k) p q = absurd (hopeless_first rule d n q.2 after p.1)
  gentlest_determined (Err k) (Ok m) p q = absurd (hopeless_first rule d n p.2 after' q.1)
  gentlest_determined (Err k) (Err k') p q = (ap Err (p.0 ∙ sym q.0), p.1 ∙ sym q.1)

  -- n is the ceiling
  smallest_determined : (r r' : Result ℕ Refusal) → SmallestOrNone rule d n before after r → SmallestOrNone rule d n before after' r' → Same r r' after after'
  smallest_determined (Ok m) (Ok m') p q = let e = smallest_unique rule d n n m m' after after' p q in (ap Ok e.0, e.1)
  smallest_determined (Ok m) (Err k) p q = absurd (smallest_plan rule d n m after p q.2)
  smallest_determined (Err k) (Ok m) p q = absurd (smallest_plan rule d n m after' q p.2)
  smallest_determined (Err k) (Err k') p q = (ap Err (p.0 ∙ sym q.0), p.1 ∙ sym q.1)

-- with the refusals before it, whatever their number
refused-determined :
    (refusal : ℕ) (before after after' : List ℕ) (r r' : Result ℕ Refusal) {A A' : Type 0} → (A → A' → Same r r' after after')
    → RefusedOr refusal before after r A → RefusedOr refusal before after' r' A' → Same r r' after after'
refused-determined zero before after after' r r' f p q = f p q
refused-determined (suc k) before after after' r r' f p q = (refused_same k r r' p.0 q.0, p.1 ∙ sym q.1)

module _ (plan d : ℕ) (xs : List ℤ) (n : ℕ) (before after after' : List ℕ) (r r' : Result ℕ Refusal) where
  pub search_vector_determined : VectorSearch plan d xs n before after r → VectorSearch plan d xs n before after' r' → Same r r' after after'
  search_vector_determined =
      refused-determined (search_refusal plan d xs n (length before)) before after after' r r'
      (gentlest_determined (Admissible plan (index_list d xs)) d n before after after' r r')

  pub search_smallest_determined : SmallestSearch plan d xs n before after r → SmallestSearch plan d xs n before after' r' → Same r r' after after'
  search_smallest_determined =
      refused-determined (search_refusal plan d xs n (length before)) before after after' r r'
      (smallest_determined (Admissible plan (index_list d xs)) d n before after after' r r')

-- ---- "every lent buffer then holds what it held before" (demand 1): a refused search keeps z, 9 among the refusals
refused_kept : (refusal : ℕ) (before after : List ℕ) (k : Refusal) {A : Type 0} → (A → after ≡ before) → RefusedOr refusal before after (Err k) A → after ≡ before
refused_kept zero before after k f a = f a
refused_kept (suc i) before after k f a = a.1

module _ (plan d : ℕ) (xs : List ℤ) (n : ℕ) (before after : List ℕ) (k : Refusal) where
  pub search_vector_keeps : VectorSearch plan d xs n before after (Err k) → after ≡ before
  search_vector_keeps = refused_kept (search_refusal plan d xs n (length before)) before after k (λ p. p.1)

  pub search_smallest_keeps : SmallestSearch plan d xs n before after (Err k) → after ≡ before
  search_smallest_keeps = refused_kept (search_refusal plan d xs n (length before)) before after k (λ p. p.1)

-- ---- refusal 9 is that there is no plan, and a plan is found just where there is one
-- some vector of d whole numbers, of any sign and size, meets the rule at n
abbrev pub SomeVector : Rule → ℕ → ℕ → Type 0
SomeVector rule d n = (z : List ℤ) × (length z ≡ d) × rule n z

-- some modulus from 1 to the ceiling has one
abbrev pub SomePlan : Rule → ℕ → ℕ → Type 0
SomePlan rule d ceiling = (n : ℕ) × (1 ≤ n) × (n ≤ ceiling) × SomeVector rule d n

found_refused : (n : ℕ) (k : Refusal) → Ok n ≡ Err k → ⊥
found_refused n k e = absurd (let z : ◌≡◌ {A = ℕ} 0 1 = cc in omega arith)

gentlest_some : (rule : Rule) (d n : ℕ) (z : List ℕ) → Gentlest rule d n z → SomeVector rule d n
gentlest_some rule d n z f = (map pos z, length-map z pos ∙ f.ranged.size, f.admissible)

module _ (rule : Rule) (d n : ℕ) (before after : List ℕ) where
  gentlest_nine : (r : Result ℕ Refusal) → GentlestOrNone rule d n before after r → (refused r ≡ 9) ↔ Hopeless rule d n
  gentlest_nine (Ok m) p = ((λ e. absurd (omega (arith, e))), (λ h. absurd (hopeless_first rule d n h after p.1)))
  gentlest_nine (Err k) p = ((λ e. p.2), (λ h. ap number p.0))

  gentlest_found : (r : Result ℕ Refusal) → GentlestOrNone rule d n before after r → (r ≡ Ok n) ↔ SomeVector rule d n
  unfolding Hopeless
  gentlest_found (Ok m) p = ((λ e. gentlest_some rule d n after p.1), (λ s. ap Ok p.0))
  gentlest_found (Err k) p = ((λ e. absurd (found_refused n k (sym e))), (λ s. absurd (p.2 s.0 s.1 s.2)))

  smallest_nine : (r : Result ℕ Refusal) → SmallestOrNone rule d n before after r → (refused r ≡ 9) ↔ NoPlan rule d n
  smallest_nine (Ok m) p = ((λ e. absurd (omega (arith, e))), (λ h. absurd (smallest_plan rule d n m after p h)))
  smallest_nine (Err k) p = ((λ e. p.2), (λ h. ap number p.0))

  smallest_found : (r : Result ℕ Refusal) → SmallestOrNone rule d n before after r → ((m : ℕ) × (r ≡ Ok m)) ↔ SomePlan rule d n
  unfolding Hopeless NoPlan
  smallest_found (Ok m) p = ((λ e. (m, p.low, p.high, gentlest_some rule d m after p.gentlest)), (λ s. (m, refl)))
  smallest_found (Err k) p =
      ((λ e. absurd (found_refused e.0 k (sym e.1))), (λ s. absurd (p.2 s.0 s.1 s.2 s.3.0 s.3.1 s.3.2)))

answer_of : (before after : List ℕ) (r : Result ℕ Refusal) {A : Type 0} (refusal : ℕ) → refusal ≡ 0 → RefusedOr refusal before after r A → A
answer_of before after r zero e a = a
answer_of before after r (suc i) e a = absurd (omega arith)

-- the contracts, where no condition from 1 to 8 applies
module _ (plan d : ℕ) (xs : List ℤ) (n : ℕ) (before after : List ℕ) (r : Result ℕ Refusal) (none : search_refusal plan d xs n (length before) ≡ 0) where
  vector_answer : VectorSearch plan d xs n before after r → GentlestOrNone (Admissible plan (index_list d xs)) d n before after r
  vector_answer = answer_of before after r (search_refusal plan d xs n (length before)) none

  pub smallest_answer : SmallestSearch plan d xs n before after r → SmallestOrNone (Admissible plan (index_list d xs)) d n before after r
  smallest_answer = answer_of before after r (search_refusal plan d xs n (length before)) none

  -- at n
  pub vector_refused_nine : VectorSearch plan d xs n before after r → (refused r ≡ 9) ↔ Hopeless (Admissible plan (index_list d xs)) d n
  vector_refused_nine s = gentlest_nine (Admissible plan (index_list d xs)) d n before after r (vector_answer s)

  pub vector-found : VectorSearch plan d xs n before after r → (r ≡ Ok n) ↔ SomeVector (Admissible plan (index_list d xs)) d n
  vector-found s = gentlest_found (Admissible plan (index_list d xs)) d n before after r (vector_answer s)

  -- up to the ceiling n
  pub refused_nine : SmallestSearch plan d xs n before after r → (refused r ≡ 9) ↔ NoPlan (Admissible plan (index_list d xs)) d n
  refused_nine s = smallest_nine (Admissible plan (index_list d xs)) d n before after r (smallest_answer s)

  pub plan_found : SmallestSearch plan d xs n before after r → ((m : ℕ) × (r ≡ Ok m)) ↔ SomePlan (Admissible plan (index_list d xs)) d n
  plan_found s = smallest_found (Admissible plan (index_list d xs)) d n before after r (smallest_answer s)

-- ---- demand 3
-- "In every other case it gives
pub record Gives (plan d : ℕ) (ks : List (List ℤ)) (ceiling : ℕ) (z : List ℕ) (r : Result ℕ Refusal) : Type 0 where
  -- an n from 1 to N
  pub n : ℕ
  pub answer : r ≡ Ok n
  pub low : 1 ≤ n
  pub high : n ≤ ceiling
  -- and a z of d components from 0 to n-1,
  pub size : length z ≡ d
  pub below : (j : ℕ) → j < d → get_or z j 0 < n
  -- and this pair meets the rule.
  pub meets : Admissible plan ks n (map pos z)
  -- Every smaller modulus fails with every vector of d whole numbers of any sign and size.
  pub smaller_fail : (m : ℕ) → 1 ≤ m → m < n → (y : List ℤ) → length y ≡ d → Admissible plan ks m y → ⊥
  -- At n, every other vector with components from 0 to n-1 that meets the rule comes after z in" the order of document 02, f, which
  -- replaces dictionary order: "the one with the least largest component now wins, then dictionary order"
  pub others-after : (y : List ℕ) → length y ≡ d → ((j : ℕ) → j < d → get_or y j 0 < n) → Admissible plan ks n (map pos y) → y ≢ z → Gentler z y

pub record DemandThree (plan d : ℕ) (ks : List (List ℤ)) (ceiling : ℕ) (z : List ℕ) (r : Result ℕ Refusal) : Type 0 where
  -- "the smallest plan is refused with 9 exactly when no modulus from 1 to N meets the plan's rule with any vector of d whole numbers,
  -- whatever their signs and sizes."
  pub nine : (refused r ≡ 9) ↔ ((n : ℕ) → 1 ≤ n → n ≤ ceiling → (y : List ℤ) → length y ≡ d → Admissible plan ks n y → ⊥)
  pub otherwise : refused r ≢ 9 → Gives plan d ks ceiling z r

smallest_gives : (plan d : ℕ) (ks : List (List ℤ)) (ceiling : ℕ) (before z : List ℕ) (r : Result ℕ Refusal) → SmallestOrNone (Admissible plan ks) d ceiling before z r → refused r ≢ 9 → Gives plan d ks ceiling z r
unfolding Hopeless
smallest_gives plan d ks ceiling before z (Ok n) p other = record {
  n = n;
  answer = refl;
  low = p.low;
  high = p.high;
  size = p.gentlest.ranged.size;
  below = p.gentlest.ranged.below;
  meets = p.gentlest.admissible;
  smaller_fail = p.smaller_fail;
  others-after = λ y e b. p.gentlest.others-after y (record { size = e; below = b });
}
smallest_gives plan d ks ceiling before z (Err k) p other = absurd (other (ap number p.0))

-- "For every valid list, plan and ceiling N, with d places lent for z": none of refusals 1 to 6 applies to them
pub demand_three : (plan d : ℕ) (xs : List ℤ) (ceiling : ℕ) (before after : List ℕ) (r : Result ℕ Refusal) → first_of (search_conditions plan d xs ceiling) ≡ 0 → length before ≡ d → SmallestSearch plan d xs ceiling before after r → DemandThree plan d (index_list d xs) ceiling after r
unfolding Hopeless NoPlan search_refusal
demand_three plan d xs ceiling before after r valid room told = record {
  nine = refused_nine plan d xs ceiling before after r none told;
  otherwise = smallest_gives plan d (index_list d xs) ceiling before after r (smallest_answer plan d xs ceiling before after r none told);
}
  where
    none : search_refusal plan d xs ceiling (length before) ≡ 0
    none =
        (first_of_none_append (search_conditions plan d xs ceiling) (bad_places (length before) d ∷ [])).1
        (valid, (first_of_none (bad_places (length before) d) []).1 ((places_clear (length before) d).1 room, refl))
