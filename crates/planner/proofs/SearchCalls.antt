-- How the two searches come from one: where no condition of a search applies its arguments are valid, and the answer among the moduli
-- from low to high is that of `search_vector` at low = high, and of `search_smallest` at low = 1.
use mathlib.Core.Path.{◌≡◌, sym, ◌∙◌, refl, subst}
use mathlib.Core.List.{List, [], ◌∷◌, ◌++◌}
use Prim.Native.Nat.{ℕ, zero, suc, ◌≤◌}
use native.Mathlib.Omega.{arith}
use lib.IntN.{ℤ}
use lib.ListN.{length}
use Rattle.std.specs.Prelude.{Result, Ok, Err}
use Rattle.rank1.specs.declared.Refusal.{Refusal}
use Rattle.rank1.specs.Named.{number, refused}
use Rattle.rank1.specs.Index.{index_list}
use Rattle.rank1.specs.Rule.{Rule, Admissible}
use Rattle.rank1.specs.Search.{Gentlest, NoPlan}
use Rattle.rank1.specs.Valid.{ValidList, ValidModulus}
use Rattle.rank1.specs.Refusal.{first_of, bad_plan, bad_modulus, bad_places, list_conditions, tally_refusal, search_refusal}
use Rattle.rank1.proofs.RefusalLaws.{first_of_none, first_of_none_append}
use Rattle.rank1.proofs.ValidLaws.{plan_clear, places_clear, valid_list, valid_modulus}
use Rattle.rank1.proofs.NamedLaws.{number_some}
use Rattle.refusal.proofs.InputLaws.{list_stops, list-passes}
use Rattle.planner.specs.Answer.{RefusedOr, GentlestOrNone, SmallestOrNone, VectorSearch, SmallestSearch}
use Rattle.planner.specs.Stage.{PlanBetween, SearchBetween}

-- ---- the moduli from low to high
module _ (rule : Rule) (d n : ℕ) (before after : List ℕ) where
  -- n alone
  between_gentlest : (r : Result ℕ Refusal) → PlanBetween rule d n n before after r → GentlestOrNone rule d n before after r
  between_gentlest (Ok m) p =
      let e : m ≡ n = omega (arith, p.0, p.1) in
      (e, subst (λ (i : ℕ). Gentlest rule d i after) e p.2)
  between_gentlest (Err k) p = (p.0, p.1, p.2 n (omega arith) (omega arith))

  -- those from 1 to the ceiling n
  between_smallest : (r : Result ℕ Refusal) → PlanBetween rule d 1 n before after r → SmallestOrNone rule d n before after r
  unfolding NoPlan
  between_smallest (Ok m) p = record { low = p.0; high = p.1; gentlest = p.2; smaller_fail = p.3 }
  between_smallest (Err k) p = p

-- ---- refused, or answered
refused_or : (before : List ℕ) (A : Type 0) (refusal : ℕ) (k : Refusal) (r : Result ℕ Refusal) → refused r ≡ number k → number k ≡ refusal → RefusedOr refusal before before r A
refused_or before A zero k r e f = absurd (omega (arith, number_some k, f))
refused_or before A (suc i) k r e f = (e ∙ f, refl)

answered_or : (before after : List ℕ) (r : Result ℕ Refusal) (A : Type 0) (refusal : ℕ) → refusal ≡ 0 → A → RefusedOr refusal before after r A
answered_or before after r A zero e a = a
answered_or before after r A (suc i) e a = absurd (omega arith)

refused_map : (before after : List ℕ) (r : Result ℕ Refusal) (refusal : ℕ) {A B : Type 0} → (A → B) → RefusedOr refusal before after r A → RefusedOr refusal before after r B
refused_map before after r zero f a = f a
refused_map before after r (suc i) f a = a

-- ---- valid arguments: no condition of the searches applies
pub record ValidSearch (plan d : ℕ) (xs : List ℤ) (n places : ℕ) : Type 0 where
  pub plans : plan ≤ 4
  pub list : ValidList plan d xs
  pub modulus : ValidModulus n
  pub room : places ≡ d

pub valid_search : (plan d : ℕ) (xs : List ℤ) (n places : ℕ) → search_refusal plan d xs n places ≡ 0 → ValidSearch plan d xs n places
unfolding search_refusal
valid_search plan d xs n places none =
    let named = (first_of_none (bad_plan plan) (list_conditions plan d xs ++ (bad_modulus n ∷ bad_places places d ∷ []))).0 none in
    let parts = (first_of_none_append (list_conditions plan d xs) (bad_modulus n ∷ bad_places places d ∷ [])).0 named.1 in
    let last = (first_of_none (bad_modulus n) (bad_places places d ∷ [])).0 parts.1 in
    record {
      plans = (plan_clear plan).0 named.0;
      list = valid_list plan d xs parts.0;
      modulus = valid_modulus n last.0;
      room = (places_clear places d).0 ((first_of_none (bad_places places d) []).0 last.1).0;
    }

-- ---- conditions 1 to 5, told by counting the list, and then 6 and 8
module _ (plan d : ℕ) (xs : List ℤ) (n places : ℕ) where
  abbrev range : List ℕ
  range = bad_modulus n ∷ bad_places places d ∷ []

  -- one of 1 to 5 applies
  pub refused_list : (k : Refusal) → number k ≡ tally_refusal plan d xs → number k ≡ search_refusal plan d xs n places
  unfolding search_refusal tally_refusal
  refused_list k e = list_stops (number k) (bad_plan plan ∷ list_conditions plan d xs) e range (λ none. omega (arith, number_some k, none))

  -- none does: 6 and 8 are left
  pub refused_range : (k : ℕ) → tally_refusal plan d xs ≡ 0 → k ≡ first_of range → k ≡ search_refusal plan d xs n places
  unfolding search_refusal tally_refusal
  refused_range k none e = list-passes 0 (bad_plan plan ∷ list_conditions plan d xs) (sym none) k range refl e

-- ---- the moduli from low to high, behind the conditions
module _ (plan d : ℕ) (xs : List ℤ) (low high : ℕ) (before : List ℕ) where
  -- one applies
  pub between_refused : (k : Refusal) (r : Result ℕ Refusal) → refused r ≡ number k → number k ≡ search_refusal plan d xs high (length before) → SearchBetween plan d xs low high before before r
  between_refused k r = refused_or before (PlanBetween (Admissible plan (index_list d xs)) d low high before before r) (search_refusal plan d xs high (length before)) k r

  -- none applies: the search answers
  module _ (none : search_refusal plan d xs high (length before) ≡ 0) where
    pub between_answered : (after : List ℕ) (r : Result ℕ Refusal) → PlanBetween (Admissible plan (index_list d xs)) d low high before after r → SearchBetween plan d xs low high before after r
    between_answered after r =
        answered_or before after r (PlanBetween (Admissible plan (index_list d xs)) d low high before after r) (search_refusal plan d xs high (length before)) none

-- ---- the two calls
module _ (plan d : ℕ) (xs : List ℤ) (n : ℕ) (before after : List ℕ) (r : Result ℕ Refusal) where
  -- n alone
  pub vector_search : SearchBetween plan d xs n n before after r → VectorSearch plan d xs n before after r
  vector_search = refused_map before after r (search_refusal plan d xs n (length before)) (between_gentlest (Admissible plan (index_list d xs)) d n before after r)

  -- those from 1 to the ceiling n
  pub smallest_search : SearchBetween plan d xs 1 n before after r → SmallestSearch plan d xs n before after r
  smallest_search = refused_map before after r (search_refusal plan d xs n (length before)) (between_smallest (Admissible plan (index_list d xs)) d n before after r)
