-- The calls on the list of no rows (document 02, a), from what they promise of every list: the check says yes to every pair; at any
-- modulus the vector search gives the zero vector; the smallest plan is n = 1 with the zero vector; the map and the gathered terms have
-- no places, and the sums are n zeros. `NoRows` of rank1 has this of the definitions.
use mathlib.Core.Path.{◌≡◌, refl, sym, ◌∙◌, ap, subst}
use mathlib.Core.Logic.{◌≢◌}
use mathlib.Core.List.{List, [], ◌∷◌, ◌++◌, map}
use Prim.Native.Nat.{ℕ, ◌*◌, ◌≤◌}
use native.Mathlib.Nat.{zero-div}
use native.Mathlib.Omega.{arith}
use lib.IntN.{ℤ, pos}
use lib.ListN.{length, replicate}
use Rattle.rank1.specs.Tests.{every}
use Rattle.rank1.specs.Index.{row_count, index_list}
use Rattle.rank1.specs.Rule.{Rule, Admissible}
use Rattle.rank1.specs.Search.{InRange, Gentlest, Smallest}
use Rattle.rank1.specs.Sums.{residue_map, spread_sums, gathered_terms, gathers}
use Rattle.rank1.specs.Valid.{ValidModulus}
use Rattle.rank1.specs.Refusal.{first_of, bad_plan, bad_map_plan, bad_modulus, bad_places, inadmissible, list_conditions, pair_conditions, table_conditions, search_conditions, check_refusal, map_refusal, spread_refusal, gather_refusal, search_refusal}
use Rattle.rank1.proofs.RefusalLaws.{first_of_none, first_of_none_append}
use Rattle.rank1.proofs.ValidLaws.{plan_clear, map_plan_clear, modulus_clear, places_clear, rule_clear, pair_none}
use Rattle.rank1.proofs.NoRows.{no_rows, no_rows_valid, no_rows-admissible, zero_vector, no_rows_gentlest, no_rows_smallest, no_rows-map, no_rows_sums, no_rows_terms}
use Rattle.std.specs.Prelude.{Bool, true}
use Rattle.std.specs.Prelude.{Result, Ok}
use Rattle.rank1.specs.declared.Refusal.{Refusal}
use Rattle.planner.specs.Answer.{CheckCall, RefusedOr, ResidueMapCall, SpreadCall, GatherCall, VectorSearch, SmallestSearch}
use Rattle.planner.proofs.CallTheorems.{check_yes, answered_writes}
use Rattle.planner.proofs.SearchTheorems.{Same, search_vector_determined, search_smallest_determined}
use Rattle.planner.proofs.refusals.HandedLaws.{gather_answers}

module _ (plan d n : ℕ) (plans : plan ≤ 4) (axes : (1 ≤ d) × (d ≤ 6)) (modulus : ValidModulus n) where
  -- none of 2 to 5 applies
  listed : first_of (list_conditions plan d []) ≡ 0
  listed = no_rows_valid plan d axes.0 axes.1

  -- what holds of the rule for the list of no rows holds of that for the run of no numbers
  of_run : (P : Rule → Type 0) → P (Admissible plan []) → P (Admissible plan (index_list d []))
  of_run P p = subst (λ (ks : List (List ℤ)). P (Admissible plan ks)) (sym (no_rows d)) p

  -- ---- the searches: n is the modulus, or the ceiling
  module _ (before after : List ℕ) (r : Result ℕ Refusal) (room : length before ≡ d) where
    -- none of 1 to 6 and 8 applies
    none : search_refusal plan d [] n (length before) ≡ 0
    unfolding search_refusal
    none =
        (first_of_none_append (search_conditions plan d [] n) (bad_places (length before) d ∷ [])).1 (
          (first_of_none (bad_plan plan) (list_conditions plan d [] ++ (bad_modulus n ∷ []))).1 (
            (plan_clear plan).1 plans,
            (first_of_none_append (list_conditions plan d []) (bad_modulus n ∷ [])).1
                (listed, (first_of_none (bad_modulus n) []).1 ((modulus_clear n).1 (modulus.low, modulus.high), refl)),
          ),
          (first_of_none (bad_places (length before) d) []).1 ((places_clear (length before) d).1 room, refl),
        )

    -- where none applies, the promise is what an answer says: that the zero vector was found with a modulus
    zeros-found : (found : ℕ) {A : Type 0} → A → RefusedOr (search_refusal plan d [] n (length before)) before (zero_vector d) (Ok found) A
    zeros-found found {A} a = subst (λ (k : ℕ). RefusedOr k before (zero_vector d) (Ok found) A) (sym none) a

    pub vector_no_rows : VectorSearch plan d [] n before after r → Same r (Ok n) after (zero_vector d)
    vector_no_rows told =
        search_vector_determined plan d [] n before after (zero_vector d) r (Ok n) told
        (zeros-found n
        (refl, of_run (λ rule. Gentlest rule d n (zero_vector d)) (no_rows_gentlest plan d plans n modulus.low)))

    pub smallest_no_rows : SmallestSearch plan d [] n before after r → Same r (Ok 1) after (zero_vector d)
    smallest_no_rows told =
        search_smallest_determined plan d [] n before after (zero_vector d) r (Ok 1) told
        (zeros-found 1
        (of_run (λ rule. Smallest rule d n 1 (zero_vector d)) (no_rows_smallest plan d plans n modulus.low)))

  -- ---- the calls that take a pair
  module _ (z : List ℕ) (vector : InRange n d z) where
    -- neither 6 nor 7 applies
    paired : first_of (pair_conditions d n z) ≡ 0
    paired = pair_none d n z modulus vector

    rule : Admissible plan (index_list d []) n (map pos z)
    rule = of_run (λ R. R n (map pos z)) (no_rows-admissible plan n (map pos z) plans)

    check_none : check_refusal plan d [] n z ≡ 0
    unfolding check_refusal
    check_none =
        (first_of_none (bad_plan plan) (list_conditions plan d [] ++ pair_conditions d n z)).1
        ((plan_clear plan).1 plans, (first_of_none_append (list_conditions plan d []) (pair_conditions d n z)).1 (listed, paired))

    pub check_no_rows : (r : Result Bool Refusal) → CheckCall plan d [] n z r → r ≡ Ok true
    check_no_rows r told = (check_yes plan d [] n z r told).1 (check_none, rule)

    -- ---- map, spread and gather
    module _ (mapped : plan ≢ 0) where
      tabled : first_of (table_conditions plan d [] n z) ≡ 0
      tabled =
          (first_of_none (bad_map_plan plan) (list_conditions plan d [] ++ pair_conditions d n z)).1
          ((map_plan_clear plan).1 (plans, mapped), (first_of_none_append (list_conditions plan d []) (pair_conditions d n z)).1 (listed, paired))

      ruled : first_of (inadmissible plan (index_list d []) n z ∷ []) ≡ 0
      ruled = (first_of_none (inadmissible plan (index_list d []) n z) []).1 ((rule_clear plan (index_list d []) n z).1 rule, refl)

      map_none : map_refusal plan d [] n z 0 ≡ 0
      unfolding map_refusal
      map_none =
          let room = bad_places 0 (2 * row_count d []) in
          (first_of_none_append (table_conditions plan d [] n z) (room ∷ inadmissible plan (index_list d []) n z ∷ [])).1
          (tabled, (first_of_none room (inadmissible plan (index_list d []) n z ∷ [])).1 ((places_clear 0 (2 * row_count d [])).1 (omega (arith, zero-div d)), ruled))

      spread_none : (sums : ℕ) → sums ≡ n → spread_refusal plan d [] n z 0 sums ≡ 0
      unfolding spread_refusal
      spread_none sums e =
          let terms = bad_places 0 (row_count d []) in
          let rest = bad_places sums n ∷ inadmissible plan (index_list d []) n z ∷ [] in
          (first_of_none_append (table_conditions plan d [] n z) (terms ∷ rest)).1 (
            tabled,
            (first_of_none terms rest).1 (
              (places_clear 0 (row_count d [])).1 (omega (arith, zero-div d)),
              (first_of_none (bad_places sums n) (inadmissible plan (index_list d []) n z ∷ [])).1 ((places_clear sums n).1 e, ruled),
            ),
          )

      pub map_no_rows : (after : List ℕ) (r : ℕ) → ResidueMapCall plan d [] n z [] after r → (r ≡ 0) × (after ≡ [])
      map_no_rows after r told = (
        told.number ∙ map_none,
        answered_writes (map_refusal plan d [] n z 0) (residue_map plan n (map pos z) (index_list d [])) [] after r told (told.number ∙ map_none)
            ∙ ap (residue_map plan n (map pos z)) (no_rows d)
            ∙ no_rows-map plan n (map pos z),
      )

      pub spread_no_rows : (before after : List ℤ) (r : ℕ) → length before ≡ n → SpreadCall plan d [] n z [] before after r → (r ≡ 0) × (after ≡ replicate n (pos 0))
      spread_no_rows before after r room told = (
        told.answered.number ∙ spread_none (length before) room,
        answered_writes (spread_refusal plan d [] n z 0 (length before)) (spread_sums plan n (map pos z) (index_list d []) []) before after r told.answered
            (told.answered.number ∙ spread_none (length before) room)
            ∙ ap (λ (ks : List (List ℤ)). spread_sums plan n (map pos z) ks []) (no_rows d)
            ∙ no_rows_sums plan n (map pos z) [],
      )

      pub gather_no_rows : (sums after : List ℤ) (r : ℕ) → length sums ≡ n → GatherCall plan d [] n z sums [] after r → (r ≡ 0) × (after ≡ [])
      gather_no_rows sums after r room told = (
        told.number ∙ gather_none,
        answered_writes (gather_refusal plan d [] n z sums 0) (gathered_terms plan n (map pos z) (index_list d []) sums) [] after r told (told.number ∙ gather_none)
            ∙ ap (λ (ks : List (List ℤ)). gathered_terms plan n (map pos z) ks sums) (no_rows d)
            ∙ no_rows_terms plan n (map pos z) sums,
      )
        where
          gather_none : gather_refusal plan d [] n z sums 0 ≡ 0
          gather_none =
              gather_answers plan d [] n z sums 0 (spread_none (length sums) room)
              (ap (λ (ks : List (List ℤ)). every (gathers plan n (map pos z) sums) ks) (no_rows d))
