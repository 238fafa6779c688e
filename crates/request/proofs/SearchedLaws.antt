-- From the search to the answer (for answer_request): of the search's refusals 4, 5 and 6 are left; what the search answers, and
-- under plans 1 to 4 the map, is what is written.
use mathlib.Core.Path.{◌≡◌, refl, sym, ◌∙◌, ap, subst}
use mathlib.Core.Logic.{inl, inr, ◌≢◌}
use mathlib.Core.List.{List, [], ◌∷◌, ◌++◌, map}
use Prim.Native.Nat.{ℕ, zero, suc, ◌*◌, ◌%◌, ◌≤◌}
use native.Mathlib.Nat.{mul-mod_left}
use native.Mathlib.Omega.{arith}
use lib.IntN.{ℤ, pos}
use lib.ListN.{length, length-append}
use Rattle.rank1.specs.Index.{row_count, index_list}
use Rattle.rank1.specs.Rule.{Admissible}
use Rattle.rank1.specs.Search.{Smallest}
use Rattle.rank1.specs.Sums.{residue_map}
use Rattle.rank1.specs.Refusal.{first_of, bad_plan, bad_map_plan, bad_axes, bad_length, bad_component, equal_rows, bad_modulus, bad_places, inadmissible, list_conditions, pair_conditions, table_conditions, search_refusal, map_refusal}
use Rattle.rank1.proofs.RefusalLaws.{first_of-append, first_of_skip, first_of_none, first_of_none_append}
use Rattle.rank1.proofs.ValidLaws.{plan_clear, map_plan_clear, axes_clear, length_clear, modulus_clear, pair_none, places_clear, rule_clear}
use Rattle.std.specs.Prelude.{Result, Ok, Err}
use Rattle.rank1.specs.declared.Refusal.{Refusal}
use Rattle.rank1.specs.Named.{number, refused}
use Rattle.planner.specs.Answer.{ResidueMapCall, SmallestOrNone, SmallestSearch}
use Rattle.planner.specs.Answer as planner
use Rattle.planner.proofs.CallTheorems.{answered_writes}
use Rattle.request.specs.Text.{number_text}
use Rattle.request.specs.Reading.{request}
use Rattle.request.specs.Answer.{refusal_text, vector_text, map_text, plan_text, PlanOrNine, RefusalTextOr, request_refusal, Answers}
use Rattle.request.specs.Inner.{HeadIn}
use Rattle.request.proofs.AnswerLaws.{first_line_short}
use Rattle.request.proofs.RequestLaws.{rows-counted, three_none}

-- ---- the search's refusals
module _ (plan d m : ℕ) (xs : List ℤ) (head : HeadIn plan d m) (size : length xs ≡ m * d) where
  -- m rows
  request_rows : row_count d xs ≡ m
  request_rows = rows-counted d m xs head.axes.0 size

  -- 3 does not apply
  length_none : bad_length d xs ≡ 0
  length_none =
      (length_clear d xs).1 (ap (λ (k : ℕ). k % d) size ∙ mul-mod_left m d, omega (arith, request_rows, head.rows))

  -- of the others 4, 5 and 6 are left
  search_refusal_lem : (ceiling places : ℕ) → places ≡ d → search_refusal plan d xs ceiling places ≡ request_refusal plan d ceiling xs
  unfolding search_refusal
  search_refusal_lem ceiling places room =
      let three = bad_component plan xs ∷ equal_rows d xs ∷ bad_modulus ceiling ∷ [] in
      let four = three ++ (bad_places places d ∷ []) in
      first_of_skip (bad_plan plan) (bad_axes d ∷ bad_length d xs ∷ four) ((plan_clear plan).1 head.plans)
      ∙ first_of_skip (bad_axes d) (bad_length d xs ∷ four) ((axes_clear d).1 head.axes)
      ∙ first_of_skip (bad_length d xs) four length_none
      ∙ first_of-append three (bad_places places d ∷ [])
      ∙ ap (λ (k : ℕ). first_of (request_refusal plan d ceiling xs ∷ k ∷ [])) ((places_clear places d).1 room)
      ∙ last (request_refusal plan d ceiling xs)
    where
      last : (k : ℕ) → first_of (k ∷ 0 ∷ []) ≡ k
      last zero = refl
      last (suc k) = refl

-- ---- what the search answers
module _ (plan d ceiling : ℕ) (ks : List (List ℤ)) (before after : List ℕ) where
  -- a refusal's text answers: its number is that of the condition, or 9 where there is no plan
  refused_answers : (refusal : ℕ) (r : Result ℕ Refusal) (k : Refusal) → r ≡ Err k → planner.RefusedOr refusal before after r (SmallestOrNone (Admissible plan ks) d ceiling before after r) → RefusalTextOr refusal (refusal_text (refused r)) (PlanOrNine plan d ceiling ks (refusal_text (refused r)))
  refused_answers refusal (Ok n) k e p = absurd (let x : ◌≡◌ {A = ℕ} 0 1 = cc in omega arith)
  refused_answers zero (Err j) k e p = inr (p.2, ap (λ (k : Refusal). refusal_text (number k)) p.0)
  refused_answers (suc i) (Err j) k e p = ap refusal_text p.0

  -- a plan: no refusal, and it is the smallest
  found_smallest : (refusal : ℕ) (r : Result ℕ Refusal) (n : ℕ) → r ≡ Ok n → planner.RefusedOr refusal before after r (SmallestOrNone (Admissible plan ks) d ceiling before after r) → (refusal ≡ 0) × Smallest (Admissible plan ks) d ceiling n after
  found_smallest zero (Ok m) n e p = (refl, subst (λ (k : ℕ). Smallest (Admissible plan ks) d ceiling k after) (let f = e in cc) p)
  found_smallest (suc i) (Ok m) n e p = absurd (omega (arith, p.0))
  found_smallest refusal (Err k) n e p = absurd (let x : ◌≡◌ {A = ℕ} 0 1 = cc in omega arith)

-- the plan's text answers
pub plan_answers : (plan d ceiling : ℕ) (ks : List (List ℤ)) (after : List ℕ) (refusal n : ℕ) (a : List ℕ) → refusal ≡ 0 → Smallest (Admissible plan ks) d ceiling n after → a ≡ plan_text plan n after ks → RefusalTextOr refusal a (PlanOrNine plan d ceiling ks a)
plan_answers plan d ceiling ks after zero n a e s t = inl (record { modulus = n; vector = after; smallest = s; text = t })
plan_answers plan d ceiling ks after (suc i) n a e s t = absurd (omega arith)

-- with a map, except under plan 0
plan_bare : (plan n : ℕ) (z : List ℕ) (ks : List (List ℤ)) → plan ≡ 0 → number_text n ++ vector_text z ≡ plan_text plan n z ks
plan_bare plan n z ks e = ap (λ (p : ℕ). plan_text p n z ks) (sym e)

plan_mapped : (plan n : ℕ) (z : List ℕ) (ks : List (List ℤ)) → plan ≢ 0 → (number_text n ++ vector_text z) ++ map_text (residue_map plan n (map pos z) ks) ≡ plan_text plan n z ks
plan_mapped zero n z ks h = absurd (h refl)
plan_mapped (suc p) n z ks h = refl

-- ---- a search for a request
-- the answer to a request whose rows are given
abbrev pub AnswersFor : ℕ → ℕ → List ℤ → ℕ → List ℕ → Type 0
AnswersFor plan d xs ceiling = Answers (request plan d ceiling xs)

-- what it answered, and what it left in the lent places
pub record SearchedFor (plan d m : ℕ) (xs : List ℤ) (ceiling : ℕ) (after : List ℕ) (r : Result ℕ Refusal) : Type 0 where
  pub head : HeadIn plan d m
  pub size : length xs ≡ m * d
  pub before : List ℕ
  pub room : length before ≡ d
  pub told : SmallestSearch plan d xs ceiling before after r

module _ {plan d m : ℕ} {xs : List ℤ} {ceiling : ℕ} {after : List ℕ} {r : Result ℕ Refusal} (done : SearchedFor plan d m xs ceiling after r) where
  -- the refusals that are left
  searched : planner.RefusedOr (request_refusal plan d ceiling xs) done.before after r (SmallestOrNone (Admissible plan (index_list d xs)) d ceiling done.before after r)
  searched =
      subst (λ (k : ℕ). planner.RefusedOr k done.before after r (SmallestOrNone (Admissible plan (index_list d xs)) d ceiling done.before after r))
      (search_refusal_lem plan d m xs done.head done.size ceiling (length done.before) done.room) done.told

  -- a refusal
  pub refused_answered : (k : Refusal) (answer : List ℕ) → r ≡ Err k → answer ≡ refusal_text (number k) → AnswersFor plan d xs ceiling answer
  refused_answered k answer e g =
      subst (AnswersFor plan d xs ceiling) (ap refusal_text (ap refused e) ∙ sym g)
      (refused_answers plan d ceiling (index_list d xs) done.before after (request_refusal plan d ceiling xs) r k e searched)

  -- a plan was found
  module _ {n : ℕ} (found : r ≡ Ok n) where
    -- no refusal applies
    none : request_refusal plan d ceiling xs ≡ 0
    none = (found_smallest plan d ceiling (index_list d xs) done.before after (request_refusal plan d ceiling xs) r n found searched).0

    -- it is the smallest plan
    smallest : Smallest (Admissible plan (index_list d xs)) d ceiling n after
    smallest = (found_smallest plan d ceiling (index_list d xs) done.before after (request_refusal plan d ceiling xs) r n found searched).1

    -- 4, 5 and 6 one by one
    clear : (bad_component plan xs ≡ 0) × (equal_rows d xs ≡ 0) × (bad_modulus ceiling ≡ 0)
    clear = three_none (bad_component plan xs) (equal_rows d xs) (bad_modulus ceiling) none

    -- its modulus is at most 8192
    small : n ≤ 8192
    small = omega (arith, smallest.high, ((modulus_clear ceiling).0 clear.2).1)

    -- the plan's text is the answer
    plan_answered : (answer : List ℕ) → answer ≡ plan_text plan n after (index_list d xs) → AnswersFor plan d xs ceiling answer
    plan_answered answer e = plan_answers plan d ceiling (index_list d xs) after (request_refusal plan d ceiling xs) n answer none smallest e

    -- the first line takes at most 42 bytes
    pub first_line_end : (line : List ℕ) → line ≡ number_text n ++ vector_text after → length line ≤ 42
    first_line_end line e =
        omega (
          arith,
          ap length e,
          length-append (number_text n) (vector_text after),
          first_line_short n d after small done.head.axes.1 smallest.gentlest.ranged.size smallest.gentlest.ranged.below,
        )

    -- plan 0: the first line
    pub line_answered : (answer : List ℕ) → plan ≡ 0 → answer ≡ number_text n ++ vector_text after → AnswersFor plan d xs ceiling answer
    line_answered answer e f = plan_answered answer (f ∙ plan_bare plan n after (index_list d xs) e)

    -- plans 1 to 4
    module _ (mapped : plan ≢ 0) where
      -- the map is not refused
      map_none : (places : ℕ) → places ≡ 2 * m → map_refusal plan d xs n after places ≡ 0
      unfolding map_refusal
      map_none places e =
          let list = list_conditions plan d xs in
          let pair = pair_conditions d n after in
          let bad-room = bad_places places (2 * row_count d xs) in
          let rule = inadmissible plan (index_list d xs) n after in
          (first_of_none_append (table_conditions plan d xs n after) (bad-room ∷ rule ∷ [])).1 (
            (first_of_none (bad_map_plan plan) (list ++ pair)).1 (
              (map_plan_clear plan).1 (done.head.plans, mapped),
              (first_of_none_append list pair).1 (
                (first_of_none (bad_axes d) (bad_length d xs ∷ bad_component plan xs ∷ equal_rows d xs ∷ [])).1 (
                  (axes_clear d).1 done.head.axes,
                  (first_of_none (bad_length d xs) (bad_component plan xs ∷ equal_rows d xs ∷ [])).1 (
                    length_none plan d m xs done.head done.size,
                    (first_of_none (bad_component plan xs) (equal_rows d xs ∷ [])).1 (clear.0, (first_of_none (equal_rows d xs) []).1 (clear.1, refl)),
                  ),
                ),
                pair_none d n after (record { low = smallest.low; high = small }) smallest.gentlest.ranged,
              ),
            ),
            (first_of_none bad-room (rule ∷ [])).1 (
              (places_clear places (2 * row_count d xs)).1 (omega (arith, request_rows plan d m xs done.head done.size)),
              (first_of_none rule []).1 ((rule_clear plan (index_list d xs) n after).1 smallest.gentlest.admissible, refl),
            ),
          )

      -- so it is written
      pub map-written : (old pairs : List ℕ) (answer : ℕ) → length old ≡ 2 * m → ResidueMapCall plan d xs n after old pairs answer → pairs ≡ residue_map plan n (map pos after) (index_list d xs)
      map-written old pairs answer e t =
          answered_writes (map_refusal plan d xs n after (length old)) (residue_map plan n (map pos after) (index_list d xs)) old pairs answer t (t.number ∙ map_none (length old) e)

      -- the first line and the map
      pub map_answered : (pairs line answer : List ℕ) → pairs ≡ residue_map plan n (map pos after) (index_list d xs) → line ≡ number_text n ++ vector_text after → answer ≡ line ++ map_text pairs → AnswersFor plan d xs ceiling answer
      map_answered pairs line answer e f g =
          plan_answered answer
          (g
          ∙ ap (λ (t : List ℕ). t ++ map_text pairs) f
          ∙ ap (λ (t : List ℕ). (number_text n ++ vector_text after) ++ map_text t) e
          ∙ plan_mapped plan n after (index_list d xs) mapped)
