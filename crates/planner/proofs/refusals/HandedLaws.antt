-- What a call that is not refused was handed: valid arguments, lent places of the exact length, and the rule of the plan. At the
-- end: gathering is refused as spreading is and then by 11, and it reads the rows' sums alone.
use mathlib.Core.Path.{◌≡◌, refl, sym, ◌∙◌, ap}
use mathlib.Core.Bool.{Bool, true, not}
use mathlib.Core.List.{List, [], ◌∷◌, ◌++◌, map, Memᴰ}
use Prim.Native.Nat.{ℕ, zero, suc, ◌*◌, ◌≤◌}
use native.Mathlib.Omega.{arith}
use lib.IntN.{ℤ, pos}
use lib.ListN.{length, get_or}
use Rattle.rank1.specs.Tests.{every}
use Rattle.rank1.specs.Residue.{residue_at}
use Rattle.rank1.specs.Index.{row_count, index_list}
use Rattle.rank1.specs.Rule.{Admissible}
use Rattle.rank1.specs.Search.{InRange}
use Rattle.rank1.specs.Sums.{gathers}
use Rattle.rank1.specs.Points.{line_count}
use Rattle.rank1.specs.Valid.{ValidModulus, ValidCall}
use Rattle.rank1.specs.Refusal.{refuse, first_of, bad_plan, bad_map_plan, bad_axes, bad_places, inadmissible, ungatherable, list_conditions, pair_conditions, table_conditions, map_refusal, spread_refusal, gather_refusal, point_refusal}
use Rattle.rank1.proofs.RefusalLaws.{first_of-append, first_of_none, first_of_none_append}
use Rattle.rank1.proofs.ValidLaws.{plan_clear, map_plan_clear, axes_clear, valid_pair, places_clear, rule_clear, sums_clear}
use Rattle.rank1.proofs.GatherLaws.{reads_passes}
use Rattle.planner.proofs.CallLaws.{valid_table}

-- map: valid arguments, two places a row, and the rule
pub record MapHanded (plan d : ℕ) (xs : List ℤ) (n : ℕ) (z : List ℕ) (places : ℕ) : Type 0 where
  pub valid : ValidCall plan d xs n z
  pub room : places ≡ 2 * row_count d xs
  pub rule : Admissible plan (index_list d xs) n (map pos z)

-- spread: the same, of plans 1 to 4, with m terms and n sums
pub record SpreadHanded (plan d : ℕ) (xs : List ℤ) (n : ℕ) (z : List ℕ) (terms sums : ℕ) : Type 0 where
  pub mapped : 1 ≤ plan
  pub valid : ValidCall plan d xs n z
  pub term_room : terms ≡ row_count d xs
  pub sum_room : sums ≡ n
  pub rule : Admissible plan (index_list d xs) n (map pos z)

-- gather: the same, and every row passes
pub record GatherHanded (plan d : ℕ) (xs : List ℤ) (n : ℕ) (z : List ℕ) (sums : List ℤ) (terms : ℕ) : Type 0 where
  pub spread : SpreadHanded plan d xs n z terms (length sums)
  pub passes : every (gathers plan n (map pos z) sums) (index_list d xs) ≡ true

-- point list: a valid pair, and d places a line
pub record PointsHanded (plan d n : ℕ) (z : List ℕ) (places : ℕ) : Type 0 where
  pub plans : plan ≤ 4
  pub few_axes : d ≤ 6
  pub modulus : ValidModulus n
  pub vector : InRange n d z
  pub room : places ≡ line_count plan n * d

module _ (plan d : ℕ) (xs : List ℤ) (n : ℕ) (z : List ℕ) where
  -- ---- a call's conditions in the parts in which the code tests them
  pub map_parts : (places : ℕ) → map_refusal plan d xs n z places ≡ first_of (first_of (table_conditions plan d xs n z) ∷ bad_places places (2 * row_count d xs) ∷ inadmissible plan (index_list d xs) n z ∷ [])
  unfolding map_refusal
  map_parts places = first_of-append (table_conditions plan d xs n z) (bad_places places (2 * row_count d xs) ∷ inadmissible plan (index_list d xs) n z ∷ [])

  pub spread_parts : (terms sums : ℕ) → spread_refusal plan d xs n z terms sums ≡ first_of (first_of (table_conditions plan d xs n z) ∷ bad_places terms (row_count d xs) ∷ bad_places sums n ∷ inadmissible plan (index_list d xs) n z ∷ [])
  unfolding spread_refusal
  spread_parts terms sums =
      first_of-append (table_conditions plan d xs n z) (bad_places terms (row_count d xs) ∷ bad_places sums n ∷ inadmissible plan (index_list d xs) n z ∷ [])

  -- ---- a call that is not refused
  pub map_clear : (places : ℕ) → map_refusal plan d xs n z places ≡ 0 → MapHanded plan d xs n z places
  unfolding map_refusal
  map_clear places none =
      let room = bad_places places (2 * row_count d xs) in
      let rule = inadmissible plan (index_list d xs) n z in
      let parts = (first_of_none_append (table_conditions plan d xs n z) (room ∷ rule ∷ [])).0 none in
      let last = (first_of_none room (rule ∷ [])).0 parts.1 in
      record {
        valid = valid_table plan d xs n z parts.0;
        room = (places_clear places (2 * row_count d xs)).0 last.0;
        rule = (rule_clear plan (index_list d xs) n z).0 ((first_of_none rule []).0 last.1).0;
      }

  pub spread_clear : (terms sums : ℕ) → spread_refusal plan d xs n z terms sums ≡ 0 → SpreadHanded plan d xs n z terms sums
  unfolding spread_refusal
  spread_clear terms sums none =
      let room = bad_places terms (row_count d xs) in
      let sum_room = bad_places sums n in
      let rule = inadmissible plan (index_list d xs) n z in
      let parts = (first_of_none_append (table_conditions plan d xs n z) (room ∷ sum_room ∷ rule ∷ [])).0 none in
      let named = (first_of_none (bad_map_plan plan) (list_conditions plan d xs ++ pair_conditions d n z)).0 parts.0 in
      let places = (first_of_none room (sum_room ∷ rule ∷ [])).0 parts.1 in
      let last = (first_of_none sum_room (rule ∷ [])).0 places.1 in
      record {
        mapped = omega (arith, ((map_plan_clear plan).0 named.0).1);
        valid = valid_table plan d xs n z parts.0;
        term_room = (places_clear terms (row_count d xs)).0 places.0;
        sum_room = (places_clear sums n).0 last.0;
        rule = (rule_clear plan (index_list d xs) n z).0 ((first_of_none rule []).0 last.1).0;
      }

  -- gathering is refused as spreading is, and then by 11
  pub gather_as_spread : (sums : List ℤ) (terms : ℕ) → gather_refusal plan d xs n z sums terms ≡ first_of (spread_refusal plan d xs n z terms (length sums) ∷ ungatherable plan (index_list d xs) n z sums ∷ [])
  unfolding spread_refusal gather_refusal
  gather_as_spread sums terms =
      first_of-append (table_conditions plan d xs n z ++ (bad_places terms (row_count d xs) ∷ bad_places (length sums) n ∷ inadmissible plan (index_list d xs) n z ∷ [])) (ungatherable plan (index_list d xs) n z sums ∷ [])

  pub gather_clear : (sums : List ℤ) (terms : ℕ) → gather_refusal plan d xs n z sums terms ≡ 0 → GatherHanded plan d xs n z sums terms
  gather_clear sums terms none =
      let last = ungatherable plan (index_list d xs) n z sums in
      let parts = (first_of_none (spread_refusal plan d xs n z terms (length sums)) (last ∷ [])).0 (sym (gather_as_spread sums terms) ∙ none) in
      record {
        spread = spread_clear terms (length sums) parts.0;
        passes = (sums_clear plan (index_list d xs) n z sums).0 ((first_of_none last []).0 parts.1).0;
      }

  -- it is not refused where spreading is not and every row passes
  pub gather_answers : (sums : List ℤ) (terms : ℕ) → spread_refusal plan d xs n z terms (length sums) ≡ 0 → every (gathers plan n (map pos z) sums) (index_list d xs) ≡ true → gather_refusal plan d xs n z sums terms ≡ 0
  gather_answers sums terms none passes =
      let last = ungatherable plan (index_list d xs) n z sums in
      gather_as_spread sums terms
      ∙ (first_of_none (spread_refusal plan d xs n z terms (length sums)) (last ∷ [])).1 (none, (first_of_none last []).1 ((sums_clear plan (index_list d xs) n z sums).1 passes, refl))

  -- as many sums that agree at the residues of the rows are refused alike
  pub reads_number : (sums sums' : List ℤ) (terms : ℕ) → length sums ≡ length sums' → ((k : List ℤ) → Memᴰ k (index_list d xs) → get_or sums (residue_at n (map pos z) k) (pos 0) ≡ get_or sums' (residue_at n (map pos z) k) (pos 0)) → gather_refusal plan d xs n z sums terms ≡ gather_refusal plan d xs n z sums' terms
  reads_number sums sums' terms size same =
      gather_as_spread sums terms
      ∙ ap (λ (k : ℕ). first_of (spread_refusal plan d xs n z terms k ∷ ungatherable plan (index_list d xs) n z sums ∷ [])) size
      ∙ ap (λ (t : Bool). first_of (spread_refusal plan d xs n z terms (length sums') ∷ refuse 11 (not t) ∷ [])) (reads_passes plan n (map pos z) (index_list d xs) sums sums' same)
      ∙ sym (gather_as_spread sums' terms)

pub point_parts : (plan d n : ℕ) (z : List ℕ) (places : ℕ) → point_refusal plan d n z places ≡ first_of (bad_plan plan ∷ bad_axes d ∷ first_of (pair_conditions d n z) ∷ bad_places places (line_count plan n * d) ∷ [])
unfolding point_refusal
point_parts plan d n z places =
    let room = bad_places places (line_count plan n * d) in
    let all = pair_conditions d n z ++ (room ∷ []) in
    let parts = first_of (pair_conditions d n z) ∷ room ∷ [] in
    first_rest (bad_plan plan) (bad_axes d ∷ all) (bad_axes d ∷ parts)
    (first_rest (bad_axes d) all parts (first_of-append (pair_conditions d n z) (room ∷ [])))
  where
    first_rest : (k : ℕ) (ks ls : List ℕ) → first_of ks ≡ first_of ls → first_of (k ∷ ks) ≡ first_of (k ∷ ls)
    first_rest zero ks ls e = e
    first_rest (suc k) ks ls e = refl

pub point_clear : (plan d n : ℕ) (z : List ℕ) (places : ℕ) → point_refusal plan d n z places ≡ 0 → PointsHanded plan d n z places
unfolding point_refusal
point_clear plan d n z places none =
    let room = bad_places places (line_count plan n * d) in
    let pair = pair_conditions d n z in
    let named = (first_of_none (bad_plan plan) (bad_axes d ∷ pair ++ (room ∷ []))).0 none in
    let axes = (first_of_none (bad_axes d) (pair ++ (room ∷ []))).0 named.1 in
    let last = (first_of_none_append pair (room ∷ [])).0 axes.1 in
    let valid = valid_pair d n z last.0 in
    record {
      plans = (plan_clear plan).0 named.0;
      few_axes = ((axes_clear d).0 axes.0).1;
      modulus = valid.0;
      vector = valid.1;
      room = (places_clear places (line_count plan n * d)).0 ((first_of_none room []).0 last.1).0;
    }
