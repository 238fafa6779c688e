-- What the promises of `corner_list` and `is_lower` say (document 02, c), from the promises alone: a call has one outcome, and a refused one
-- leaves the lent run; the rows that are given are a lower list that passes refusals 2 to 5 of all five plans, with the rest of the run as
-- before; and a lower list has the rows of the list of its maximal rows, where these are 1 to 32, and of its own rows, where it has no more.
use mathlib.Core.Path.{◌≡◌, refl, sym, ◌∙◌, ap, subst}
use mathlib.Core.Logic.{◌↔◌, ◌≢◌, ⊎_elim}
use mathlib.Core.Bool.{Bool, true, false, true≢false}
use mathlib.Core.List.Memᴰ
use mathlib.Core.List.{List, [], ◌∷◌, ◌++◌, Memᴰ}
use Prim.Native.Nat.{ℕ, zero, suc, ◌*◌, ◌%◌, ◌≤◌}
use native.Mathlib.Nat.{div-add-mod'}
use native.Mathlib.Omega.{arith}
use lib.Dec.{T}
use lib.IntN.{ℤ, pos, negsuc}
use lib.ListN.{length, take, drop, replicate, length-replicate}
use lib.Seq.{take_at, drop_at}
use Rattle.rank1.specs.Index.{row_count, index_list, run_of}
use Rattle.rank1.specs.Corners.{under, under_some, Lower, Maximal}
use Rattle.rank1.specs.Valid.{Nonnegative}
use Rattle.rank1.specs.Refusal.{first_of, bad_axes, bad_whole, bad_component, bad_corners, bad_places, list_conditions, corner_conditions, corner_refusal, lower_refusal}
use Rattle.rank1.proofs.IndexLaws.{component_in, rows-length}
use Rattle.rank1.proofs.RefusalLaws.{first_of_none, first_of_none_append, first_of_skip}
use Rattle.rank1.proofs.ValidLaws.{Ranged, axes_clear, whole_clear, component_clear, corners_clear, places_clear, list-axes, list_length, list_components}
use Rattle.rank1.proofs.NoRows.{no_rows, no_rows_valid}
use Rattle.rank1.proofs.CornerTrials.{no_rows_lower}
use Rattle.rank1.proofs.RunLaws.{run_length, run-rows, run-passes, whole_out}
use Rattle.rank1.proofs.UnderLaws.{under-turn, under-length}
use Rattle.rank1.proofs.CornerLaws.{only_one, ascending_distinct}
use Rattle.rank1.proofs.LowerLaws.{corners_lower, lower_members, same_rows, maximal_members, fewer}
use Rattle.std.specs.Prelude.{Result, Ok, Err}
use Rattle.rank1.specs.declared.Refusal.{Refusal}
use Rattle.rank1.specs.Named.{number, refused, Answers}
use Rattle.rank1.proofs.NamedLaws.{number_some, number_same, answers_refused, answers_same, answers_kept}
use Rattle.lists.specs.Answer.{front_or, CornerCall, LowerCall}
use Rattle.lists.specs.Inner.{ValidCorners}
use Rattle.lists.proofs.CornerCalls.{valid_corners}
use Rattle.lists.proofs.corners.NextLaws.{some_small}

-- ---- one outcome
pub corner_determined : (d : ℕ) (xs before after after' : List ℤ) (answer answer' : Result ℕ Refusal) → CornerCall d xs before after answer → CornerCall d xs before after' answer' → (answer ≡ answer') × (after ≡ after')
corner_determined d xs before after after' answer answer' p q =
    let e = only_one (index_list d xs) p.list q.list p.is q.is in
    let number = λ (ks : List (List ℤ)). corner_refusal d xs (length ks) (length before) in (
      answers_same (number q.list) (length q.list) answer answer' (subst (λ (ks : List (List ℤ)). Answers (number ks) (length ks) answer) e p.fronted.number) q.fronted.number,
      p.fronted.places ∙ ap (λ (ks : List (List ℤ)). front_or (number ks) ks before) e ∙ sym q.fronted.places,
    )

pub lower_determined : (d : ℕ) (xs : List ℤ) (answer answer' : Result Bool Refusal) → LowerCall d xs answer → LowerCall d xs answer' → answer ≡ answer'
lower_determined d xs (Ok true) (Ok true) p q = refl
lower_determined d xs (Ok true) (Ok false) p q = absurd (q.1.no refl (p.1.yes refl))
lower_determined d xs (Ok false) (Ok true) p q = absurd (p.1.no refl (q.1.yes refl))
lower_determined d xs (Ok false) (Ok false) p q = refl
lower_determined d xs (Ok b) (Err f) p q = absurd (omega (arith, number_some f, p.0, q))
lower_determined d xs (Err e) (Ok b) p q = absurd (omega (arith, number_some e, q.0, p))
lower_determined d xs (Err e) (Err f) p q = ap Err (number_same e f (p ∙ sym q))

-- the list of no rows is lower
pub no_rows_answer : (d : ℕ) (answer : Result Bool Refusal) → 1 ≤ d → d ≤ 6 → LowerCall d [] answer → answer ≡ Ok true
unfolding lower_refusal
no_rows_answer d answer low high call =
    lower_determined d [] answer (Ok true) call
    (no_rows_valid 1 d low high, record { yes = λ e. subst Lower (sym (no_rows d)) no_rows_lower; no = λ e. absurd (true≢false e) })

-- ---- refused: by the first condition that applies, and the run is as it was
pub corner_refused : (d : ℕ) (xs before after : List ℤ) (e : Refusal) (call : CornerCall d xs before after (Err e)) → (number e ≡ corner_refusal d xs (length call.list) (length before)) × (corner_refusal d xs (length call.list) (length before) ≢ 0)
corner_refused d xs before after e call =
    let f : number e ≡ corner_refusal d xs (length call.list) (length before) = call.fronted.number in
    (f, λ o. omega (arith, number_some e, f, o))

module _ (d : ℕ) (xs before after : List ℤ) (answer : Result ℕ Refusal) (call : CornerCall d xs before after answer) where
  pub corner-number : refused answer ≡ corner_refusal d xs (length call.list) (length before)
  corner-number = answers_refused (corner_refusal d xs (length call.list) (length before)) (length call.list) answer call.fronted.number

  pub corner_kept : refused answer ≢ 0 → after ≡ before
  corner_kept some = go (corner_refusal d xs (length call.list) (length before)) corner-number call.fronted.places
    where
      go : (k : ℕ) → refused answer ≡ k → after ≡ front_or k call.list before → after ≡ before
      go zero e p = absurd (some e)
      go (suc k) e p = p

-- ---- rows up to corners of components from 0 to 255 have such components
row_ranged : (k : List ℤ) (d : ℕ) → T (under k (replicate d (pos 255))) → (x : ℤ) → Memᴰ x k → Ranged 2 x
row_ranged [] d t x m = absurd (Memᴰ.not-nil m)
row_ranged (y ∷ k) zero t x m = absurd t
row_ranged (pos a ∷ k) (suc d) t x m =
    let u = under-turn a k 255 (replicate d (pos 255)) t in
    ⊎_elim (λ e. subst (Ranged 2) (sym e) (u.0, λ l. tt)) (row_ranged k d u.1 x) (Memᴰ.cases_cons m)
row_ranged (negsuc a ∷ k) (suc d) t x m = absurd t

-- ---- given: m rows
-- what the front of the run then is: the list of the corners, lower, valid for every plan, and the rest as before
pub record Given (d : ℕ) (before after : List ℤ) (m : ℕ) (ks : List (List ℤ)) : Type 0 where
  pub count : m ≡ length ks
  pub rows : index_list d (take (m * d) after) ≡ ks
  pub lower : Lower ks
  pub passes : (plan : ℕ) → first_of (list_conditions plan d (take (m * d) after)) ≡ 0
  pub rest : drop (m * d) after ≡ drop (m * d) before

module _ (d : ℕ) (xs before after : List ℤ) (answer : Result ℕ Refusal) (call : CornerCall d xs before after answer) where
  abbrev ks : List (List ℤ)
  ks = call.list

  -- no condition applies: the corners are valid, and the list has at most 512 rows
  module _ (none : corner_refusal d xs (length ks) (length before) ≡ 0) where
    parts : (first_of (corner_conditions d xs) ≡ 0) × (first_of (bad_corners (row_count d xs) (length ks) ∷ bad_places (length before) (512 * d) ∷ []) ≡ 0)
    unfolding corner_refusal
    parts = (first_of_none_append (corner_conditions d xs) (bad_corners (row_count d xs) (length ks) ∷ bad_places (length before) (512 * d) ∷ [])).0 none

    counts : ((1 ≤ row_count d xs) × (row_count d xs ≤ 32)) × (length ks ≤ 512)
    counts = (corners_clear (row_count d xs) (length ks)).0 ((first_of_none (bad_corners (row_count d xs) (length ks)) (bad_places (length before) (512 * d) ∷ [])).0 parts.1).0

    valid : ValidCorners d xs
    valid = valid_corners d xs parts.0 counts.0.0

    -- a row of the list is up to a corner, and so up to 255 on every axis
    row_small : (k : List ℤ) → Memᴰ k ks → T (under k (replicate d (pos 255)))
    row_small k m = some_small (index_list d xs) d valid.small k ((call.is.members k).0 m)

    row_long : (k : List ℤ) → Memᴰ k ks → length k ≡ d
    row_long k m = under-length k (replicate d (pos 255)) (row_small k m) ∙ length-replicate d (pos 255)

    given_of : (m : ℕ) → m ≡ length ks → after ≡ run_of ks ++ drop (length (run_of ks)) before → Given d before after m ks
    given_of m e written = record {
      count = e;
      rows = ap (index_list d) front ∙ run-rows d ks valid.some_axes row_long;
      lower = corners_lower (index_list d xs) ks call.is;
      passes = λ plan. ap (λ (r : List ℤ). first_of (list_conditions plan d r)) front
          ∙ run-passes d ks valid.some_axes row_long valid.few_axes counts.1 (λ k n. row_ranged k d (row_small k n)) (ascending_distinct ks call.is.ascending) plan;
      rest = ap (drop (m * d)) written ∙ drop_at (run_of ks) (drop (length (run_of ks)) before) (m * d) size ∙ ap (λ (n : ℕ). drop n before) size;
    }
      where
        size : length (run_of ks) ≡ m * d
        size = run_length d ks row_long ∙ ap (λ (n : ℕ). n * d) (sym e)

        front : take (m * d) after ≡ run_of ks
        front = ap (take (m * d)) written ∙ take_at (run_of ks) (drop (length (run_of ks)) before) (m * d) size

  -- the answer by its number: with 0 there are rows
  pub corner_given : corner_refusal d xs (length ks) (length before) ≡ 0 → (answer ≡ Ok (length ks)) × Given d before after (length ks) ks
  corner_given none =
      (answers_kept (corner_refusal d xs (length ks) (length before)) (length ks) answer none call.fronted.number, given_of none (length ks) refl (call.fronted.places ∙ ap (λ (k : ℕ). front_or k ks before) none))

-- from the answer
pub corner-rows : (d : ℕ) (xs before after : List ℤ) (m : ℕ) (call : CornerCall d xs before after (Ok m)) → Given d before after m call.list
corner-rows d xs before after m call =
    let told = call.fronted.number in
    subst (λ (n : ℕ). Given d before after n call.list) (sym told.1) (corner_given d xs before after (Ok m) call told.0).1

-- ---- a lower list by corners of its own
-- ys is a run of 1 to 32 rows of a lower list xs up to one of which every row of it is
module _ (d : ℕ) (xs ys : List ℤ) (low : LowerCall d xs (Ok true)) (whole : length ys % d ≡ 0) (some : 1 ≤ row_count d ys) (few : row_count d ys ≤ 32) (listed : (c : List ℤ) → Memᴰ c (index_list d ys) → Memᴰ c (index_list d xs)) (is : (k : List ℤ) → Memᴰ k (index_list d xs) ↔ T (under_some (index_list d ys) k)) where
  conditions : first_of (list_conditions 1 d xs) ≡ 0
  unfolding lower_refusal
  conditions = low.0

  -- its corners pass 2 to 4
  in_range : (x : ℤ) → Memᴰ x ys → Ranged 2 x
  in_range =
      whole_out d ys (Ranged 2) (omega (arith, div-add-mod' (length ys) d, whole))
      (λ c m x n. ((list_components 1 d xs conditions x (component_in d (row_count d xs) xs c x (listed c m) n)).0, λ l. sign c x n ((low.1.yes refl).unsigned c (listed c m))))
    where
      sign : (c : List ℤ) (x : ℤ) → Memᴰ x c → Nonnegative c → Nonnegative (x ∷ [])
      sign [] x m n = absurd (Memᴰ.not-nil m)
      sign (pos a ∷ c) x m n = ⊎_elim (λ e. subst (λ (y : ℤ). Nonnegative (y ∷ [])) (sym e) tt) (λ m'. sign c x m' n) (Memᴰ.cases_cons m)
      sign (negsuc a ∷ c) x m n = absurd n

  corners_pass : first_of (corner_conditions d ys) ≡ 0
  corners_pass =
      first_of_skip (bad_axes d) (bad_whole d ys ∷ bad_component 2 ys ∷ []) ((axes_clear d).1 (list-axes 1 d xs conditions))
      ∙ first_of_skip (bad_whole d ys) (bad_component 2 ys ∷ []) ((whole_clear d ys).1 whole)
      ∙ first_of_skip (bad_component 2 ys) [] ((component_clear 2 ys).1 in_range)

  module _ (before after : List ℤ) (answer : Result ℕ Refusal) (room : length before ≡ 512 * d) (call : CornerCall d ys before after answer) where
    same : (k : List ℤ) → Memᴰ k call.list ↔ Memᴰ k (index_list d xs)
    same = same_rows (index_list d xs) (index_list d ys) call.list is call.is

    -- their list has no more rows than xs
    short : length call.list ≤ 512
    short =
        omega (arith, fewer call.list (index_list d xs) (ascending_distinct call.list call.is.ascending) (λ k m. (same k).0 m), rows-length d (row_count d xs) xs, (list_length 1 d xs conditions).1)

    none : corner_refusal d ys (length call.list) (length before) ≡ 0
    unfolding corner_refusal
    none =
        (first_of_none_append (corner_conditions d ys) (bad_corners (row_count d ys) (length call.list) ∷ bad_places (length before) (512 * d) ∷ [])).1 (
          corners_pass,
          first_of_skip (bad_corners (row_count d ys) (length call.list)) (bad_places (length before) (512 * d) ∷ []) ((corners_clear (row_count d ys) (length call.list)).1 ((some, few), short))
              ∙ first_of_skip (bad_places (length before) (512 * d)) [] ((places_clear (length before) (512 * d)).1 room),
        )

    -- the call gives a list with the rows of xs
    pub same_list : (answer ≡ Ok (length call.list)) × ((k : List ℤ) → Memᴰ k (index_list d (take (length call.list * d) after)) ↔ Memᴰ k (index_list d xs))
    same_list =
        let g = corner_given d ys before after answer call none in
        (g.0, subst (λ (ks : List (List ℤ)). (k : List ℤ) → Memᴰ k ks ↔ Memᴰ k (index_list d xs)) (sym g.1.rows) same)

-- by its maximal rows
pub maximal-list :
    (d : ℕ) (xs ys : List ℤ) → LowerCall d xs (Ok true) → length ys % d ≡ 0 → 1 ≤ row_count d ys → row_count d ys ≤ 32
    → ((c : List ℤ) → Memᴰ c (index_list d ys) ↔ Maximal (index_list d xs) c)
    → (before after : List ℤ) (answer : Result ℕ Refusal) → length before ≡ 512 * d → (call : CornerCall d ys before after answer)
    → (answer ≡ Ok (length call.list)) × ((k : List ℤ) → Memᴰ k (index_list d (take (length call.list * d) after)) ↔ Memᴰ k (index_list d xs))
maximal-list d xs ys low whole some few tops =
    same_list d xs ys low whole some few (λ c m. ((tops c).0 m).listed) (maximal_members (index_list d xs) (index_list d ys) (low.1.yes refl) tops)

-- and by all its rows
pub own-list :
    (d : ℕ) (xs : List ℤ) → LowerCall d xs (Ok true) → 1 ≤ row_count d xs → row_count d xs ≤ 32
    → (before after : List ℤ) (answer : Result ℕ Refusal) → length before ≡ 512 * d → (call : CornerCall d xs before after answer)
    → (answer ≡ Ok (length call.list)) × ((k : List ℤ) → Memᴰ k (index_list d (take (length call.list * d) after)) ↔ Memᴰ k (index_list d xs))
unfolding lower_refusal
own-list d xs low some few = same_list d xs xs low (list_length 1 d xs low.0).0 some few (λ c m. m) (lower_members (index_list d xs) (low.1.yes refl))
