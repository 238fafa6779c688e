-- Theorems of the exports, over their contracts alone: 0 is returned exactly where nothing is refused; a refused search leaves z and
-- the place for the modulus as they were, and refused calls about lists leave theirs; and a call has one outcome, refused or not.
use mathlib.Core.Path.{◌≡◌, refl, sym, ap, subst, ◌∙◌}
use mathlib.Core.Logic.{◌≢◌, ◌↔◌, ◌⊎◌, inl, inr, ⊎_elim}
use mathlib.Core.Bool.{Bool, true, false}
use mathlib.Core.List.{List}
use Prim.Native.Nat.{ℕ, zero, suc}
use native.Mathlib.Omega.{arith}
use lib.IntN.{ℤ}
use lib.ListN.{length}
use Rattle.std.specs.Prelude.{Result, Ok, Err}
use Rattle.rank1.specs.declared.Tally.{Tally}
use Rattle.rank1.specs.declared.Refusal.{Refusal}
use Rattle.rank1.specs.Named.{refused, Answers}
use Rattle.rank1.specs.Index.{index_list}
use Rattle.rank1.specs.Rule.{Admissible}
use Rattle.rank1.specs.Search.{Gentlest, Smallest}
use Rattle.rank1.specs.Tally.{zeros}
use Rattle.rank1.specs.Corners.{Lower}
use Rattle.rank1.specs.Winner.{LeftWins}
use Rattle.rank1.specs.Refusal.{check_refusal, search_refusal, lower_refusal}
use Rattle.rank1.proofs.NamedLaws.{number_some, answers_same, answers_refused}
use Rattle.rank1.proofs.WinnerLaws.{one_wins}
use Rattle.lists.specs.Answer.{CornerCall, LowerCall}
use Rattle.lists.proofs.CornerTheorems.{corner_determined, lower_determined, corner_kept}
use Rattle.planner.specs.Answer.{CheckCall, RefusedOr, VectorSearch, SmallestSearch}
use Rattle.planner.proofs.CallTheorems.{check_refused, check_one}
use Rattle.planner.proofs.SearchTheorems.{search_vector_determined, search_smallest_determined, search_vector_keeps, search_smallest_keeps}
use Rattle.exports.specs.declared.tally.PlannerTally.{PlannerTally}
use Rattle.exports.specs.Numbers.{Told, place_or, as_it_is, yes_or_no, places, numbers, WinnerTold}

-- ---- what is told
module _ {A B : Type 0} (told : A → B) {Promise : Result A Refusal → Type 0} (p p' : B) (r : ℕ) (x : Told told Promise p p' r) where
  -- with another number than 0 the place is as it was
  pub told_kept : r ≢ 0 → p' ≡ p
  told_kept some = go x.answer x.place (λ e. some (x.number ∙ e))
    where
      go : (answer : Result A Refusal) → p' ≡ place_or told p answer → refused answer ≢ 0 → p' ≡ p
      go (Ok y) place other = absurd (other refl)
      go (Err k) place other = place

  -- with 0 it holds what an answer that meets the promise found
  pub told_zero : r ≡ 0 → (y : A) × Promise (Ok y) × (p' ≡ told y)
  told_zero e = go x.answer x.meets x.place (sym x.number ∙ e)
    where
      go : (answer : Result A Refusal) → Promise answer → p' ≡ place_or told p answer → refused answer ≡ 0 → (y : A) × Promise (Ok y) × (p' ≡ told y)
      go (Ok y) meets place none = (y, meets, place)
      go (Err k) meets place none = absurd (omega (arith, number_some k, none))

-- one outcome: the number, what a lent run holds, and the place
module _ {A B C : Type 0} (told : A → B) {Promise Promise' : Result A Refusal → Type 0} (after after' : C) (p p' p'' : B) (r r' : ℕ) where
  pub told_determined : ((a a' : Result A Refusal) → Promise a → Promise' a' → (a ≡ a') × (after ≡ after')) → Told told Promise p p' r → Told told Promise' p p'' r' → (r ≡ r') × (after ≡ after') × (p' ≡ p'')
  told_determined one x y =
      let same = one x.answer y.answer x.meets y.meets in (
        x.number ∙ ap refused same.0 ∙ sym y.number,
        same.1,
        x.place ∙ ap (place_or told p) same.0 ∙ sym y.place,
      )

-- where what is promised is the refusal numbered k, or (0) v
module _ {A B : Type 0} (told : A → B) (k : ℕ) (v : A) (p : B) where
  -- the number of the condition that applies is returned
  pub answers_number : (p' : B) (r : ℕ) → Told told (Answers k v) p p' r → r ≡ k
  answers_number p' r x = x.number ∙ answers_refused k v x.answer x.meets

  -- 0 means that v is told
  pub answers_zero : (p' : B) (r : ℕ) → Told told (Answers k v) p p' r → r ≡ 0 → p' ≡ told v
  answers_zero p' r x e = let y = told_zero told p p' r x e in y.2 ∙ ap told y.1.1

  -- one outcome
  pub answers_determined : (p' p'' : B) (r r' : ℕ) → Told told (Answers k v) p p' r → Told told (Answers k v) p p'' r' → (r ≡ r') × (p' ≡ p'')
  answers_determined p' p'' r r' x y =
      let same = told_determined told k k p p' p'' r r' (λ a a' m m'. (answers_same k v a a' m m', refl)) x y in (same.0, same.2)

-- ---- the check
module _ (plan d : ℕ) (xs : List ℤ) (n : ℕ) (z : List ℕ) (p p' r : ℕ) (x : Told yes_or_no (CheckCall plan d xs n z) p p' r) where
  -- it returns the number of the condition that applies
  pub check_number : r ≡ check_refusal plan d xs n z
  check_number = x.number ∙ check_refused plan d xs n z x.answer x.meets

  -- two outcomes are the same number and the same content of the place
  pub check_determined : (p'' r' : ℕ) → Told yes_or_no (CheckCall plan d xs n z) p p'' r' → (r ≡ r') × (p' ≡ p'')
  check_determined p'' r' y =
      let same = told_determined yes_or_no xs xs p p' p'' r r' (λ a a' m m'. (check_one plan d xs n z a a' m m', refl)) x y in (same.0, same.2)

-- ---- the searches
-- one that found a plan was not refused
answered : (refusal : ℕ) (before after : List ℕ) (n : ℕ) {Found : Type 0} → RefusedOr refusal before after (Ok n) Found → Found
answered zero before after n a = a
answered (suc k) before after n a = absurd (omega (arith, a.0))

-- what a promise keeps with a refusal is kept with every other number than 0
refused_run : {A : Type 0} (Promise : Result A Refusal → Type 0) (before after : List ℕ) → ((k : Refusal) → Promise (Err k) → after ≡ before) → (answer : Result A Refusal) → Promise answer → refused answer ≢ 0 → after ≡ before
refused_run Promise before after keeps (Ok y) meets some = absurd (some refl)
refused_run Promise before after keeps (Err k) meets some = keeps k meets

module _ (plan d : ℕ) (xs : List ℤ) (n : ℕ) (before after : List ℕ) (p p' r : ℕ) where
  -- 0 of the vector search means the gentlest vector at n, with n in the place
  pub vector_at_zero : Told as_it_is (VectorSearch plan d xs n before after) p p' r → r ≡ 0 → (p' ≡ n) × Gentlest (Admissible plan (index_list d xs)) d n after
  vector_at_zero x e =
      let y = told_zero as_it_is p p' r x e in
      let found = answered (search_refusal plan d xs n (length before)) before after y.0 y.1 in
      (y.2 ∙ found.0, found.1)

  -- and 0 of the other the smallest plan up to the ceiling n, with its modulus in the place
  pub smallest_at_zero : Told as_it_is (SmallestSearch plan d xs n before after) p p' r → r ≡ 0 → Smallest (Admissible plan (index_list d xs)) d n p' after
  smallest_at_zero x e =
      let y = told_zero as_it_is p p' r x e in
      subst (λ m. Smallest (Admissible plan (index_list d xs)) d n m after) (sym y.2) (answered (search_refusal plan d xs n (length before)) before after y.0 y.1)

  -- another number: z and the place are as they were
  pub vector_kept : Told as_it_is (VectorSearch plan d xs n before after) p p' r → (r ≡ 0 → ⊥) → (after ≡ before) × (p' ≡ p)
  vector_kept x some = (refused_run (VectorSearch plan d xs n before after) before after (search_vector_keeps plan d xs n before after) x.answer x.meets (λ e. some (x.number ∙ e)), told_kept as_it_is p p' r x some)

  pub smallest_kept : Told as_it_is (SmallestSearch plan d xs n before after) p p' r → (r ≡ 0 → ⊥) → (after ≡ before) × (p' ≡ p)
  smallest_kept x some = (refused_run (SmallestSearch plan d xs n before after) before after (search_smallest_keeps plan d xs n before after) x.answer x.meets (λ e. some (x.number ∙ e)), told_kept as_it_is p p' r x some)

module _ (plan d : ℕ) (xs : List ℤ) (n : ℕ) (before after after' : List ℕ) (p p' p'' r r' : ℕ) where
  pub vector_told_determined : Told as_it_is (VectorSearch plan d xs n before after) p p' r → Told as_it_is (VectorSearch plan d xs n before after') p p'' r' → (r ≡ r') × (after ≡ after') × (p' ≡ p'')
  vector_told_determined = told_determined as_it_is after after' p p' p'' r r' (search_vector_determined plan d xs n before after after')

  pub smallest_told_determined : Told as_it_is (SmallestSearch plan d xs n before after) p p' r → Told as_it_is (SmallestSearch plan d xs n before after') p p'' r' → (r ≡ r') × (after ≡ after') × (p' ≡ p'')
  smallest_told_determined = told_determined as_it_is after after' p p' p'' r r' (search_smallest_determined plan d xs n before after after')

-- ---- the running tally: k is the number of the condition that applies, and t the record; a refused call leaves the places as they were, and
-- 0 means the record
module _ (k : ℕ) (t : Tally) (before after : PlannerTally) (r : ℕ) (x : Told numbers (Answers k t) before after r) where
  pub counted-number : r ≡ k
  counted-number = answers_number numbers k t before after r x

  pub tally_kept : r ≢ 0 → after ≡ before
  tally_kept = told_kept numbers before after r x

  pub tally_at_zero : r ≡ 0 → after ≡ places t.m t.size (zeros t.zero)
  tally_at_zero = answers_zero numbers k t before after r x

  -- one outcome: the number and the places
  pub counted_told_determined : (after' : PlannerTally) (r' : ℕ) → Told numbers (Answers k t) before after' r' → (r ≡ r') × (after ≡ after')
  counted_told_determined after' r' = answers_determined numbers k t before after after' r r' x

-- the same of the least modulus n
module _ (k n before after r : ℕ) (x : Told as_it_is (Answers k n) before after r) where
  pub least-number : r ≡ k
  least-number = answers_number as_it_is k n before after r x

  pub least_kept : r ≢ 0 → after ≡ before
  least_kept = told_kept as_it_is before after r x

  pub least_at_zero : r ≡ 0 → after ≡ n
  least_at_zero = answers_zero as_it_is k n before after r x

  pub least_told_determined : (after' r' : ℕ) → Told as_it_is (Answers k n) before after' r' → (r ≡ r') × (after ≡ after')
  least_told_determined after' r' = answers_determined as_it_is k n before after after' r r' x

-- ---- lists given by corners
-- 0 means that the front of the run holds the corners' list, with the number of its rows in the place
pub rows_at_zero : (d : ℕ) (xs before after : List ℤ) (p p' r : ℕ) → Told as_it_is (CornerCall d xs before after) p p' r → r ≡ 0 → CornerCall d xs before after (Ok p')
rows_at_zero d xs before after p p' r x e =
    let y = told_zero as_it_is p p' r x e in
    subst (λ (k : ℕ). CornerCall d xs before after (Ok k)) (sym y.2) y.1

-- another number leaves the run and the place as they were
pub rows_kept : (d : ℕ) (xs before after : List ℤ) (p p' r : ℕ) → Told as_it_is (CornerCall d xs before after) p p' r → r ≢ 0 → (after ≡ before) × (p' ≡ p)
rows_kept d xs before after p p' r x some =
    (corner_kept d xs before after x.answer x.meets (λ e. some (x.number ∙ e)), told_kept as_it_is p p' r x some)

-- 0 of the other call means yes or no, in the place
pub lower_at_zero : (d : ℕ) (xs : List ℤ) (p p' r : ℕ) → Told yes_or_no (LowerCall d xs) p p' r → r ≡ 0 → (lower_refusal d xs ≡ 0) × ((p' ≡ 1) ↔ Lower (index_list d xs)) × ((p' ≡ 0) ↔ (Lower (index_list d xs) → ⊥))
lower_at_zero d xs p p' r x e = let y = told_zero yes_or_no p p' r x e in go y.0 y.1 y.2
  where
    go : (b : Bool) → LowerCall d xs (Ok b) → p' ≡ yes_or_no b → (lower_refusal d xs ≡ 0) × ((p' ≡ 1) ↔ Lower (index_list d xs)) × ((p' ≡ 0) ↔ (Lower (index_list d xs) → ⊥))
    go true call place =
        let low = call.1.yes refl in
        (call.0, ((λ f. low), (λ l. place)), ((λ f. absurd (omega (arith, place, f))), (λ no. absurd (no low))))
    go false call place =
        let no = call.1.no refl in
        (call.0, ((λ f. absurd (omega (arith, place, f))), (λ low. absurd (no low))), ((λ f. no), (λ n. place)))

pub lower_kept : (d : ℕ) (xs : List ℤ) (p p' r : ℕ) → Told yes_or_no (LowerCall d xs) p p' r → r ≢ 0 → p' ≡ p
lower_kept d xs p p' r = told_kept yes_or_no p p' r

-- one outcome: the number, the run and the place
pub rows_told_determined : (d : ℕ) (xs before after after' : List ℤ) (p p' p'' r r' : ℕ) → Told as_it_is (CornerCall d xs before after) p p' r → Told as_it_is (CornerCall d xs before after') p p'' r' → (r ≡ r') × (after ≡ after') × (p' ≡ p'')
rows_told_determined d xs before after after' p p' p'' r r' = told_determined as_it_is after after' p p' p'' r r' (corner_determined d xs before after after')

pub lower_told_determined : (d : ℕ) (xs : List ℤ) (p p' p'' r r' : ℕ) → Told yes_or_no (LowerCall d xs) p p' r → Told yes_or_no (LowerCall d xs) p p'' r' → (r ≡ r') × (p' ≡ p'')
lower_told_determined d xs p p' p'' r r' x y =
    let same = told_determined yes_or_no xs xs p p' p'' r r' (λ a a' m m'. (lower_determined d xs a a' m m', refl)) x y in
    (same.0, same.2)

-- ---- the gentler of two vectors: 0 or 1, and one of them only
pub winner_determined : (left right : List ℕ) (r r' : ℕ) → WinnerTold left right r → WinnerTold left right r' → r ≡ r'
winner_determined left right r r' p q =
    ⊎_elim (λ w. p.left_wins w ∙ sym (q.left_wins w)) (λ w. p.right_wins w ∙ sym (q.right_wins w)) (one_wins left right)

-- 0 says that the left one wins, and 1 that the right one does
pub winner_is : (left right : List ℕ) (r : ℕ) → WinnerTold left right r → ((r ≡ 0) ↔ LeftWins left right) × ((r ≡ 1) ↔ (LeftWins left right → ⊥))
winner_is left right r p = (((λ e. at_zero e (one_wins left right)), p.left_wins), ((λ e w. omega (arith, p.left_wins w)), p.right_wins))
  where
    at_zero : r ≡ 0 → LeftWins left right ⊎ (LeftWins left right → ⊥) → LeftWins left right
    at_zero e (inl w) = w
    at_zero e (inr w) = absurd (omega (arith, p.right_wins w))
