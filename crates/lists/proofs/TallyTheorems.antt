-- What the promises of the three calls say together (document 02, b). A call has one outcome. A record that counting gave is the list's
-- recount and is never refused; every modulus below what it gives is hopeless; and adding a row is counting the longer list.
use mathlib.Core.Path.{◌≡◌, refl, sym, ◌∙◌, ap, subst}
use mathlib.Core.List.{List, [], ◌∷◌, ◌++◌}
use Prim.Native.Nat.{ℕ, zero, suc, ◌<◌, ◌≤◌}
use lib.IntN.{ℤ}
use lib.ListN.{length}
use Rattle.rank1.specs.declared.Tally.{Tally}
use Rattle.rank1.specs.Index.{index_list}
use Rattle.rank1.specs.Rule.{Admissible}
use Rattle.rank1.specs.Search.{Hopeless}
use Rattle.rank1.specs.Tally.{recount, least_modulus}
use Rattle.rank1.specs.Refusal.{first_of, bad_plan, bad_axes, bad_length, bad_component, equal_rows, other_tally, list_conditions, longer_conditions, tally_refusal, add_refusal, least_refusal}
use Rattle.rank1.specs.Valid.{ValidList}
use Rattle.rank1.proofs.RefusalLaws.{first_of_none, first_of_none_append}
use Rattle.rank1.proofs.ValidLaws.{plan_clear, row_clear, other_clear, valid_list}
use Rattle.rank1.proofs.BoundLaws.{valid_rows, bound_hopeless, bound_fits, bound_some}
use Rattle.std.specs.Prelude.{Result, Ok}
use mathlib.Core.Logic.{◌↔◌}
use Rattle.rank1.specs.declared.Refusal.{Refusal}
use Rattle.rank1.specs.Named.{Answers}
use Rattle.rank1.proofs.NamedLaws.{answers_same}
use Rattle.lists.specs.Answer.{TallyCall, AddCall, LeastCall}
use Rattle.lists.proofs.RecountLaws.{recount_kept}
use Rattle.lists.proofs.AnswerLaws.{tally_kept_is, modulus_is}

-- ---- one outcome
pub tally_determined : (plan d : ℕ) (xs : List ℤ) (r s : Result Tally Refusal) → TallyCall plan d xs r → TallyCall plan d xs s → r ≡ s
tally_determined plan d xs r s p q = answers_same (tally_refusal plan d xs) (recount plan d (index_list d xs)) r s p q

pub add_determined : (plan d : ℕ) (xs : List ℤ) (t : Tally) (row : List ℤ) (r s : Result Tally Refusal) → AddCall plan d xs t row r → AddCall plan d xs t row s → r ≡ s
add_determined plan d xs t row r s p q = answers_same (add_refusal plan d xs t row) (recount plan d (index_list d (xs ++ row))) r s p q

pub least_determined : (plan : ℕ) (t : Tally) (r s : Result ℕ Refusal) → LeastCall plan t r → LeastCall plan t s → r ≡ s
least_determined plan t r s p q = answers_same (least_refusal plan t) (least_modulus plan t) r s p q

-- ---- a record that counting gave
module _ (plan d : ℕ) (xs : List ℤ) (t : Tally) (kept : TallyCall plan d xs (Ok t)) where
  -- it is the recount
  pub kept_recount : t ≡ recount plan d (index_list d xs)
  kept_recount = (tally_kept_is plan d xs t kept).1

  -- of a valid list, under one of the plans
  pub kept_valid : (plan ≤ 4) × ValidList plan d xs
  unfolding tally_refusal
  kept_valid =
      let none = (first_of_none (bad_plan plan) (list_conditions plan d xs)).0 (tally_kept_is plan d xs t kept).0 in
      ((plan_clear plan).0 none.0, valid_list plan d xs none.1)

  -- the least modulus call does not refuse it
  pub kept_least : LeastCall plan t (Ok (least_modulus plan t))
  kept_least =
      let v = kept_valid in
      (ap (least_refusal plan) kept_recount ∙ recount_kept plan d xs v.1 v.0, refl)

  -- with what that call gives: it is a modulus, every smaller one fails with every vector of whole numbers, and one that does not fail is
  -- not smaller
  module _ (b : ℕ) (found : LeastCall plan t (Ok b)) where
    bound_is : b ≡ least_modulus plan (recount plan d (index_list d xs))
    bound_is = (modulus_is plan t b found).1 ∙ ap (least_modulus plan) kept_recount

    pub least_some : 1 ≤ b
    least_some = subst (λ (k : ℕ). 1 ≤ k) (sym bound_is) (bound_some plan d (index_list d xs) (valid_rows plan d xs kept_valid.1))

    pub below_hopeless : (n : ℕ) → 1 ≤ n → n < b → Hopeless (Admissible plan (index_list d xs)) d n
    below_hopeless n h l =
        bound_hopeless plan d (index_list d xs) n (valid_rows plan d xs kept_valid.1) h (subst (λ (k : ℕ). n < k) bound_is l)

    pub worth_trying : (n : ℕ) (z : List ℤ) → 1 ≤ n → Admissible plan (index_list d xs) n z → b ≤ n
    worth_trying n z h a =
        subst (λ (k : ℕ). k ≤ n) (sym bound_is) (bound_fits plan d (index_list d xs) n z (valid_rows plan d xs kept_valid.1) h a)

-- ---- one row more
-- a condition that does not apply is as none: behind the first two, and at the end
second_none : (a b : ℕ) (ks : List ℕ) → first_of (a ∷ b ∷ 0 ∷ ks) ≡ first_of (a ∷ b ∷ ks)
second_none zero zero ks = refl
second_none zero (suc b) ks = refl
second_none (suc a) b ks = refl

last_none : (ks : List ℕ) → first_of (ks ++ (0 ∷ [])) ≡ first_of ks
last_none [] = refl
last_none (zero ∷ ks) = last_none ks
last_none (suc k ∷ ks) = refl

module _ (plan d : ℕ) (xs row : List ℤ) (t : Tally) where
  longer : List ℕ
  longer = bad_length d (xs ++ row) ∷ bad_component plan (xs ++ row) ∷ equal_rows d (xs ++ row) ∷ []

  same_refusal : t ≡ recount plan d (index_list d xs) → length row ≡ d → add_refusal plan d xs t row ≡ tally_refusal plan d (xs ++ row)
  unfolding longer add_refusal tally_refusal
  same_refusal e long =
      ap (λ (k : ℕ). first_of (bad_plan plan ∷ longer_conditions plan d xs row ++ (k ∷ []))) ((other_clear t (recount plan d (index_list d xs))).1 e)
      ∙ last_none (bad_plan plan ∷ longer_conditions plan d xs row)
      ∙ ap (λ (k : ℕ). first_of (bad_plan plan ∷ bad_axes d ∷ k ∷ longer)) ((row_clear d row).1 long)
      ∙ second_none (bad_plan plan) (bad_axes d) longer

  -- with the list's own record and a row of d numbers, adding answers as counting the longer list does, refused or not
  pub add-counts : t ≡ recount plan d (index_list d xs) → length row ≡ d → (answer : Result Tally Refusal) → AddCall plan d xs t row answer ↔ TallyCall plan d (xs ++ row) answer
  add-counts e long answer =
      let told = λ (k : ℕ). Answers k (recount plan d (index_list d (xs ++ row))) answer in
      (subst told (same_refusal e long), subst told (sym (same_refusal e long)))

  -- a record that adding gave is the recount of the longer list, and the one handed in was that of the list
  pub added_recount : (u : Tally) → AddCall plan d xs t row (Ok u) → (u ≡ recount plan d (index_list d (xs ++ row))) × (t ≡ recount plan d (index_list d xs))
  unfolding add_refusal
  added_recount u kept =
      let last = (first_of_none_append (bad_plan plan ∷ longer_conditions plan d xs row) (other_tally t (recount plan d (index_list d xs)) ∷ [])).0 kept.0 in
      (kept.1, (other_clear t (recount plan d (index_list d xs))).0 ((first_of_none (other_tally t (recount plan d (index_list d xs))) []).0 last.1).0)
