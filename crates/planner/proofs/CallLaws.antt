-- What the public calls share: arguments that no condition from 1 to 7 refuses are valid, a valid call with the products of z is
-- what the private functions ask for, and what an answer says of the lent places.
use mathlib.Core.Path.{◌≡◌, refl, sym, ◌∙◌, ap, subst}
use mathlib.Core.Logic.{◌≢◌}
use mathlib.Core.List.{List, ◌++◌}
use Prim.Native.Nat.{ℕ, zero, suc, ◌≤◌}
use native.Mathlib.Omega.{arith}
use lib.IntN.{ℤ, pos}
use lib.ListN.{length, get_or-eq_default}
use Rattle.rank1.specs.Named.{plan_number}
use Rattle.rank1.specs.Search.{InRange}
use Rattle.rank1.specs.Valid.{ValidList, ValidModulus, ValidCall}
use Rattle.rank1.specs.Refusal.{first_of, bad_plan, bad_map_plan, list_conditions, pair_conditions, table_conditions, check_refusal}
use Rattle.rank1.proofs.RefusalLaws.{first_of_none, first_of_none_append}
use Rattle.rank1.proofs.ValidLaws.{plan_clear, map_plan_clear, valid_list, valid_pair}
use Rattle.planner.specs.Answer.{written, Answered}
use Rattle.planner.specs.declared.list.Rows.{Rows}
use Rattle.planner.specs.declared.lattice.Lattice.{Lattice}
use Rattle.planner.specs.Lists.{Given}
use Rattle.planner.specs.Sizes.{largest_component}
use Rattle.planner.specs.Inner.{Products, Covered, Ready}
use Rattle.planner.proofs.RowLaws.{row_long}
use Rattle.planner.proofs.products.ProductLaws.{prepared_up_to}

-- ---- valid arguments
module _ (plan d : ℕ) (xs : List ℤ) (n : ℕ) (z : List ℕ) where
  -- past 2 to 7 they are a valid list, and a valid pair for it
  pub valid_list_pair : first_of (list_conditions plan d xs ++ pair_conditions d n z) ≡ 0 → ValidList plan d xs × (ValidModulus n × InRange n d z)
  valid_list_pair none =
      let parts = (first_of_none_append (list_conditions plan d xs) (pair_conditions d n z)).0 none in
      (valid_list plan d xs parts.0, valid_pair d n z parts.1)

  valid_rest : plan ≤ 4 → first_of (list_conditions plan d xs ++ pair_conditions d n z) ≡ 0 → ValidCall plan d xs n z
  valid_rest l none = let v = valid_list_pair none in record { plans = l; list = v.0; modulus = v.1.0; vector = v.1.1 }

  -- past the refusals of the check
  pub valid_check : check_refusal plan d xs n z ≡ 0 → ValidCall plan d xs n z
  unfolding check_refusal
  valid_check none =
      let parts = (first_of_none (bad_plan plan) (list_conditions plan d xs ++ pair_conditions d n z)).0 none in
      valid_rest ((plan_clear plan).0 parts.0) parts.1

  -- past those of map, spread and gather
  pub valid_table : first_of (table_conditions plan d xs n z) ≡ 0 → ValidCall plan d xs n z
  valid_table none =
      let parts = (first_of_none (bad_map_plan plan) (list_conditions plan d xs ++ pair_conditions d n z)).0 none in
      valid_rest ((map_plan_clear plan).0 parts.0).0 parts.1

-- ---- the whole vector: no row has a component past it
pub ready_whole :
    (rows : Rows) {n top : ℕ} {z table : List ℕ} → ValidModulus n → length z ≡ rows.d → Covered top rows.numbers.now → Products n z top table
    → Ready rows.d rows.numbers.now n z table
ready_whole rows {n} {top} {z} {table} modulus size covers products = record {
  modulus = modulus;
  short = omega (arith, size);
  ended = λ k m j l. get_or-eq_default k (pos 0) (omega (arith, size, row_long rows k m));
  prepared = prepared_up_to n top z rows.numbers.now table covers products;
}

-- ---- the rows that a call was given: what is so of them is so of the arguments
pub of_given : {plan d : ℕ} {xs : List ℤ} {rows : Rows} (P : ℕ → ℕ → List ℤ → Type 0) → Given plan d xs rows → P (plan_number rows.plan) rows.d rows.numbers.now → P plan d xs
of_given {plan} {d} {xs} {rows} P g p =
    subst (λ (a : ℕ). P a d xs) g.plans (subst (λ (a : ℕ). P (plan_number rows.plan) a xs) g.axes (subst (P (plan_number rows.plan) rows.d) g.numbers p))

-- and what is so of the lattice that was made of them, a modulus and a vector
pub of_arguments :
    {plan d n : ℕ} {xs : List ℤ} {z : List ℕ} {rows : Rows} (lattice : Lattice) (P : ℕ → ℕ → List ℤ → ℕ → List ℕ → Type 0) → Given plan d xs rows
    → (lattice.rows ≡ rows) × (lattice.n ≡ n) × (lattice.z.now ≡ z)
    → P (plan_number lattice.rows.plan) lattice.rows.d lattice.rows.numbers.now lattice.n lattice.z.now → P plan d xs n z
of_arguments {plan} {d} {n} {xs} {z} {rows} lattice P g made p =
    let own = subst (λ (r : Rows). P (plan_number r.plan) r.d r.numbers.now lattice.n lattice.z.now) made.0 p in
    subst (λ (a : ℕ). P plan d xs a z) made.1 (subst (P plan d xs lattice.n) made.2 (of_given (λ a b ys. P a b ys lattice.n lattice.z.now) g own))

-- ---- the components of a valid list, in document 01's range
pub covered_valid : (plan d : ℕ) (xs : List ℤ) → ValidList plan d xs → Covered largest_component xs
covered_valid plan d xs v = record { narrow = omega arith; covered = v.small }

-- ---- answers: r is the refusal's number as the code found it
module _ {A : Type 0} where
  -- what a lent place holds: what it held where the number is not 0, the result where it is
  pub written_kept : (refusal : ℕ) (result before : List A) → refusal ≢ 0 → written refusal result before ≡ before
  written_kept zero result before some = absurd (some refl)
  written_kept (suc k) result before some = refl

  pub written_result : (refusal : ℕ) (result before : List A) → refusal ≡ 0 → written refusal result before ≡ result
  written_result refusal result before e = ap (λ (k : ℕ). written k result before) e

  -- a refusal is the number, and the lent places stay
  pub refused : {refusal r : ℕ} {result before : List A} → r ≡ refusal → r ≢ 0 → Answered refusal result before before r
  refused {refusal} {r} {result} {before} e some = record {
    number = e;
    places = sym (written_kept refusal result before (λ none. some (e ∙ none)));
  }

  -- 0 is the answer where no condition applies, and the result is written
  pub given : {refusal r : ℕ} {result before after : List A} → r ≡ refusal → r ≡ 0 → after ≡ result → Answered refusal result before after 0
  given {refusal} {r} {result} {before} e none w = record {
    number = sym none ∙ e;
    places = w ∙ sym (written_result refusal result before (sym e ∙ none));
  }

  -- two outcomes on the same arguments are the same number and the same content
  pub determined : {refusal r r' : ℕ} {result before after after' : List A} → Answered refusal result before after r → Answered refusal result before after' r' → (r ≡ r') × (after ≡ after')
  determined a b = (a.number ∙ sym b.number, a.places ∙ sym b.places)
