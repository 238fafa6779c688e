-- That a list is valid, and that a lattice is ready for its rows, has one proof at most, as the ghost field of a struct asks of its fact.
use Rattle.std.specs.Prelude.{ℕ, ℤ, pos, negsuc}
use Rattle.std.specs.Coded.{×_prop, Π_prop, Unit-prop, le_prop}
use mathlib.Core.HLevel.{⊥_prop}
use native.Mathlib.Nat.{ℕ_set}
use lib.IntN.{ℤ_set}
use mathlib.Core.List.{List, [], ◌∷◌}
use Rattle.rank1.specs.Index.{index_list}
use Rattle.rank1.specs.Valid.{Distinct, Nonnegative, ValidList}
use Rattle.planner.specs.Inner.{Ready}

pub Distinct-prop : {A : Type 0} (xs : List A) → IsProp (Distinct xs)
Distinct-prop [] = Unit-prop
Distinct-prop (x ∷ xs) = ×_prop (Π_prop λ _. ⊥_prop) (Distinct-prop xs)

pub Nonnegative-prop : (k : List ℤ) → IsProp (Nonnegative k)
Nonnegative-prop [] = Unit-prop
Nonnegative-prop (pos a ∷ k) = Nonnegative-prop k
Nonnegative-prop (negsuc a ∷ k) = ⊥_prop

pub ValidList-prop : (plan d : ℕ) (xs : List ℤ) → IsProp (ValidList plan d xs)
ValidList-prop plan d xs v w i = record {
  some_axes = le_prop v.some_axes w.some_axes i;
  few_axes = le_prop v.few_axes w.few_axes i;
  whole = ℕ_set _ _ v.whole w.whole i;
  few_rows = le_prop v.few_rows w.few_rows i;
  small = λ j. le_prop (v.small j) (w.small j) i;
  unsigned = λ h k m. Nonnegative-prop k (v.unsigned h k m) (w.unsigned h k m) i;
  different = Distinct-prop (index_list d xs) v.different w.different i;
}

pub Ready-prop : (d : ℕ) (xs : List ℤ) (n : ℕ) (z table : List ℕ) → IsProp (Ready d xs n z table)
Ready-prop d xs n z table v w i = record {
  modulus = record { low = le_prop v.modulus.low w.modulus.low i; high = le_prop v.modulus.high w.modulus.high i };
  short = le_prop v.short w.short i;
  ended = λ k m j l. ℤ_set _ _ (v.ended k m j l) (w.ended k m j l) i;
  prepared = record {
    covers = record {
      narrow = le_prop v.prepared.covers.narrow w.prepared.covers.narrow i;
      covered = λ e. le_prop (v.prepared.covers.covered e) (w.prepared.covers.covered e) i;
    };
    entry = λ j e x l b. ℕ_set _ _ (v.prepared.entry j e x l b) (w.prepared.entry j e x l b) i;
  };
}
