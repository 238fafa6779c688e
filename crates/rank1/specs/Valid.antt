-- Valid arguments in words: what holds where none of the conditions 1 to 7 of the refusal table applies. Private functions ask for
-- these; proofs/ValidLaws.antt has that they follow from the conditions.
use Rattle.std.specs.Prelude.{◌≡◌, ◌≢◌, true, ℕ, ◌*◌, ◌≤◌, ℤ, pos, negsuc, nat_abs, length, get_or}
use mathlib.Core.List.{List, [], ◌∷◌, Memᴰ}
use Rattle.rank1.specs.declared.Tally.{Tally}
use Rattle.rank1.specs.Index.{row_count, index_list}
use Rattle.rank1.specs.Search.{InRange}

-- no two members are equal
abbrev pub Distinct : {A : Type 0} → List A → Type 0
Distinct [] = Unit {0}
Distinct (x ∷ xs) = (Memᴰ x xs → ⊥) × Distinct xs

-- no component is negative
abbrev pub Nonnegative : List ℤ → Type 0
Nonnegative [] = Unit {0}
Nonnegative (pos a ∷ k) = Nonnegative k
Nonnegative (negsuc a ∷ k) = ⊥

-- a list: 1 to 6 axes, at most 512 rows of d components, each component in its range, all rows different
pub record ValidList (plan d : ℕ) (xs : List ℤ) : Type 0 where
  pub some_axes : 1 ≤ d
  pub few_axes : d ≤ 6
  pub whole : length xs ≡ row_count d xs * d
  pub few_rows : row_count d xs ≤ 512
  pub small : (i : ℕ) → nat_abs (get_or xs i (pos 0)) ≤ 255
  pub unsigned : 2 ≤ plan → (k : List ℤ) → Memᴰ k (index_list d xs) → Nonnegative k
  pub different : Distinct (index_list d xs)

-- a modulus from 1 to 8192
pub record ValidModulus (n : ℕ) : Type 0 where
  pub low : 1 ≤ n
  pub high : n ≤ 8192

-- a plan, a list and a pair n, z
pub record ValidCall (plan d : ℕ) (xs : List ℤ) (n : ℕ) (z : List ℕ) : Type 0 where
  pub plans : plan ≤ 4
  pub list : ValidList plan d xs
  pub modulus : ValidModulus n
  pub vector : InRange n d z

-- a record (02, b): at most 512 rows, a size of at most 64 for each, and some row where the zero row is in
pub record ValidTally (t : Tally) : Type 0 where
  pub few_rows : t.m ≤ 512
  pub small : t.size ≤ 64 * t.m
  pub some_row : t.zero ≡ true → t.m ≢ 0
