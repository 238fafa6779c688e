-- What private functions ask and say: a list counted row by row, and a row more; the rows up to some corner, one after the other; and
-- whether a list is lower, by components one lower. Nothing here is in a public contract.
use Rattle.std.specs.Prelude.{◌≡◌, ◌⊎◌, Option, None, Some, Bool, true, false, ◌||◌, ℕ, zero, suc, ◌+◌, ◌-◌, ◌*◌, ◌≤◌, ◌<◌, T, ℤ, pos, negsuc, ◌+ℤ◌, length, get_or, take, set, replicate}
use mathlib.Core.List.{List, [], ◌∷◌, Memᴰ}
use Rattle.rank1.specs.declared.Tally.{Tally}
use Rattle.rank1.specs.Tests.{any, same_row}
use Rattle.rank1.specs.Index.{row_count, index_list, run_of, zero_row}
use Rattle.rank1.specs.Sums.{mirrors_under}
use Rattle.rank1.specs.Tally.{zero_in}
use Rattle.rank1.specs.Corners.{under, under_some, Earlier, CornerList}
use Rattle.lists.specs.Rows.{most_axes, most_mirrors, most_rows}

-- how many mirrors the rows have together, each row 1 for plans 0 and 1
abbrev pub members : ℕ → List (List ℤ) → ℕ
members plan [] = 0
members plan (k ∷ ks) = length (mirrors_under plan k) + members plan ks

-- the record with the sum over the rows in place of the size of M
abbrev pub summed : ℕ → ℕ → List (List ℤ) → Tally
summed plan d ks = record { m = length ks; size = members plan ks; zero = zero_in d ks }

-- the record with one row more
abbrev pub more : ℕ → ℕ → Tally → List ℤ → Tally
more plan d t k = record { m = t.m + 1; size = t.size + length (mirrors_under plan k); zero = t.zero || same_row (zero_row d) k }

-- the rows of a run can be counted
pub record Countable (d : ℕ) (xs : List ℤ) : Type 0 where
  pub some_axes : 1 ≤ d
  pub few_axes : d ≤ most_axes
  pub few_rows : row_count d xs ≤ 512

-- a row can be added to a record
pub record Addable (t : Tally) (k : List ℤ) : Type 0 where
  pub short : length k ≤ most_axes
  pub few_rows : t.m ≤ 512
  pub small : t.size ≤ most_mirrors * t.m

-- ---- the rows up to some corner (02, c)
-- one more, and one less down to 0
abbrev pub up : ℤ → ℤ
up x = x +ℤ pos 1

abbrev pub down : ℤ → ℤ
down (pos a) = pos (a - 1)
down (negsuc a) = pos 0

-- corners as the loops take them: 1 to 6 axes, whole rows, one at least, each component from 0 to 255
pub record ValidCorners (d : ℕ) (xs : List ℤ) : Type 0 where
  pub some_axes : 1 ≤ d
  pub few_axes : d ≤ most_axes
  pub whole : length xs ≡ row_count d xs * d
  pub some_rows : 1 ≤ row_count d xs
  pub small : (c : List ℤ) → Memᴰ c (index_list d xs) → T (under c (replicate d (pos 255)))

-- what looking for the next row asks: valid corners, and a row up to some of them
pub record Raisable (xs row : List ℤ) : Type 0 where
  pub valid : ValidCorners (length row) xs
  pub within : T (under_some (index_list (length row) xs) row)

-- r is the first row after k that is up to some corner
pub record NextRow (cs : List (List ℤ)) (k r : List ℤ) : Type 0 where
  pub within : T (under_some cs r)
  pub later : Earlier k r
  pub first : (h : List ℤ) → T (under_some cs h) → Earlier k h → (r ≡ h) ⊎ Earlier r h

-- no row after k is up to some corner
abbrev pub LastRow : List (List ℤ) → List ℤ → Type 0
LastRow cs k = (h : List ℤ) → T (under_some cs h) → Earlier k h → ⊥

-- what looking for the next row gives: it stands where k stood, or there is none
pub record Stepped (cs : List (List ℤ)) (k after : List ℤ) (answer : Bool) : Type 0 where
  pub more : answer ≡ true → NextRow cs k after
  pub none : answer ≡ false → LastRow cs k

-- what writing the rows ks gives: their number, at most 512, with all of them at the front; or that there are more
abbrev pub Written : ℕ → List (List ℤ) → List ℤ → Option ℕ → Type 0
Written d ks after (Some m) = (m ≡ length ks) × (m ≤ most_rows) × (take (m * d) after ≡ run_of ks)
Written d ks after None = most_rows < length ks

-- so for the corners' list
pub record Filled (d : ℕ) (cs : List (List ℤ)) (after : List ℤ) (answer : Option ℕ) : Type 0 where
  pub list : List (List ℤ)
  pub is : CornerList cs list
  pub written : Written d list after answer

-- ---- lower lists, by steps (02, c)
-- component j of the row k is x: it is not negative and, if it is not 0, k with it one lower is in the list
abbrev pub steps : List (List ℤ) → List ℤ → ℕ → ℤ → Bool
steps ks k j (pos zero) = true
steps ks k j (pos (suc a)) = any (same_row (set k j (pos a))) ks
steps ks k j (negsuc a) = false

-- so for every component of a row
abbrev pub RowSteps : List (List ℤ) → List ℤ → Type 0
RowSteps ks k = (j : ℕ) → j < length k → steps ks k j (get_or k j (pos 0)) ≡ true

-- and for every row
abbrev pub ListSteps : List (List ℤ) → Type 0
ListSteps ks = (i : ℕ) → i < length ks → RowSteps ks (get_or ks i [])
