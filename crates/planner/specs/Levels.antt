-- The levels of a list: for each axis j the rows that are 0 from j on, in places of their own, and how many numbers they are. Nothing
-- here is in a public contract.
use Rattle.std.specs.Prelude.{◌≡◌, Bool, cond, List, [], ◌∷◌, ℕ, suc, ◌*◌, ◌<◌, ◌≤◌, ℤ, pos, length, get_or, take, drop}
use Rattle.rank1.specs.Tests.{every, same_number}
use Rattle.rank1.specs.Index.{row_count, index_list}
use Rattle.planner.specs.Sizes.{level_room}
use Rattle.planner.specs.Inner.{Covered}

-- every component from axis j on is 0
abbrev pub zero_from : ℕ → List ℤ → Bool
zero_from j k = every (same_number (pos 0)) (drop j k)

-- the rows that are 0 from axis j on
abbrev pub ending : ℕ → List (List ℤ) → List (List ℤ)
ending j [] = []
ending j (k ∷ ks) = cond (zero_from j k) (k ∷ ending j ks) (ending j ks)

-- the run of level j
abbrev pub level_run : List ℤ → List ℕ → ℕ → List ℤ
level_run levels sizes j = take (get_or sizes j 0) (drop (j * level_room) levels)

-- a run of rows that hold the list given
pub record RunOf (d : ℕ) (ks : List (List ℤ)) (xs : List ℤ) : Type 0 where
  pub rows : index_list d xs ≡ ks
  pub whole : length xs ≡ row_count d xs * d

-- r numbers at the front of `new` are the rows of xs that are 0 from axis j on; no component of `new` is larger than those of xs and of
-- `old`
pub record Kept (d j : ℕ) (xs old new : List ℤ) (r : ℕ) : Type 0 where
  pub level : RunOf d (ending j (index_list d xs)) (take r new)
  pub fits : r ≤ length xs
  pub covers : (top : ℕ) → Covered top xs → Covered top old → Covered top new

-- the levels before j hold the rows of xs that end by their axes
pub record LevelsTo (d top j : ℕ) (xs levels : List ℤ) (sizes : List ℕ) : Type 0 where
  pub covers : Covered top levels
  pub few : (i : ℕ) → i < j → get_or sizes i 0 ≤ level_room
  pub level : (i : ℕ) → i < j → RunOf d (ending i (index_list d xs)) (level_run levels sizes i)

-- all of them
abbrev pub Levels : ℕ → ℕ → List ℤ → List ℤ → List ℕ → Type 0
Levels d top xs levels sizes = LevelsTo d top (suc d) xs levels sizes
