-- Axes that can change places, and how they are marked. Nothing here is in a public contract.
use Rattle.std.specs.Prelude.{◌≡◌, Bool, true, false, List, ℕ, ◌+◌, ◌*◌, ◌<◌, ℤ, length, get_or}
use Rattle.rank1.specs.Axes.{Interchangeable}
use Rattle.planner.specs.Sizes.{axes}

-- the marks, one for each pair of axes: where axes i < j are marked, they are interchangeable in the list
pub record Swaps (d : ℕ) (ks : List (List ℤ)) (swaps : List Bool) : Type 0 where
  pub size : length swaps ≡ axes * axes
  pub known : (i j : ℕ) → i < j → j < d → get_or swaps (i * axes + j) false ≡ true → Interchangeable i j ks
