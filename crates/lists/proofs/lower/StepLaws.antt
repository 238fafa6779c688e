-- What a row of a run says of its list, by itself and among the others.
use mathlib.Core.Path.{◌≡◌, sym, ◌∙◌, ap, subst}
use mathlib.Core.Logic.{◌↔◌}
use mathlib.Core.List.{List, []}
use Prim.Native.Nat.{ℕ, ◌/◌, ◌<◌}
use native.Mathlib.Nat.{le-div_iff_mul-le}
use native.Mathlib.Omega.{arith}
use lib.IntN.{ℤ}
use lib.ListN.{length, get_or}
use Rattle.rank1.specs.Index.{index_list}
use Rattle.rank1.proofs.IndexLaws.{rows-length, row_at_lem, part_length}
use Rattle.lists.specs.Inner.{RowSteps}

module _ (d : ℕ) (some : 0 < d) where
  -- a row of the list allows it to be lower just where it does by itself, since it is as long as the others
  pub as_listed :
      (xs : List ℤ) (i : ℕ) → i < length (index_list d xs)
      → let k = get_or (index_list d xs) i [] in RowSteps (index_list (length k) xs) k ↔ RowSteps (index_list d xs) k
  as_listed xs i l = (subst Here long, subst Here (sym long))
    where
      m : ℕ
      m = length xs / d

      Here : ℕ → Type 0
      Here n = RowSteps (index_list n xs) (get_or (index_list d xs) i [])

      inside : i < m
      inside = omega (arith, rows-length d m xs)

      long : length (get_or (index_list d xs) i []) ≡ d
      long = ap length (row_at_lem d m xs i inside) ∙ part_length d m xs i inside ((le-div_iff_mul-le some).0 (omega arith))
