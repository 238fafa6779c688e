-- Writing rows one after the other: the numbers of the first i rows stand at the front. The first row of the corners' list is zero.
use mathlib.Core.Path.{◌≡◌, sym, ◌∙◌, ap, subst}
use mathlib.Core.List.{List, [], ◌++◌, append_assoc, Memᴰ}
use Prim.Native.Nat.{ℕ, ◌+◌, ◌*◌, ◌≤◌, ◌<◌}
use native.Mathlib.Nat.{suc-mul}
use native.Mathlib.Numerals.{add-one}
use native.Mathlib.Omega.{arith}
use lib.IntN.{ℤ, pos}
use lib.ListN.{length, get_or, take, drop, replicate, length-append}
use lib.Seq.{take_at, length-take-le}
use lib.Dec.{T}
use Rattle.rank1.specs.Index.{row_count, index_list, run_of, zero_row}
use Rattle.rank1.specs.Corners.{under, under_some}
use Rattle.rank1.proofs.IndexLaws.{row_in, part_length}
use Rattle.rank1.proofs.RunLaws.{run_more}
use Rattle.rank1.proofs.TestLaws.{of_some}
use Rattle.rank1.proofs.UnderLaws.{under-unsigned, under_zero}
use Rattle.lists.specs.Inner.{ValidCorners}

-- row i is written behind the i before it
pub fill_more : (ks : List (List ℤ)) (rows new row rest : List ℤ) (i d : ℕ) → i < length ks → get_or ks i [] ≡ row → length row ≡ d → i * d + d ≤ length rows → take (i * d) rows ≡ run_of (take i ks) → new ≡ take (i * d) rows ++ (row ++ rest) → take ((i + 1) * d) new ≡ run_of (take (i + 1) ks)
fill_more ks rows new row rest i d l at size fits so_far e =
    ap (take ((i + 1) * d)) (e ∙ sym (append_assoc (take (i * d) rows) row rest))
    ∙ take_at (take (i * d) rows ++ row) rest ((i + 1) * d) long
    ∙ ap (λ (r : List ℤ). r ++ row) so_far
    ∙ ap (λ (r : List ℤ). run_of (take i ks) ++ r) (sym at)
    ∙ sym (run_more ks i l)
    ∙ ap (λ (n : ℕ). run_of (take n ks)) (sym (add-one i))
  where
    long : length (take (i * d) rows ++ row) ≡ (i + 1) * d
    long =
        length-append (take (i * d) rows) row
        ∙ (let f : length (take (i * d) rows) ≡ i * d = length-take-le (i * d) rows (omega arith) in omega (arith, suc-mul i d, ap (λ (n : ℕ). n * d) (add-one i)))

-- the row of zeros is up to some corner
pub zero_within : (d : ℕ) (xs : List ℤ) → ValidCorners d xs → T (under_some (index_list d xs) (zero_row d))
zero_within d xs v =
    let c = take d (drop (0 * d) xs) in
    let m : Memᴰ c (index_list d xs) = row_in d (row_count d xs) xs 0 v.some_rows in
    of_some (under (zero_row d)) (index_list d xs) c m
    (subst (λ (n : ℕ). T (under (zero_row n) c)) (part_length d (row_count d xs) xs 0 v.some_rows (omega (arith, v.whole)))
    (under_zero c (under-unsigned c (replicate d (pos 255)) (v.small c m))))
