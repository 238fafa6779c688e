-- Lists given by corners on examples (document 02, c): lists of some corners, lists that are lower and that are not, and what the two calls
-- refuse. Each line of an order has arguments to which two conditions that stand next to each other both apply, and gives the number of
-- the first.
use mathlib.Core.Path.{◌≡◌, refl, subst}
use mathlib.Core.List.Memᴰ
use mathlib.Core.List.{List, [], ◌∷◌, map, Memᴰ}
use Prim.Native.Nat.{ℕ}
use lib.Dec.{T}
use lib.IntN.{ℤ, pos, negsuc}
use lib.ListN.{replicate}
use Rattle.rank1.specs.Tests.{any, same_row}
use Rattle.rank1.specs.Index.{index_list}
use Rattle.rank1.specs.Corners.{CornerList, Lower}
use Rattle.rank1.specs.Refusal.{corner_refusal, lower_refusal}
use Rattle.rank1.proofs.TestLaws.{decides_among}
use Rattle.rank1.proofs.CornerLaws.{corner_rows, run_corners}

-- a run without signs
abbrev run : List ℕ → List ℤ
run = map pos

-- a list that is computed to be that of the corners
is_list : (d : ℕ) (corners : List ℤ) (ks : List (List ℤ)) → corner_rows d (index_list d corners) ≡ ks → CornerList (index_list d corners) ks
is_list d corners ks e = subst (CornerList (index_list d corners)) e (run_corners d corners)

-- ---- lists of some corners
-- total degree 2 on two axes: corners (2, 0), (1, 1), (0, 2)
pub total_degree : CornerList (index_list 2 (run (2 ∷ 0 ∷ 1 ∷ 1 ∷ 0 ∷ 2 ∷ []))) (index_list 2 (run (0 ∷ 0 ∷ 0 ∷ 1 ∷ 0 ∷ 2 ∷ 1 ∷ 0 ∷ 1 ∷ 1 ∷ 2 ∷ 0 ∷ [])))
unfolding corner_rows
total_degree = is_list 2 (run (2 ∷ 0 ∷ 1 ∷ 1 ∷ 0 ∷ 2 ∷ [])) (index_list 2 (run (0 ∷ 0 ∷ 0 ∷ 1 ∷ 0 ∷ 2 ∷ 1 ∷ 0 ∷ 1 ∷ 1 ∷ 2 ∷ 0 ∷ []))) refl

-- a mixed one, with a corner twice and one below another: (1, 2), (3, 0), (1, 2), (1, 1)
pub mixed : CornerList (index_list 2 (run (1 ∷ 2 ∷ 3 ∷ 0 ∷ 1 ∷ 2 ∷ 1 ∷ 1 ∷ []))) (index_list 2 (run (0 ∷ 0 ∷ 0 ∷ 1 ∷ 0 ∷ 2 ∷ 1 ∷ 0 ∷ 1 ∷ 1 ∷ 1 ∷ 2 ∷ 2 ∷ 0 ∷ 3 ∷ 0 ∷ [])))
unfolding corner_rows
mixed =
    is_list 2 (run (1 ∷ 2 ∷ 3 ∷ 0 ∷ 1 ∷ 2 ∷ 1 ∷ 1 ∷ []))
    (index_list 2 (run (0 ∷ 0 ∷ 0 ∷ 1 ∷ 0 ∷ 2 ∷ 1 ∷ 0 ∷ 1 ∷ 1 ∷ 1 ∷ 2 ∷ 2 ∷ 0 ∷ 3 ∷ 0 ∷ []))) refl

-- the zero row alone
pub zero_alone : CornerList (index_list 3 (run (0 ∷ 0 ∷ 0 ∷ []))) (index_list 3 (run (0 ∷ 0 ∷ 0 ∷ [])))
unfolding corner_rows
zero_alone = is_list 3 (run (0 ∷ 0 ∷ 0 ∷ [])) (index_list 3 (run (0 ∷ 0 ∷ 0 ∷ []))) refl

-- ---- lower lists
-- the list of no rows is lower
pub no_rows_lower : Lower []
no_rows_lower = record { unsigned = λ k m. absurd (Memᴰ.not-nil m); closed = λ h k m. absurd (Memᴰ.not-nil m) }

-- a row is not in a list where the test says so
absent : (k : List ℤ) (ks : List (List ℤ)) → Memᴰ k ks → T (any (same_row k) ks)
absent k ks = (decides_among k ks).1

-- 0 and 2 without 1; (0, 0) and (0, 1), (1, 1) without (1, 0), which lacks only the other axis; a negative component
pub hole : Lower (index_list 1 (run (0 ∷ 2 ∷ []))) → ⊥
hole low = absent (run (1 ∷ [])) (index_list 1 (run (0 ∷ 2 ∷ []))) (low.closed (run (1 ∷ [])) (run (2 ∷ [])) (Memᴰ.tail (Memᴰ.head refl)) tt)

pub other_axis_lem : Lower (index_list 2 (run (0 ∷ 0 ∷ 0 ∷ 1 ∷ 1 ∷ 1 ∷ []))) → ⊥
other_axis_lem low =
    absent (run (1 ∷ 0 ∷ [])) (index_list 2 (run (0 ∷ 0 ∷ 0 ∷ 1 ∷ 1 ∷ 1 ∷ [])))
    (low.closed (run (1 ∷ 0 ∷ [])) (run (1 ∷ 1 ∷ [])) (Memᴰ.tail (Memᴰ.tail (Memᴰ.head refl))) tt)

pub negative : Lower (index_list 1 (pos 0 ∷ negsuc 0 ∷ [])) → ⊥
negative low = low.unsigned (negsuc 0 ∷ []) (Memᴰ.tail (Memᴰ.head refl))

-- ---- what the calls refuse
-- the list of corners: 2 and 3, 3 and 4, 4 (too large, negative) and 13, 13 (the number of corners, of rows) and 8; 8; none, at the borders
pub corner-order :
    (corner_refusal 7 (run (0 ∷ [])) 1 0
    ∷ corner_refusal 2 (run (256 ∷ 0 ∷ 0 ∷ [])) 1 0
    ∷ corner_refusal 1 (run (256 ∷ [])) 513 0
    ∷ corner_refusal 1 (negsuc 0 ∷ []) 513 0
    ∷ corner_refusal 1 [] 0 0
    ∷ corner_refusal 1 (replicate 33 (pos 255)) 256 0
    ∷ corner_refusal 2 (run (255 ∷ 2 ∷ [])) 513 0
    ∷ corner_refusal 2 (run (255 ∷ 1 ∷ [])) 512 1023
    ∷ corner_refusal 2 (run (255 ∷ 1 ∷ [])) 512 1024
    ∷ corner_refusal 1 (replicate 32 (pos 255)) 256 512
    ∷ [])
    ≡ 2 ∷ 3 ∷ 4 ∷ 4 ∷ 13 ∷ 13 ∷ 13 ∷ 8 ∷ 0 ∷ 0 ∷ []
unfolding corner_refusal
corner-order = refl

-- whether a list is lower: 2 and 3, 3 and 4, 4 and 5; 5; none, with a negative component and without rows
pub lower-order :
    (lower_refusal 0 (run (0 ∷ []))
    ∷ lower_refusal 2 (run (256 ∷ 0 ∷ 0 ∷ []))
    ∷ lower_refusal 1 (run (256 ∷ 256 ∷ []))
    ∷ lower_refusal 1 (run (3 ∷ 3 ∷ []))
    ∷ lower_refusal 1 (pos 0 ∷ negsuc 254 ∷ [])
    ∷ lower_refusal 1 (pos 0 ∷ negsuc 255 ∷ [])
    ∷ lower_refusal 1 []
    ∷ [])
    ≡ 2 ∷ 3 ∷ 4 ∷ 5 ∷ 0 ∷ 4 ∷ 0 ∷ []
unfolding lower_refusal
lower-order = refl
