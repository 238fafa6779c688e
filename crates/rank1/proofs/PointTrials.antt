-- The point list by numbers: the line that documents 01 and 02 read, whole lists, the lens count of each plan, and condition 8 by it.
use mathlib.Core.Path.{◌≡◌, refl}
use mathlib.Core.List.{List, [], ◌∷◌, map}
use Prim.Native.Nat.{ℕ}
use Rattle.rank1.specs.Points.{point_line, line_count, point_list}
use Rattle.rank1.specs.Refusal.{point_refusal}

-- ---- at n = 5, z = (1, 2)
abbrev vector : List ℕ
vector = 1 ∷ 2 ∷ []

-- line 3 is 3, 1 under plan 1; under plan A it is 4, 2, and it is read at line 2
pub line_three : (point_line 1 5 vector 3 ≡ 3 ∷ 1 ∷ []) × (point_line 2 5 vector 3 ≡ 4 ∷ 2 ∷ []) × (point_line 2 5 vector 2 ≡ 4 ∷ 2 ∷ [])
line_three = (refl, refl, refl)

-- the whole lists: five lines under plan 1, lines 0 to 2 of the tent under plan A
pub list_whole : point_list 1 5 vector ≡ 0 ∷ 0 ∷ 1 ∷ 2 ∷ 2 ∷ 4 ∷ 3 ∷ 1 ∷ 4 ∷ 3 ∷ []
list_whole = refl

pub list_half : point_list 2 5 vector ≡ 0 ∷ 0 ∷ 2 ∷ 4 ∷ 4 ∷ 2 ∷ []
list_half = refl

-- kept lines may be equal: at n = 4, z = (2) lines 0 and 2 are
pub kept_equal : point_list 2 4 (2 ∷ []) ≡ 0 ∷ 4 ∷ 0 ∷ []
kept_equal = refl

-- ---- the lens count under plans 0 to 4
abbrev counts : ℕ → List ℕ
counts n = map (λ plan. line_count plan n) (0 ∷ 1 ∷ 2 ∷ 3 ∷ 4 ∷ [])

-- n even: the middle line, n/2, is its own twin and is kept
pub even_counts : counts 6 ≡ 6 ∷ 6 ∷ 4 ∷ 4 ∷ 4 ∷ []
even_counts = refl

pub odd_counts : counts 5 ≡ 5 ∷ 5 ∷ 3 ∷ 3 ∷ 3 ∷ []
odd_counts = refl

-- the smallest moduli, where nothing is omitted, and the largest
pub end_counts : (counts 1 ≡ 1 ∷ 1 ∷ 1 ∷ 1 ∷ 1 ∷ []) × (counts 2 ≡ 2 ∷ 2 ∷ 2 ∷ 2 ∷ 2 ∷ []) × (counts 8192 ≡ 8192 ∷ 8192 ∷ 4097 ∷ 4097 ∷ 4097 ∷ [])
end_counts = (refl, refl, refl)

-- ---- condition 8 at n = 6 on one axis: plans 1 and A with 3, 4 and 6 places
pub places-counted :
    (point_refusal 1 1 6 (1 ∷ []) 3
    ∷ point_refusal 1 1 6 (1 ∷ []) 4
    ∷ point_refusal 1 1 6 (1 ∷ []) 6
    ∷ point_refusal 2 1 6 (1 ∷ []) 3
    ∷ point_refusal 2 1 6 (1 ∷ []) 4
    ∷ point_refusal 2 1 6 (1 ∷ []) 6
    ∷ [])
    ≡ 8 ∷ 8 ∷ 0 ∷ 8 ∷ 0 ∷ 8 ∷ []
unfolding point_refusal
places-counted = refl
