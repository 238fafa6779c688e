-- Index lists (document 01, "Lists and vectors"): the rows of a run of numbers, their mirrors, and M.
use Rattle.std.specs.Prelude.{List, [], ◌∷◌, ◌++◌, map, ℕ, zero, suc, ◌/◌, ℤ, pos, negsuc, length, take, drop, replicate}

-- the first m rows, of d components each, of a run of numbers
abbrev pub rows_of : ℕ → ℕ → List ℤ → List (List ℤ)
rows_of d zero xs = []
rows_of d (suc m) xs = take d xs ∷ rows_of d m (drop d xs)

-- m: how many rows of d components a run has
abbrev pub row_count : ℕ → List ℤ → ℕ
row_count d xs = length xs / d

-- the list: all rows of a run of m × d numbers
abbrev pub index_list : ℕ → List ℤ → List (List ℤ)
index_list d xs = rows_of d (row_count d xs) xs

-- the run of some rows, one after the other
abbrev pub run_of : List (List ℤ) → List ℤ
run_of [] = []
run_of (k ∷ ks) = k ++ run_of ks

-- the row of d zeros
abbrev pub zero_row : ℕ → List ℤ
zero_row d = replicate d (pos 0)

-- a component with its own sign, and with the other one; 0 has no other
abbrev pub signs : ℤ → List ℤ
signs (pos zero) = pos 0 ∷ []
signs (pos (suc a)) = pos (suc a) ∷ negsuc a ∷ []
signs (negsuc a) = negsuc a ∷ pos (suc a) ∷ []

-- each of the heads before each of the rests
abbrev pub headed : {A : Type 0} → List A → List (List A) → List (List A)
headed [] ss = []
headed (x ∷ xs) ss = map (λ s. x ∷ s) ss ++ headed xs ss

-- S(k), the mirrors of a row k: the different rows got by changing signs of components, k first
abbrev pub mirrors : List ℤ → List (List ℤ)
mirrors [] = [] ∷ []
mirrors (x ∷ k) = headed (signs x) (mirrors k)

-- the number of non-zero components of a row
abbrev pub nonzeros : List ℤ → ℕ
nonzeros [] = 0
nonzeros (pos zero ∷ k) = nonzeros k
nonzeros (pos (suc a) ∷ k) = suc (nonzeros k)
nonzeros (negsuc a ∷ k) = suc (nonzeros k)

-- M: all mirrors of all rows
abbrev pub mirrored : List (List ℤ) → List (List ℤ)
mirrored [] = []
mirrored (k ∷ ks) = mirrors k ++ mirrored ks
