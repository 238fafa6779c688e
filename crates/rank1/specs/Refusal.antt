-- The refusal table (document 01): the conditions with their numbers, and for each call those that concern its arguments, in
-- its order. (9 is the searches' own: see Search.antt. 12 is the program's.) What document 02 adds is marked with its letter.
use Rattle.std.specs.Prelude.{Bool, false, cond, not, ◌&&◌, ◌||◌, List, [], ◌∷◌, ◌++◌, map, ℕ, zero, suc, ◌*◌, ◌%◌, eqb, leb, ltb, ℤ, pos, nat_abs, length}
use Rattle.std.specs.Int.Signed.{lt_z}
use Rattle.rank1.specs.declared.Tally.{Tally}
use Rattle.rank1.specs.Tests.{every, any, same_row}
use Rattle.rank1.specs.Index.{row_count, index_list}
use Rattle.rank1.specs.RuleTest.{admissible}
use Rattle.rank1.specs.Sums.{gathers}
use Rattle.rank1.specs.Points.{line_count}
use Rattle.rank1.specs.Tally.{recount, same_tally}

-- a condition's number where it applies, else 0
abbrev pub refuse : ℕ → Bool → ℕ
refuse number applies = cond applies number 0

-- the number of the first condition that applies, 0 for none
abbrev pub first_of : List ℕ → ℕ
first_of [] = 0
first_of (zero ∷ ks) = first_of ks
first_of (suc k ∷ ks) = suc k

-- from low to high
abbrev pub within : ℕ → ℕ → ℕ → Bool
within low high x = leb low x && leb x high

-- a component outside its range: -255 to 255, and for plans 2, 3 and 4 not negative
abbrev pub outside : ℕ → ℤ → Bool
outside plan x = ltb 255 (nat_abs x) || (leb 2 plan && lt_z x (pos 0))

-- two rows are equal
abbrev pub repeats : List (List ℤ) → Bool
repeats [] = false
repeats (k ∷ ks) = any (same_row k) ks || repeats ks

-- 1: plan above 4; for map, spread and gather also plan 0
abbrev pub bad_plan : ℕ → ℕ
bad_plan plan = refuse 1 (ltb 4 plan)

abbrev pub bad_map_plan : ℕ → ℕ
bad_map_plan plan = refuse 1 (ltb 4 plan || eqb plan 0)

-- 2: d not 1 to 6
abbrev pub bad_axes : ℕ → ℕ
bad_axes d = refuse 2 (not (within 1 6 d))

-- 3: length no multiple of d, or more than 512 rows (02, a: a list of no rows is valid)
abbrev pub bad_length : ℕ → List ℤ → ℕ
bad_length d xs = refuse 3 (not (eqb (length xs % d) 0) || ltb 512 (row_count d xs))

-- 3 (02, c): for corners only a length that is no multiple of d
abbrev pub bad_whole : ℕ → List ℤ → ℕ
bad_whole d xs = refuse 3 (not (eqb (length xs % d) 0))

-- 3 (02, b): a row to add is not d numbers
abbrev pub bad_row : ℕ → List ℤ → ℕ
bad_row d row = refuse 3 (not (eqb (length row) d))

-- 3 (02, b): a record is not the list's recount
abbrev pub other_tally : Tally → Tally → ℕ
other_tally t counted = refuse 3 (not (same_tally t counted))

-- 3 (02, b): a record with m over 512, a size over 64 × m, or a zero row at m = 0
abbrev pub bad_tally : Tally → ℕ
bad_tally t = refuse 3 (ltb 512 t.m || (ltb (64 * t.m) t.size || (t.zero && eqb t.m 0)))

-- 4: a component outside its range
abbrev pub bad_component : ℕ → List ℤ → ℕ
bad_component plan xs = refuse 4 (any (outside plan) xs)

-- 13 (02, c): no corners or more than 32, or their list has more than 512 rows
abbrev pub bad_corners : ℕ → ℕ → ℕ
bad_corners corners rows = refuse 13 (not (within 1 32 corners) || ltb 512 rows)

-- 5: two equal rows
abbrev pub equal_rows : ℕ → List ℤ → ℕ
equal_rows d xs = refuse 5 (repeats (index_list d xs))

-- 6: n or N not 1 to 8192
abbrev pub bad_modulus : ℕ → ℕ
bad_modulus n = refuse 6 (not (within 1 8192 n))

-- 7: z not d long, or a component n or more
abbrev pub bad_vector : ℕ → ℕ → List ℕ → ℕ
bad_vector d n z = refuse 7 (not (eqb (length z) d) || any (leb n) z)

-- 8: an output, or the lent terms or sums, not of the exact length
abbrev pub bad_places : ℕ → ℕ → ℕ
bad_places places size = refuse 8 (not (eqb places size))

-- 10: map, spread, gather: pair not admissible
abbrev pub inadmissible : ℕ → List (List ℤ) → ℕ → List ℕ → ℕ
inadmissible plan ks n z = refuse 10 (not (admissible plan ks n (map pos z)))

-- 11: gather: a sum no multiple of c, or a quotient outside 32 bits
abbrev pub ungatherable : ℕ → List (List ℤ) → ℕ → List ℕ → List ℤ → ℕ
ungatherable plan ks n z sums = refuse 11 (not (every (gathers plan n (map pos z) sums) ks))

-- ---- what the calls refuse
-- a list: 2 to 5
abbrev pub list_conditions : ℕ → ℕ → List ℤ → List ℕ
list_conditions plan d xs = bad_axes d ∷ bad_length d xs ∷ bad_component plan xs ∷ equal_rows d xs ∷ []

-- a pair n, z: 6 and 7
abbrev pub pair_conditions : ℕ → ℕ → List ℕ → List ℕ
pair_conditions d n z = bad_modulus n ∷ bad_vector d n z ∷ []

-- check: 1 2 3 4 5 6 7
unfoldable pub check_refusal : ℕ → ℕ → List ℤ → ℕ → List ℕ → ℕ
check_refusal plan d xs n z = first_of (bad_plan plan ∷ list_conditions plan d xs ++ pair_conditions d n z)

-- a list and a pair in map, spread and gather: 1 (also plan 0) 2 3 4 5 6 7
abbrev pub table_conditions : ℕ → ℕ → List ℤ → ℕ → List ℕ → List ℕ
table_conditions plan d xs n z = bad_map_plan plan ∷ list_conditions plan d xs ++ pair_conditions d n z

-- map: those, 8 and 10
unfoldable pub map_refusal : ℕ → ℕ → List ℤ → ℕ → List ℕ → ℕ → ℕ
map_refusal plan d xs n z places =
    first_of (table_conditions plan d xs n z
    ++ (bad_places places (2 * row_count d xs) ∷ inadmissible plan (index_list d xs) n z ∷ []))

-- spread: the same
unfoldable pub spread_refusal : ℕ → ℕ → List ℤ → ℕ → List ℕ → ℕ → ℕ → ℕ
spread_refusal plan d xs n z terms sums =
    first_of (table_conditions plan d xs n z
    ++ (bad_places terms (row_count d xs) ∷ bad_places sums n ∷ inadmissible plan (index_list d xs) n z ∷ []))

-- gather: the same, then 11
unfoldable pub gather_refusal : ℕ → ℕ → List ℤ → ℕ → List ℕ → List ℤ → ℕ → ℕ
gather_refusal plan d xs n z sums terms =
    first_of (table_conditions plan d xs n z
    ++ (bad_places terms (row_count d xs) ∷ bad_places (length sums) n ∷ inadmissible plan (index_list d xs) n z
    ∷ ungatherable plan (index_list d xs) n z sums ∷ []))

-- point list: 1 2 6 7 8
unfoldable pub point_refusal : ℕ → ℕ → ℕ → List ℕ → ℕ → ℕ
point_refusal plan d n z places =
    first_of (bad_plan plan ∷ bad_axes d ∷ pair_conditions d n z ++ (bad_places places (line_count plan n * d) ∷ []))

-- what makes a list, plan and ceiling valid (document 01, "Search"): none of 1 2 3 4 5 6 applies
abbrev pub search_conditions : ℕ → ℕ → List ℤ → ℕ → List ℕ
search_conditions plan d xs n = bad_plan plan ∷ list_conditions plan d xs ++ (bad_modulus n ∷ [])

-- the searches, at the modulus n or up to the ceiling n: those, 8, and then 9
unfoldable pub search_refusal : ℕ → ℕ → List ℤ → ℕ → ℕ → ℕ
search_refusal plan d xs n places =
    first_of (search_conditions plan d xs n ++ (bad_places places d ∷ []))

-- ---- the running tally (02, b)
-- the record of a list: 1 2 3 4 5
unfoldable pub tally_refusal : ℕ → ℕ → List ℤ → ℕ
tally_refusal plan d xs = first_of (bad_plan plan ∷ list_conditions plan d xs)

-- a list with a row more: 2 to 5 as the longer list would, 3 also when the row is not d numbers
abbrev pub longer_conditions : ℕ → ℕ → List ℤ → List ℤ → List ℕ
longer_conditions plan d xs row =
    bad_axes d ∷ bad_row d row ∷ bad_length d (xs ++ row) ∷ bad_component plan (xs ++ row) ∷ equal_rows d (xs ++ row) ∷ []

-- adding a row: 1, those, and then 3 when the record is not the list's recount
unfoldable pub add_refusal : ℕ → ℕ → List ℤ → Tally → List ℤ → ℕ
add_refusal plan d xs t row =
    first_of (bad_plan plan ∷ longer_conditions plan d xs row ++ (other_tally t (recount plan d (index_list d xs)) ∷ []))

-- the least modulus: 1 3
unfoldable pub least_refusal : ℕ → Tally → ℕ
least_refusal plan t = first_of (bad_plan plan ∷ bad_tally t ∷ [])

-- ---- lists given by corners (02, c)
-- corners: 2 3 4 (not negative, as for plans 2, 3 and 4)
abbrev pub corner_conditions : ℕ → List ℤ → List ℕ
corner_conditions d xs = bad_axes d ∷ bad_whole d xs ∷ bad_component 2 xs ∷ []

-- the list of the corners, which has so many rows: those, 13 and 8
unfoldable pub corner_refusal : ℕ → List ℤ → ℕ → ℕ → ℕ
corner_refusal d xs rows places =
    first_of (corner_conditions d xs ++ (bad_corners (row_count d xs) rows ∷ bad_places places (512 * d) ∷ []))

-- whether a list is lower: 2 3 4 (any sign, as for plans 0 and 1) 5
unfoldable pub lower_refusal : ℕ → List ℤ → ℕ
lower_refusal d xs = first_of (list_conditions 1 d xs)
