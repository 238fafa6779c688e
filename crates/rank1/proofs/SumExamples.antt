-- The examples of document 01, by computing: the fourth ticket (plan 4, rows (0), (1), (2), at n = 4, z = (1)) with terms
-- 5, -3, 2, and refusal 11.
use mathlib.Core.Path.{◌≡◌, refl}
use mathlib.Core.Bool.{true}
use mathlib.Core.List.{List, [], ◌∷◌}
use lib.IntN.{ℤ, pos, negsuc}
use Rattle.rank1.specs.Tests.{every}
use Rattle.rank1.specs.Refusal.{ungatherable}
use Rattle.rank1.specs.Sums.{residue_map, spread_sums, gathered_terms, gathers}
use Rattle.rank1.proofs.WholeSums.{total}
use Rattle.rank1.proofs.SumLaws.{weighted}

abbrev pub ticket_rows : List (List ℤ)
ticket_rows = (pos 0 ∷ []) ∷ (pos 1 ∷ []) ∷ (pos 2 ∷ []) ∷ []

abbrev pub ticket_terms : List ℤ
ticket_terms = pos 5 ∷ negsuc 2 ∷ pos 2 ∷ []

abbrev pub ticket_sums : List ℤ
ticket_sums = pos 5 ∷ negsuc 2 ∷ pos 4 ∷ negsuc 2 ∷ []

-- the map: residues 0, 1, 2 with c = 1, 1, 2
pub ticket-map : residue_map 4 4 (pos 1 ∷ []) ticket_rows ≡ 0 ∷ 1 ∷ 1 ∷ 1 ∷ 2 ∷ 2 ∷ []
ticket-map = refl

-- 5, -3, 2 spread to 5, -3, 4, -3, and are gathered again
pub ticket_spread : spread_sums 4 4 (pos 1 ∷ []) ticket_rows ticket_terms ≡ ticket_sums
ticket_spread = refl

pub ticket_gather : gathered_terms 4 4 (pos 1 ∷ []) ticket_rows ticket_sums ≡ ticket_terms
ticket_gather = refl

pub ticket-passes : every (gathers 4 4 (pos 1 ∷ []) ticket_sums) ticket_rows ≡ true
ticket-passes = refl

-- the total: 5 once, -3 twice, 2 twice
pub ticket-total : (total ticket_sums ≡ pos 3) × (weighted 4 ticket_rows ticket_terms ≡ pos 3)
ticket-total = (refl, refl)

-- with 3 in the place of 4 the last row, with c = 2, is refused
pub ticket_refused : ungatherable 4 ticket_rows 4 (1 ∷ []) (pos 5 ∷ negsuc 2 ∷ pos 3 ∷ negsuc 2 ∷ []) ≡ 11
ticket_refused = refl

-- with plan 1 each row has itself alone
pub ticket-one : spread_sums 1 4 (pos 1 ∷ []) ticket_rows ticket_terms ≡ pos 5 ∷ negsuc 2 ∷ pos 2 ∷ pos 0 ∷ []
ticket-one = refl

-- c counts the mirrors of the row alone: at n = 2, z = (0) the rows (0) and (1) share a residue, and c stays 1
pub map_alone : residue_map 1 2 (pos 0 ∷ []) ((pos 0 ∷ []) ∷ (pos 1 ∷ []) ∷ []) ≡ 0 ∷ 1 ∷ 0 ∷ 1 ∷ []
map_alone = refl
