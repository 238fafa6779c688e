-- Map, spread and gather (document 01), for plans 1 to 4.
use Rattle.std.specs.Prelude.{Bool, cond, ◌&&◌, List, [], ◌∷◌, map, ℕ, ◌%◌, eqb, leb, ℤ, pos, negsuc, nat_abs, ◌+ℤ◌, ◌*ℤ◌, get_or}
use Rattle.std.specs.Int.Signed.{le_z, quot_z}
use Rattle.rank1.specs.Tests.{count, up_to}
use Rattle.rank1.specs.Residue.{residue_at}
use Rattle.rank1.specs.Index.{mirrors}

-- S(k) in the three calls: for plan 1 it is k alone
abbrev pub mirrors_under : ℕ → List ℤ → List (List ℤ)
mirrors_under plan k = cond (leb 2 plan) (mirrors k) (k ∷ [])

-- from -2 ^ 31 to 2 ^ 31 - 1
abbrev pub in32 : ℤ → Bool
in32 a = le_z (negsuc 2147483647) a && le_z a (pos 2147483647)

module _ (plan n : ℕ) (z : List ℤ) where
  -- how many s in S(k) have the residue r
  abbrev pub copies_at : ℕ → List ℤ → ℕ
  copies_at r k = count (λ s. eqb (residue_at n z s) r) (mirrors_under plan k)

  -- c: how many s in S(k) have the residue of k
  abbrev pub copies : List ℤ → ℕ
  copies k = copies_at (residue_at n z k) k

  -- the map: for each row its residue and then its c
  abbrev pub residue_map : List (List ℤ) → List ℕ
  residue_map [] = []
  residue_map (k ∷ ks) = residue_at n z k ∷ copies k ∷ residue_map ks

  -- the sum at residue r: a once for each row and each s in S(k) of residue r
  abbrev pub sum_at : List (List ℤ) → List ℤ → ℕ → ℤ
  sum_at [] terms r = pos 0
  sum_at (k ∷ ks) [] r = pos 0
  sum_at (k ∷ ks) (a ∷ terms) r = (a *ℤ pos (copies_at r k)) +ℤ sum_at ks terms r

  -- spreading: the n sums
  abbrev pub spread_sums : List (List ℤ) → List ℤ → List ℤ
  spread_sums ks terms = map (sum_at ks terms) (up_to n)

  -- gathering: a row's term is the sum at its residue divided by c
  abbrev pub gathered_term : List ℤ → List ℤ → ℤ
  gathered_term sums k = quot_z (get_or sums (residue_at n z k) (pos 0)) (pos (copies k))

  abbrev pub gathered_terms : List (List ℤ) → List ℤ → List ℤ
  gathered_terms ks sums = map (gathered_term sums) ks

  -- what gathering asks of a row: the sum is a multiple of c, and the quotient has 32 bits
  abbrev pub gathers : List ℤ → List ℤ → Bool
  gathers sums k = eqb (nat_abs (get_or sums (residue_at n z k) (pos 0)) % copies k) 0 && in32 (gathered_term sums k)
