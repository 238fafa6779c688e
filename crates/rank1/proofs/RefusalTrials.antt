-- The refusal table of document 01 on examples, by computing: its column of small examples, the list of no rows, and for each call
-- its order. Each line of an order has arguments to which two conditions that stand next to each other both apply, and gives the
-- number of the first: exchanging the two would break it.
use mathlib.Core.Path.{◌≡◌, refl}
use mathlib.Core.List.{List, [], ◌∷◌, ◌++◌, map}
use Prim.Native.Nat.{ℕ}
use lib.IntN.{ℤ, pos, negsuc}
use Rattle.rank1.specs.RuleTest.{admissible}
use Rattle.rank1.specs.Refusal.{check_refusal, map_refusal, spread_refusal, gather_refusal, point_refusal, search_refusal}

-- a run and sums without signs
abbrev run : List ℕ → List ℤ
run = map pos

-- ---- the small examples, each in a call concerned (9 stands in Trials.antt, 12 is the program's)
-- 1: plan 5, and plan 0 for map, spread and gather; 2 to 7; 8 for each lent place; 10; 11
pub examples :
    (check_refusal 5 1 (run (0 ∷ [])) 1 (0 ∷ [])
    ∷ map_refusal 0 1 (run (0 ∷ [])) 1 (0 ∷ []) 2
    ∷ spread_refusal 0 1 (run (0 ∷ [])) 1 (0 ∷ []) 1 1
    ∷ gather_refusal 0 1 (run (0 ∷ [])) 1 (0 ∷ []) (run (0 ∷ [])) 1
    ∷ check_refusal 1 0 (run (0 ∷ [])) 1 (0 ∷ [])
    ∷ check_refusal 1 2 (run (1 ∷ 0 ∷ 4 ∷ [])) 1 (0 ∷ 0 ∷ [])
    ∷ check_refusal 2 1 (negsuc 0 ∷ []) 1 (0 ∷ [])
    ∷ check_refusal 1 1 (run (3 ∷ 3 ∷ [])) 1 (0 ∷ [])
    ∷ check_refusal 1 1 (run (0 ∷ [])) 0 (0 ∷ [])
    ∷ check_refusal 1 1 (run (0 ∷ [])) 4 (4 ∷ [])
    ∷ search_refusal 1 2 (run (0 ∷ 0 ∷ [])) 1 3
    ∷ map_refusal 1 1 (run (0 ∷ [])) 1 (0 ∷ []) 3
    ∷ spread_refusal 1 1 (run (0 ∷ [])) 1 (0 ∷ []) 2 1
    ∷ spread_refusal 1 1 (run (0 ∷ [])) 1 (0 ∷ []) 1 2
    ∷ gather_refusal 1 1 (run (0 ∷ [])) 1 (0 ∷ []) (run (0 ∷ [])) 2
    ∷ gather_refusal 1 1 (run (0 ∷ [])) 1 (0 ∷ []) (run (0 ∷ 0 ∷ [])) 1
    ∷ point_refusal 1 1 2 (1 ∷ []) 3
    ∷ map_refusal 1 1 (run (0 ∷ 1 ∷ [])) 2 (0 ∷ []) 4
    ∷ spread_refusal 1 1 (run (0 ∷ 1 ∷ [])) 2 (0 ∷ []) 2 2
    ∷ gather_refusal 1 1 (run (0 ∷ 1 ∷ [])) 2 (0 ∷ []) (run (0 ∷ 0 ∷ [])) 2
    ∷ gather_refusal 4 1 (run (0 ∷ 1 ∷ 2 ∷ [])) 4 (1 ∷ []) (run (5 ∷ 3 ∷ 3 ∷ 3 ∷ [])) 3
    ∷ [])
    ≡ 1 ∷ 1 ∷ 1 ∷ 1 ∷ 2 ∷ 3 ∷ 4 ∷ 5 ∷ 6 ∷ 7 ∷ 8 ∷ 8 ∷ 8 ∷ 8 ∷ 8 ∷ 8 ∷ 8 ∷ 10 ∷ 10 ∷ 10 ∷ 11 ∷ []
unfolding check_refusal map_refusal spread_refusal gather_refusal point_refusal search_refusal admissible
examples = refl

-- ---- the list of no rows (document 02, a)
-- it passes in every call that takes a list; its map and terms have no places, its sums have n
pub no-rows-pass :
    (check_refusal 0 2 [] 1 (0 ∷ 0 ∷ [])
    ∷ map_refusal 1 2 [] 3 (1 ∷ 2 ∷ []) 0
    ∷ spread_refusal 2 2 [] 3 (1 ∷ 2 ∷ []) 0 3
    ∷ gather_refusal 3 2 [] 3 (1 ∷ 2 ∷ []) (run (5 ∷ 0 ∷ 7 ∷ [])) 0
    ∷ search_refusal 4 2 [] 8192 2
    ∷ map_refusal 1 2 [] 3 (1 ∷ 2 ∷ []) 2
    ∷ spread_refusal 2 2 [] 3 (1 ∷ 2 ∷ []) 1 3
    ∷ gather_refusal 3 2 [] 3 (1 ∷ 2 ∷ []) (run (5 ∷ 0 ∷ 7 ∷ [])) 1
    ∷ [])
    ≡ 0 ∷ 0 ∷ 0 ∷ 0 ∷ 0 ∷ 8 ∷ 8 ∷ 8 ∷ []
unfolding check_refusal map_refusal spread_refusal gather_refusal search_refusal admissible
no-rows-pass = refl

-- ---- the orders
-- plan, d, list and modulus to which apply: 1 and 2, 2 and 3, 3 and 4, 4 and 5, 5 and 6
record Arguments : Type 0 where
  plan : ℕ
  axes : ℕ
  numbers : List ℕ
  modulus : ℕ

abbrev args : ℕ → ℕ → List ℕ → ℕ → Arguments
args p d xs n = record { plan = p; axes = d; numbers = xs; modulus = n }

abbrev clashes : List Arguments
clashes =
    args 5 0 (0 ∷ []) 1
    ∷ args 1 7 (0 ∷ []) 1
    ∷ args 1 2 (256 ∷ 0 ∷ 0 ∷ []) 1
    ∷ args 1 1 (256 ∷ 256 ∷ []) 1
    ∷ args 1 1 (3 ∷ 3 ∷ []) 0
    ∷ []

-- a call's numbers on these
abbrev over : (ℕ → ℕ → List ℤ → ℕ → ℕ) → List ℕ
over call = map (λ a. call a.plan a.axes (run a.numbers) a.modulus) clashes

-- then 6 and 7
pub check-order :
    over (λ p d xs n. check_refusal p d xs n (0 ∷ []))
    ++ (check_refusal 1 1 (run (0 ∷ [])) 0 (0 ∷ []) ∷ [])
    ≡ 1 ∷ 2 ∷ 3 ∷ 4 ∷ 5 ∷ 6 ∷ []
unfolding check_refusal
check-order = refl

-- then 6 and 7, 7 and 8, 8 and 10
pub map-order :
    over (λ p d xs n. map_refusal p d xs n (0 ∷ []) 2)
    ++ (map_refusal 1 1 (run (0 ∷ 1 ∷ [])) 0 (0 ∷ []) 4
    ∷ map_refusal 1 1 (run (0 ∷ 1 ∷ [])) 2 (2 ∷ []) 3
    ∷ map_refusal 1 1 (run (0 ∷ 1 ∷ [])) 2 (0 ∷ []) 3
    ∷ [])
    ≡ 1 ∷ 2 ∷ 3 ∷ 4 ∷ 5 ∷ 6 ∷ 7 ∷ 8 ∷ []
unfolding map_refusal admissible
map-order = refl

-- then 6 and 7, 7 and 8 (the terms), 8 (the sums) and 10
pub spread-order :
    over (λ p d xs n. spread_refusal p d xs n (0 ∷ []) 1 n)
    ++ (spread_refusal 1 1 (run (0 ∷ 1 ∷ [])) 0 (0 ∷ []) 2 0
    ∷ spread_refusal 1 1 (run (0 ∷ 1 ∷ [])) 2 (2 ∷ []) 3 2
    ∷ spread_refusal 1 1 (run (0 ∷ 1 ∷ [])) 2 (0 ∷ []) 2 3
    ∷ [])
    ≡ 1 ∷ 2 ∷ 3 ∷ 4 ∷ 5 ∷ 6 ∷ 7 ∷ 8 ∷ []
unfolding spread_refusal admissible
spread-order = refl

-- then 6 and 7, 7 and 8 (the terms), 8 (the sums) and 10, 10 and 11
pub gather-order :
    over (λ p d xs n. gather_refusal p d xs n (0 ∷ []) (run (0 ∷ [])) 1)
    ++ (gather_refusal 1 1 (run (0 ∷ 1 ∷ [])) 0 (0 ∷ []) [] 2
    ∷ gather_refusal 1 1 (run (0 ∷ 1 ∷ [])) 2 (2 ∷ []) (run (0 ∷ 0 ∷ [])) 3
    ∷ gather_refusal 1 1 (run (0 ∷ 1 ∷ [])) 2 (0 ∷ []) (run (0 ∷ [])) 2
    ∷ gather_refusal 4 1 (run (0 ∷ 1 ∷ 2 ∷ [])) 2 (1 ∷ []) (run (0 ∷ 3 ∷ [])) 3
    ∷ [])
    ≡ 1 ∷ 2 ∷ 3 ∷ 4 ∷ 5 ∷ 6 ∷ 7 ∷ 8 ∷ 10 ∷ []
unfolding gather_refusal admissible
gather-order = refl

-- 1 and 2, 2 and 6, 6 and 7, 7 and 8
pub point-order :
    (point_refusal 5 0 1 (0 ∷ []) 1
    ∷ point_refusal 1 0 0 (0 ∷ []) 1
    ∷ point_refusal 1 1 0 (0 ∷ []) 1
    ∷ point_refusal 1 1 4 (4 ∷ []) 3
    ∷ [])
    ≡ 1 ∷ 2 ∷ 6 ∷ 7 ∷ []
unfolding point_refusal
point-order = refl

-- then 6 and 8
pub search-order :
    over (λ p d xs n. search_refusal p d xs n 1)
    ++ (search_refusal 1 1 (run (0 ∷ [])) 0 2 ∷ [])
    ≡ 1 ∷ 2 ∷ 3 ∷ 4 ∷ 5 ∷ 6 ∷ []
unfolding search_refusal
search-order = refl
