-- The text of a vector and that of a map, as lines of fields (vector_line, map-line), and how many bytes they have at most.
use mathlib.Core.Path.{◌≡◌, refl, ap}
use mathlib.Core.List.{List, [], ◌∷◌, ◌++◌, append_assoc}
use Prim.Native.Nat.{ℕ, zero, suc, ◌+◌, ◌*◌, ◌<◌, ◌≤◌}
use native.Mathlib.Omega.{arith}
use lib.ListN.{length, get_or, length-append}
use Rattle.request.specs.Text.{space, number_text}
use Rattle.request.specs.Printing.{line_text}
use Rattle.request.specs.Answer.{vector_text, map_text}
use Rattle.request.proofs.NumberLaws.{number_size}

-- ---- a vector
-- n and z are a line of fields
pub vector_line : (n : ℕ) (z : List ℕ) → number_text n ++ vector_text z ≡ line_text number_text (n ∷ z)
vector_line n [] = refl
vector_line n (x ∷ z) = ap (λ (t : List ℕ). number_text n ++ space ∷ t) (vector_line x z)

-- at most 6 bytes to a component, and the line's end
pub vector-size : (z : List ℕ) → ((j : ℕ) → j < length z → get_or z j 0 < 65536) → length (vector_text z) ≤ 6 * length z + 1
vector-size [] h = omega arith
vector-size (x ∷ z) h =
    rw length-append
    (omega (arith, number_size 4 x (omega (arith, h 0 (omega arith))), vector-size z (λ j l. h (suc j) (omega arith))))

-- ---- a map
-- a residue and its c are a line of fields
pub map-line : (r c : ℕ) (rest : List ℕ) → map_text (r ∷ c ∷ rest) ≡ line_text number_text (r ∷ c ∷ []) ++ map_text rest
map-line r c rest = simp append_assoc

-- at most 12 bytes to a line
pub map-size : (m : ℕ) (pairs : List ℕ) → length pairs ≡ 2 * m → ((j : ℕ) → j < length pairs → get_or pairs j 0 < 65536) → length (map_text pairs) ≤ 12 * m
map-size m [] e h = omega arith
map-size m (r ∷ []) e h = omega arith
map-size zero (r ∷ c ∷ rest) e h = absurd (omega arith)
map-size (suc m) (r ∷ c ∷ rest) e h =
    simp length-append
    (omega (
      arith,
      number_size 4 r (omega (arith, h 0 (omega arith))),
      number_size 4 c (omega (arith, h 1 (omega arith))),
      map-size m rest (omega arith) (λ j l. h (suc (suc j)) (omega arith)),
    ))
