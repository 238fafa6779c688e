-- Lines of the point list by their components, the list by its first lines, and each place of the list.
use mathlib.Core.Path.{◌≡◌, sym, ◌∙◌, ap}
use mathlib.Core.List.{List, [], ◌∷◌, ◌++◌, append_assoc, append-nil}
use Prim.Native.Nat.{ℕ, zero, suc, ◌+◌, ◌*◌, ◌%◌, ◌<◌}
use native.Mathlib.Nat.{add-suc, add-zero, suc-add, zero-add, suc-mul, zero-mul}
use native.Mathlib.Numerals.{add-one}
use native.Mathlib.Omega.{arith}
use lib.ListN.{length, get_or, take, length-map, length-append, get_or-append}
use lib.Seq.{get_or-append-add}
use Rattle.std.proofs.lemmas.List.{get_or-map}
use Rattle.rank1.specs.Tests.{up_from, up_to}
use Rattle.rank1.specs.Points.{coordinate, point_line, point_lines, line_count, point_list}
use Rattle.rank1.proofs.UpTo.{length-up_from, get_or-up_from}

pub line-length : (plan n : ℕ) (z : List ℕ) (i : ℕ) → length (point_line plan n z i) ≡ length z
line-length plan n z i = length-map z (λ x. coordinate plan n ((i * x) % n))

pub line_at : (plan n : ℕ) (z : List ℕ) (i j : ℕ) → j < length z → get_or (point_line plan n z i) j 0 ≡ coordinate plan n ((i * get_or z j 0) % n)
line_at plan n z i j l = get_or-map (λ x. coordinate plan n ((i * x) % n)) z j 0 0 l

-- the lines counted up from i, with one more at the end
lines_more : (plan n : ℕ) (z : List ℕ) (i k : ℕ) → point_lines plan n z (up_from i (suc k)) ≡ point_lines plan n z (up_from i k) ++ point_line plan n z (i + k)
lines_more plan n z i zero =
    append-nil (point_line plan n z i) ∙ ap (point_line plan n z) (sym (add-zero i))
lines_more plan n z i (suc k) =
    ap (λ (t : List ℕ). point_line plan n z i ++ t) (lines_more plan n z (suc i) k ∙ ap (λ (t : ℕ). point_lines plan n z (up_from (suc i) k) ++ point_line plan n z t) (suc-add i k ∙ sym (add-suc i k)))
    ∙ sym (append_assoc (point_line plan n z i) (point_lines plan n z (up_from (suc i) k)) (point_line plan n z (i + suc k)))

-- the first i lines stand at the front; the next one is written behind them
pub points_more : (plan n : ℕ) (z old new : List ℕ) (i at d : ℕ) → take at old ≡ point_lines plan n z (up_to i) → take (at + d) new ≡ take at old ++ point_line plan n z i → take (at + d) new ≡ point_lines plan n z (up_to (i + 1))
points_more plan n z old new i at d so_far e =
    e
    ∙ ap (λ (t : List ℕ). t ++ point_line plan n z i) so_far
    ∙ ap (λ (t : ℕ). point_lines plan n z (up_to i) ++ point_line plan n z t) (sym (zero-add i))
    ∙ sym (lines_more plan n z 0 i)
    ∙ ap (λ (t : ℕ). point_lines plan n z (up_to t)) (sym (add-one i))

-- ---- places of the list
module _ (plan n : ℕ) (z : List ℕ) where
  -- lines with given numbers: how long they are, and component j of the line at place i
  lines_length : (is : List ℕ) → length (point_lines plan n z is) ≡ length is * length z
  lines_length [] = sym (zero-mul (length z))
  lines_length (i ∷ is) =
      length-append (point_line plan n z i) (point_lines plan n z is)
      ∙ omega (arith, line-length plan n z i, lines_length is, suc-mul (length is) (length z))

  lines_at : (is : List ℕ) (i j : ℕ) → i < length is → j < length z → get_or (point_lines plan n z is) (i * length z + j) 0 ≡ coordinate plan n ((get_or is i 0 * get_or z j 0) % n)
  lines_at [] i j l h = absurd (omega arith)
  lines_at (k ∷ is) zero j l h =
      ap (λ (t : ℕ). get_or (point_line plan n z k ++ point_lines plan n z is) t 0) (ap (λ (t : ℕ). t + j) (zero-mul (length z)) ∙ zero-add j)
      ∙ get_or-append (point_line plan n z k) (point_lines plan n z is) 0 j (omega (arith, line-length plan n z k))
      ∙ line_at plan n z k j h
  lines_at (k ∷ is) (suc i) j l h =
      ap (λ (t : ℕ). get_or (point_line plan n z k ++ point_lines plan n z is) t 0) place
      ∙ get_or-append-add (point_line plan n z k) (point_lines plan n z is) (i * length z + j) 0
      ∙ lines_at is i j (omega arith) h
    where
      place : suc i * length z + j ≡ length (point_line plan n z k) + (i * length z + j)
      place = omega (arith, suc-mul i (length z), line-length plan n z k)

  -- the list's length, and component j of line i
  pub points_length : length (point_list plan n z) ≡ line_count plan n * length z
  points_length = lines_length (up_to (line_count plan n)) ∙ ap (λ (t : ℕ). t * length z) (length-up_from 0 (line_count plan n))

  pub points_at : (i j : ℕ) → i < line_count plan n → j < length z → get_or (point_list plan n z) (i * length z + j) 0 ≡ coordinate plan n ((i * get_or z j 0) % n)
  points_at i j l h =
      lines_at (up_to (line_count plan n)) i j (omega (arith, length-up_from 0 (line_count plan n))) h
      ∙ ap (λ (t : ℕ). coordinate plan n ((t * get_or z j 0) % n)) (get_or-up_from 0 (line_count plan n) i 0 l ∙ zero-add i)
