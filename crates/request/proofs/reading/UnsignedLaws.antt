-- A field without a sign, by how many digits stand at the front (for Reader::number): none, too many, a superfluous zero, or a field
-- (number_taken).
use mathlib.Core.Path.{◌≡◌, refl, ◌∙◌, ap}
use mathlib.Core.Bool.{Bool, true, false, cond, not, ◌&&◌, ◌||◌}
use mathlib.Core.List.{List, [], ◌∷◌}
use Prim.Native.Nat.{ℕ, ◌≤◌, ◌<◌}
use native.Mathlib.Omega.{arith}
use borrow.Author.Tests.{leb-false, lt-leb, eq-eqb, ne_eqb}
use lib.Dec.{eqb, leb}
use lib.ListN.{length, get_or, take, drop}
use Rattle.rank1.specs.Refusal.{within}
use Rattle.request.specs.Text.{is_digit, digits, decimal, starts_with_zero, is_field}
use Rattle.request.specs.Reading.{bad, got, read_number}
use Rattle.std.proofs.lemmas.Bool.{cond-false, and_left, cond-true}
use Rattle.request.proofs.CondLaws.{not_within-below, not_within-above, and_true, within_is}
use Rattle.request.proofs.reading.DigitLaws.{digits_front}

no_field : (s : List ℕ) → is_field (digits s) ≡ false → read_number s ≡ bad
no_field s e = cond-false (is_field (digits s)) (got (decimal (digits s)) (drop (length (digits s)) s)) bad e

-- none
pub number_none : (s : List ℕ) → length (digits s) < 1 → read_number s ≡ bad
number_none s l =
    no_field s (and_left (within 1 6 (length (digits s))) (leb (length (digits s)) 1 || not (starts_with_zero (digits s))) (not_within-below 1 6 (length (digits s)) l))

-- too many
pub number-many : (s : List ℕ) → 6 < length (digits s) → read_number s ≡ bad
number-many s l =
    no_field s (and_left (within 1 6 (length (digits s))) (leb (length (digits s)) 1 || not (starts_with_zero (digits s))) (not_within-above 1 6 (length (digits s)) (omega arith) l))

starts : (s : List ℕ) → 0 < length (digits s) → starts_with_zero (digits s) ≡ eqb (get_or s 0 0) 48
starts [] l = absurd (omega arith)
starts (b ∷ s) l = go (is_digit b) l
  where
    go : (t : Bool) → 0 < length (cond t (b ∷ digits s) []) → starts_with_zero (cond t (b ∷ digits s) []) ≡ eqb b 48
    go true l = refl
    go false l = absurd (omega arith)

-- a superfluous zero
pub number-padded : (s : List ℕ) → 1 < length (digits s) → get_or s 0 0 ≡ 48 → read_number s ≡ bad
number-padded s l e =
    no_field s (second-false (within 1 6 (length (digits s))) _ (ap (λ (t : Bool). t || not (starts_with_zero (digits s))) (lt-leb (length (digits s)) 1 l) ∙ ap not (starts s (omega arith) ∙ eq-eqb (get_or s 0 0) 48 e)))
  where
    second-false : (a b : Bool) → b ≡ false → (a && b) ≡ false
    second-false true b e = e
    second-false false b e = refl

-- a field
pub number_is : (s : List ℕ) → 1 ≤ length (digits s) → length (digits s) ≤ 6 → (1 < length (digits s) → get_or s 0 0 ≡ 48 → ⊥) → read_number s ≡ got (decimal (digits s)) (drop (length (digits s)) s)
number_is s l h f =
    cond-true (is_field (digits s)) (got (decimal (digits s)) (drop (length (digits s)) s)) bad (and_true (within 1 6 (length (digits s))) _ (within_is 1 6 (length (digits s)) l h) ∙ unpadded (leb (length (digits s)) 1) refl)
  where
    unpadded : (t : Bool) → leb (length (digits s)) 1 ≡ t → (t || not (starts_with_zero (digits s))) ≡ true
    unpadded true e = refl
    unpadded false e = ap not (starts s (omega arith) ∙ ne_eqb (get_or s 0 0) 48 (f (leb-false (length (digits s)) 1 e)))

-- by the digits that are taken
pub number_taken : (s : List ℕ) → 1 ≤ length (digits s) → length (digits s) ≤ 6 → (1 < length (digits s) → get_or s 0 0 ≡ 48 → ⊥) → read_number s ≡ got (decimal (take (length (digits s)) s)) (drop (length (digits s)) s)
number_taken s l h f = number_is s l h f ∙ ap (λ (t : List ℕ). got (decimal t) (drop (length (digits s)) s)) (digits_front s)
