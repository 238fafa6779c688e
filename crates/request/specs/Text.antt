-- Texts as lists of bytes: decimal fields and fixed words.
use Rattle.std.specs.Prelude.{Bool, false, cond, not, ◌&&◌, ◌||◌, List, [], ◌∷◌, ◌++◌, ℕ, zero, suc, ◌+◌, ◌-◌, ◌*◌, ◌/◌, ◌%◌, eqb, leb, ltb, length}
use Rattle.rank1.specs.Refusal.{within}

-- the bytes of a space, a newline, a minus and the digits 0 and 9
abbrev pub space : ℕ
space = 32

abbrev pub newline : ℕ
newline = 10

abbrev pub minus : ℕ
minus = 45

abbrev pub digit_zero : ℕ
digit_zero = 48

abbrev pub digit_nine : ℕ
digit_nine = 57

-- a decimal digit
abbrev pub is_digit : ℕ → Bool
is_digit b = within digit_zero digit_nine b

-- the digits at the front of a text
abbrev pub digits : List ℕ → List ℕ
digits [] = []
digits (b ∷ s) = cond (is_digit b) (b ∷ digits s) []

-- the number that digits write, behind a number v
abbrev pub decimal_from : ℕ → List ℕ → ℕ
decimal_from v [] = v
decimal_from v (b ∷ s) = decimal_from (v * 10 + (b - digit_zero)) s

abbrev pub decimal : List ℕ → ℕ
decimal s = decimal_from 0 s

-- a digit 0 stands at the front
abbrev pub starts_with_zero : List ℕ → Bool
starts_with_zero [] = false
starts_with_zero (b ∷ s) = eqb b digit_zero

-- a field: 1 to 6 digits, no superfluous leading zero
abbrev pub is_field : List ℕ → Bool
is_field s = within 1 6 (length s) && (leb (length s) 1 || not (starts_with_zero s))

-- the field of a number; the first argument only bounds the recursion
abbrev pub number_text_in : ℕ → ℕ → List ℕ
number_text_in zero x = (digit_zero + x) ∷ []
number_text_in (suc f) x = cond (ltb x 10) ((digit_zero + x) ∷ []) (number_text_in f (x / 10) ++ ((digit_zero + x % 10) ∷ []))

unfoldable pub number_text : ℕ → List ℕ
number_text x = number_text_in x x
