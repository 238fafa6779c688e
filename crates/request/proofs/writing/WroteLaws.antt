-- A number written digit by digit (for Writer::number), and how many bytes it takes.
use mathlib.Core.Path.{◌≡◌, sym, ◌∙◌, ap}
use mathlib.Core.List.{List, [], ◌∷◌, ◌++◌, append_assoc}
use Prim.Native.Nat.{ℕ, ◌+◌, ◌/◌, ◌%◌, ◌<◌, ◌≤◌}
use native.Mathlib.Omega.{arith}
use lib.ListN.{length, length-append}
use Rattle.request.specs.Text.{number_text}
use Rattle.request.proofs.NumberLaws.{number_short, number_long, number_size}

-- one digit
pub wrote_digit : (x : ℕ) (old new : List ℕ) → x < 10 → new ≡ old ++ ((48 + x) ∷ []) → new ≡ old ++ number_text x
wrote_digit x old new l e = e ∙ ap (λ (t : List ℕ). old ++ t) (sym (number_short x l))

-- the digits before the last one, and the last one
pub wrote_last : (x : ℕ) (old mid new : List ℕ) → 10 ≤ x → mid ≡ old ++ number_text (x / 10) → new ≡ mid ++ ((48 + x % 10) ∷ []) → new ≡ old ++ number_text x
wrote_last x old mid new l d e =
    e
    ∙ ap (λ (t : List ℕ). t ++ ((48 + x % 10) ∷ [])) d
    ∙ append_assoc old (number_text (x / 10)) ((48 + x % 10) ∷ [])
    ∙ ap (λ (t : List ℕ). old ++ t) (sym (number_long x l))

-- a 16-bit number takes at most 5 bytes, and 4 without its last digit
pub wrote_short : (x : ℕ) (old new : List ℕ) → x < 65536 → new ≡ old ++ number_text x → length new ≤ length old + 5
wrote_short x old new h e = omega (arith, ap length e, length-append old (number_text x), number_size 4 x (omega arith))

pub wrote_shorter : (x : ℕ) (old new : List ℕ) → x < 65536 → new ≡ old ++ number_text (x / 10) → length new ≤ length old + 4
wrote_shorter x old new h e = omega (arith, ap length e, length-append old (number_text (x / 10)), number_size 3 (x / 10) (omega arith))
