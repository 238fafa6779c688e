-- Digits: those at the front of a text are its front (digits_front) and as many as pass the test one behind the other
-- (digits_taken), and of its first few bytes as many, up to their number (digits_few); and the number that a few digits write,
-- grown by one digit a turn (Valued, for value_of).
use mathlib.Core.Path.{◌≡◌, refl, sym, ◌∙◌, ap, subst}
use mathlib.Core.Bool.{Bool, true, false, cond}
use mathlib.Core.List.{List, [], ◌∷◌, ◌++◌}
use Prim.Native.Nat.{ℕ, zero, suc, ◌+◌, ◌-◌, ◌*◌, ◌^◌, ◌≤◌, ◌<◌, min}
use native.Mathlib.Nat.{pow-suc}
use native.Mathlib.Numerals.{add-one}
use native.Mathlib.Omega.{arith}
use lib.ListN.{length, get_or, take}
use lib.Seq.{take-nil, take-suc}
use Rattle.std.specs.List.{take_while}
use Rattle.std.proofs.lemmas.List.Sums.{take_while-cons}
use Rattle.rank1.specs.Tests.{every}
use Rattle.request.specs.Text.{is_digit, digits, decimal_from, decimal}
use Rattle.request.proofs.CondLaws.{both_true, within_of}

-- ---- digits
-- the digits are the front of the text
front : (t : Bool) (b : ℕ) (s : List ℕ) → digits s ≡ take (length (digits s)) s → cond t (b ∷ digits s) [] ≡ take (length (cond t (b ∷ digits s) [])) (b ∷ s)
front true b s e = ap (λ (r : List ℕ). b ∷ r) e
front false b s e = refl

pub digits_front : (s : List ℕ) → digits s ≡ take (length (digits s)) s
digits_front [] = refl
digits_front (b ∷ s) = front (is_digit b) b s (digits_front s)

-- each of them is a digit
pub all_digits : (s : List ℕ) → every is_digit (digits s) ≡ true
all_digits [] = refl
all_digits (b ∷ s) = go (is_digit b) refl (all_digits s)
  where
    go : (t : Bool) → is_digit b ≡ t → every is_digit (digits s) ≡ true → every is_digit (cond t (b ∷ digits s) []) ≡ true
    go true e h = rw e h
    go false e h = refl

-- they are the bytes that pass the test, one behind the other
pub digits_taken : (s : List ℕ) → take_while is_digit s ≡ digits s
digits_taken [] = refl
digits_taken (b ∷ s) = take_while-cons is_digit b s ∙ ap (λ (r : List ℕ). cond (is_digit b) (b ∷ r) []) (digits_taken s)

-- of the first n bytes, those at the front that are digits are as many as of the text, up to n
pub digits_few : (n : ℕ) (s : List ℕ) → length (take_while is_digit (take n s)) ≡ min n (length (take_while is_digit s))
digits_few n [] = ap (λ (s : List ℕ). length (take_while is_digit s)) (take-nil n) ∙ omega arith
digits_few zero (b ∷ s) = omega arith
digits_few (suc n) (b ∷ s) =
    ap length (take_while-cons is_digit b (take n s))
    ∙ go (is_digit b) (digits_few n s)
    ∙ ap (λ (r : List ℕ). min (suc n) (length r)) (sym (take_while-cons is_digit b s))
  where
    go : (t : Bool) → length (take_while is_digit (take n s)) ≡ min n (length (take_while is_digit s)) → length (cond t (b ∷ take_while is_digit (take n s)) []) ≡ min (suc n) (length (cond t (b ∷ take_while is_digit s) []))
    go true e = omega (arith, e)
    go false e = omega arith

-- ---- the number that digits write
decimal-last : (v : ℕ) (s : List ℕ) (b : ℕ) → decimal_from v (s ++ (b ∷ [])) ≡ decimal_from v s * 10 + (b - 48)
decimal-last v [] b = refl
decimal-last v (a ∷ s) b = decimal-last (v * 10 + (a - 48)) s b

-- one digit more
pub decimal-more : (s : List ℕ) (i : ℕ) → i < length s → decimal (take (i + 1) s) ≡ decimal (take i s) * 10 + (get_or s i 0 - 48)
decimal-more s i l =
    ap (λ (k : ℕ). decimal (take k s)) (add-one i) ∙ ap decimal (take-suc s i 0 l) ∙ decimal-last 0 (take i s) (get_or s i 0)

-- i digits write a number below 10 ^ i
bound-more : (v i b : ℕ) → v < 10 ^ i → b ≤ 57 → v * 10 + (b - 48) < 10 ^ (i + 1)
bound-more v i b l h = rw (add-one, pow-suc) (omega arith)

-- ---- the value of the first i of a few digits
pub record Valued (s : List ℕ) (value i : ℕ) : Type 0 where
  pub is : value ≡ decimal (take i s)
  pub bound : value < 10 ^ i

-- the byte at i is a digit
pub digit_next : (s : List ℕ) (i : ℕ) → every is_digit s ≡ true → i < length s → (48 ≤ get_or s i 0) × (get_or s i 0 ≤ 57)
digit_next [] i h l = absurd (omega arith)
digit_next (b ∷ s) zero h l = within_of 48 57 b (both_true (is_digit b) (every is_digit s) h).0
digit_next (b ∷ s) (suc i) h l = digit_next s i (both_true (is_digit b) (every is_digit s) h).1 (omega arith)

pub valued_more : (s : List ℕ) (value i x : ℕ) → every is_digit s ≡ true → Valued s value i → i < length s → x ≡ get_or s i 0 - 48 → Valued s (value * 10 + x) (i + 1)
valued_more s value i x h so_far l e = record {
  is = ap (λ (v : ℕ). v * 10 + x) so_far.is ∙ ap (λ (d : ℕ). decimal (take i s) * 10 + d) e ∙ sym (decimal-more s i l);
  bound = subst (λ (d : ℕ). value * 10 + d < 10 ^ (i + 1)) (sym e) (bound-more value i (get_or s i 0) so_far.bound (digit_next s i h l).1);
}
