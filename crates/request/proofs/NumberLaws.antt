-- The text of a number: by its own recursion, its length, that it consists of digits, and that it is read back. So the text
-- determines the number.
use mathlib.Core.Path.{◌≡◌, refl, sym, ◌∙◌, ap}
use mathlib.Core.Bool.{Bool, true, false, not, ◌||◌}
use mathlib.Core.List.{List, [], ◌∷◌, ◌++◌, append-nil}
use Prim.Native.Nat.{ℕ, zero, suc, ◌+◌, ◌-◌, ◌*◌, ◌/◌, ◌%◌, ◌^◌, ◌<◌, ◌≤◌}
use native.Mathlib.Nat.{pow-suc, mod-lt, div-add-mod', div-lt_iff_lt-mul}
use native.Mathlib.Decide.{dec_lt}
use native.Mathlib.Omega.{arith}
use borrow.Author.Tests.{lt-ltb, le-ltb, le-leb, ne_eqb}
use lib.Dec.{leb}
use lib.ListN.{length, drop, length-append}
use lib.Seq.{drop-append_seam}
use Rattle.std.proofs.lemmas.Bool.{or_right}
use Rattle.rank1.specs.Tests.{every}
use Rattle.request.specs.Text.{is_digit, digits, decimal_from, decimal, starts_with_zero, is_field, number_text_in, number_text}
use Rattle.request.specs.Reading.{got, read_number}
use Rattle.request.proofs.CondLaws.{both_true}

-- at any fuel: one digit
short_in : (f x : ℕ) → x < 10 → number_text_in f x ≡ (48 + x) ∷ []
short_in zero x l = refl
short_in (suc f) x l = rw (lt-ltb x 10 l)

-- the digits before the last one, and the last one
long_in : (f x : ℕ) → 10 ≤ x → number_text_in (suc f) x ≡ number_text_in f (x / 10) ++ ((48 + x % 10) ∷ [])
long_in f x l = rw (le-ltb x 10 l)

-- fuel that is enough does not matter
fuel : (f g x : ℕ) → x ≤ f → x ≤ g → number_text_in f x ≡ number_text_in g x
fuel zero g x h k = sym (short_in g x (omega arith))
fuel (suc f) zero x h k = short_in (suc f) x (omega arith)
fuel (suc f) (suc g) x h k = elim (dec_lt x 10) [
  | yes l ↦ short_in (suc f) x l ∙ sym (short_in (suc g) x l)
  | no l ↦
      long_in f x (omega arith)
      ∙ ap (λ (s : List ℕ). s ++ ((48 + x % 10) ∷ [])) (fuel f g (x / 10) (omega arith) (omega arith))
      ∙ sym (long_in g x (omega arith))
]

-- one digit
pub number_short : (x : ℕ) → x < 10 → number_text x ≡ (48 + x) ∷ []
unfolding number_text
number_short x l = short_in x x l

-- the digits before the last one, and the last one
pub number_long : (x : ℕ) → 10 ≤ x → number_text x ≡ number_text (x / 10) ++ ((48 + x % 10) ∷ [])
unfolding number_text
number_long zero l = absurd (omega arith)
number_long (suc y) l =
    long_in y (suc y) l
    ∙ ap (λ (s : List ℕ). s ++ ((48 + suc y % 10) ∷ [])) (fuel y (suc y / 10) (suc y / 10) (omega arith) (omega arith))

-- what holds of one digit, and of a number if of that without its last digit, holds of every number
by_digits : (P : ℕ → Type 0) → ((x : ℕ) → x < 10 → P x) → ((x : ℕ) → 10 ≤ x → P (x / 10) → P x) → (x : ℕ) → P x
by_digits P one more x = go (suc x) x (omega arith)
  where
    go : (f y : ℕ) → y < f → P y
    go zero y l = absurd (omega arith)
    go (suc f) y l = elim (dec_lt y 10) [
      | yes k ↦ one y k
      | no k ↦ more y (omega arith) (go f (y / 10) (omega arith))
    ]

-- a number below a power of 10 has no more digits than that
pub number_size : (k x : ℕ) → x < 10 ^ suc k → length (number_text x) ≤ suc k
number_size zero x l = rw (number_short x (omega arith)) (omega arith)
number_size (suc k) x l = elim (dec_lt x 10) [
  | yes h ↦ rw (number_short x h) (omega arith)
  | no h ↦
      rw (number_long x (omega arith), length-append)
      (omega (arith, number_size k (x / 10) ((div-lt_iff_lt-mul (omega arith)).1 (rw pow-suc at l))))
]

-- at least one digit
pub number_some : (x : ℕ) → 1 ≤ length (number_text x)
number_some =
    by_digits (λ x. 1 ≤ length (number_text x))
    (λ x l. rw (number_short x l) (omega arith))
    (λ x l h. rw (number_long x l, length-append) (omega arith))

-- ---- the bytes are digits
-- a digit's byte is one
digit_is : (k : ℕ) → k < 10 → is_digit (48 + k) ≡ true
digit_is k l = rw (le-leb 48 (48 + k) (omega arith), le-leb (48 + k) 57 (omega arith))

-- all of two lists joined
every_append : (f : ℕ → Bool) (s t : List ℕ) → every f s ≡ true → every f t ≡ true → every f (s ++ t) ≡ true
every_append f [] t h k = k
every_append f (b ∷ s) t h k =
    let p = both_true (f b) (every f s) h in
    rw p.0 (every_append f s t p.1 k)

-- every byte of a number's text is a digit
pub number_digits : (x : ℕ) → every is_digit (number_text x) ≡ true
number_digits =
    by_digits (λ x. every is_digit (number_text x) ≡ true)
    (λ x l. rw (number_short x l, digit_is x l))
    (λ x l h. rw (number_long x l) (every_append is_digit (number_text (x / 10)) ((48 + x % 10) ∷ []) h (rw (digit_is (x % 10) (mod-lt x (omega arith))))))

-- digits before another text
digits_append : (s t : List ℕ) → every is_digit s ≡ true → digits (s ++ t) ≡ s ++ digits t
digits_append [] t h = refl
digits_append (a ∷ s) t h =
    let p = both_true (is_digit a) (every is_digit s) h in
    rw p.0 (ap (λ (r : List ℕ). a ∷ r) (digits_append s t p.1))

-- the digits at the front of a number's text, where no digit stands behind it
pub number_front : (x : ℕ) (t : List ℕ) → digits t ≡ [] → digits (number_text x ++ t) ≡ number_text x
number_front x t h =
    digits_append (number_text x) t (number_digits x) ∙ ap (λ (r : List ℕ). number_text x ++ r) h ∙ append-nil (number_text x)

-- ---- reading back
-- digits behind digits
decimal-append : (v : ℕ) (s t : List ℕ) → decimal_from v (s ++ t) ≡ decimal_from (decimal_from v s) t
decimal-append v [] t = refl
decimal-append v (b ∷ s) t = decimal-append (v * 10 + (b - 48)) s t

-- the text of x writes x
pub number-decimal : (x : ℕ) → decimal (number_text x) ≡ x
number-decimal =
    by_digits (λ x. decimal (number_text x) ≡ x)
    (λ x l. rw (number_short x l) (omega arith))
    (λ x l h. rw (number_long x l, decimal-append, h) (omega (arith, div-add-mod' x 10)))

-- so the text determines the number
pub number_unique : (x y : ℕ) → number_text x ≡ number_text y → x ≡ y
number_unique x y e = sym (number-decimal x) ∙ ap decimal e ∙ number-decimal y

-- the front of two lists joined is that of the first
zero_append : (s t : List ℕ) → 1 ≤ length s → starts_with_zero (s ++ t) ≡ starts_with_zero s
zero_append [] t h = absurd (omega arith)
zero_append (b ∷ s) t h = refl

-- no digit 0 stands at the front, except for 0 itself
pub number_leading : (x : ℕ) → 1 ≤ x → starts_with_zero (number_text x) ≡ false
number_leading =
    by_digits (λ x. 1 ≤ x → starts_with_zero (number_text x) ≡ false)
    (λ x l h. rw (number_short x l) (ne_eqb (48 + x) 48 (λ e. omega arith)))
    (λ x l h k. rw (number_long x l) (zero_append (number_text (x / 10)) ((48 + x % 10) ∷ []) (number_some (x / 10)) ∙ h (omega arith)))

-- the text of a number below 1000000 is a field
pub number_field : (x : ℕ) → x < 1000000 → is_field (number_text x) ≡ true
number_field x l =
    rw (le-leb 1 (length (number_text x)) (number_some x), le-leb (length (number_text x)) 6 (number_size 5 x l)) (form (dec_lt x 1))
  where
    form : Dec (x < 1) → (leb (length (number_text x)) 1 || not (starts_with_zero (number_text x))) ≡ true
    form (yes h) = rw (number_short x (omega arith))
    form (no h) = or_right (leb (length (number_text x)) 1) (not (starts_with_zero (number_text x))) (ap not (number_leading x (omega arith)))

-- a number is read back from its text, where no digit stands behind it
pub number_read : (x : ℕ) (t : List ℕ) → x < 1000000 → digits t ≡ [] → read_number (number_text x ++ t) ≡ got x t
number_read x t l h =
    rw (number_front x t h, number_field x l)
    (ap (λ (v : ℕ). got v (drop (length (number_text x)) (number_text x ++ t))) (number-decimal x)
    ∙ ap (λ (r : List ℕ). got x r) (drop-append_seam (number_text x) t))
