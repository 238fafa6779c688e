-- A field is the text of its number, and nothing else is one: digits behind a number lengthen its text (text_more), so a field's
-- digits are the text of the number that they write (field_text), which is below 1000000 (field_small, by number-large). What is read
-- as a field is that text and then what is left: number_only, and signed_only in a row.
use mathlib.Core.Path.{◌≡◌, refl, sym, ◌∙◌, ap, subst}
use mathlib.Core.Bool.{Bool, true≢false, true, false, cond, not, ◌||◌}
use mathlib.Core.List.{List, [], ◌∷◌, ◌++◌, append-nil, append_assoc}
use Prim.Native.Nat.{ℕ, zero, suc, ◌+◌, ◌-◌, ◌*◌, ◌/◌, ◌%◌, ◌^◌, ◌<◌, ◌≤◌}
use native.Mathlib.Nat.{pow-suc, one-le-pow}
use native.Mathlib.Decide.{dec_lt}
use native.Mathlib.Omega.{arith}
use borrow.Author.Tests.{lt-leb, not-true, eqb-true, eqb-false, ne_eqb}
use lib.Dec.{eqb, leb}
use lib.IntN.{ℤ, pos, negsuc, nat_abs}
use lib.ListN.{length, drop, length-append, take-append-drop}
use Rattle.rank1.specs.Tests.{every}
use Rattle.rank1.specs.Refusal.{within}
use Rattle.request.specs.Text.{minus, is_digit, digits, decimal_from, decimal, is_field, number_text}
use Rattle.request.specs.Reading.{Parsed, bad, got, read_number, negated, unsigned, read_signed}
use Rattle.request.specs.Printing.{signed_text}
use Rattle.std.proofs.lemmas.Bool.{cond-false}
use Rattle.request.proofs.CondLaws.{within_of, both_true}
use Rattle.request.proofs.NumberLaws.{number_long, number_short, number_some, number_digits, number_read}
use Rattle.request.proofs.reading.DigitLaws.{digits_front, all_digits}

-- ---- digits are the text of the number that they write
digit_in : (b : ℕ) → is_digit b ≡ true → (48 ≤ b) × (b ≤ 57)
digit_in b h = within_of 48 57 b h

-- one digit behind a number that is not 0
number_digit : (v b : ℕ) → 1 ≤ v → is_digit b ≡ true → number_text (v * 10 + (b - 48)) ≡ number_text v ++ (b ∷ [])
number_digit v b l h =
    let d = digit_in b h in
    let x = v * 10 + (b - 48) in
    let front : x / 10 ≡ v = omega (arith, d.0, d.1) in
    let last : 48 + x % 10 ≡ b = omega (arith, d.0, d.1) in
    number_long x (omega arith)
    ∙ ap (λ (k : ℕ). number_text k ++ ((48 + x % 10) ∷ [])) front
    ∙ ap (λ (c : ℕ). number_text v ++ (c ∷ [])) last

-- some digits behind it
text_more : (v : ℕ) (s : List ℕ) → 1 ≤ v → every is_digit s ≡ true → number_text (decimal_from v s) ≡ number_text v ++ s
text_more v [] l h = sym (append-nil (number_text v))
text_more v (b ∷ s) l h =
    let p = both_true (is_digit b) (every is_digit s) h in
    text_more (v * 10 + (b - 48)) s (omega arith) p.1
    ∙ ap (λ (r : List ℕ). r ++ s) (number_digit v b l p.0)
    ∙ append_assoc (number_text v) (b ∷ []) s

-- so a field is the text of its number
pub field_text : (s : List ℕ) → every is_digit s ≡ true → is_field s ≡ true → number_text (decimal s) ≡ s
field_text [] h f = absurd (true≢false (sym f))
field_text (b ∷ []) h f =
    let d = digit_in b (both_true (is_digit b) true h).0 in
    let same : 48 + (0 * 10 + (b - 48)) ≡ b = omega (arith, d.0) in
    number_short (0 * 10 + (b - 48)) (omega (arith, d.1)) ∙ ap (λ (c : ℕ). c ∷ []) same
field_text (b ∷ c ∷ s) h f =
    let p = both_true (is_digit b) (every is_digit (c ∷ s)) h in
    let d = digit_in b p.0 in
    let unpadded : not (eqb b 48) ≡ true =
    ap (λ (t : Bool). t || not (eqb b 48)) (sym (lt-leb (length (b ∷ c ∷ s)) 1 (omega arith)))
    ∙ (both_true (within 1 6 (length (b ∷ c ∷ s))) (leb (length (b ∷ c ∷ s)) 1 || not (eqb b 48)) f).1 in
    let some : 1 ≤ 0 * 10 + (b - 48) = above b d.0 (eqb-false b 48 (not-true (eqb b 48) unpadded)) in
    let same : 48 + (0 * 10 + (b - 48)) ≡ b = omega (arith, d.0) in
    text_more (0 * 10 + (b - 48)) (c ∷ s) some p.1
    ∙ ap (λ (r : List ℕ). r ++ (c ∷ s)) (number_short (0 * 10 + (b - 48)) (omega (arith, d.1)) ∙ ap (λ (e : ℕ). e ∷ []) same)
  where
    above : (b : ℕ) → 48 ≤ b → (b ≡ 48 → ⊥) → 1 ≤ 0 * 10 + (b - 48)
    above b l n = elim (dec_lt 48 b) [
      | yes k ↦ omega arith
      | no k ↦ absurd (n (omega arith))
    ]

-- a number from 10 ^ k on has more than k digits
number-large : (k x : ℕ) → 10 ^ k ≤ x → k < length (number_text x)
number-large zero x l = omega (arith, number_some x)
number-large (suc k) x l =
    let some = one-le-pow k 10 (omega arith) in
    let p : 10 ^ k * 10 ≤ x = rw pow-suc at l in
    rw (number_long x (omega arith), length-append) (omega (arith, number-large k (x / 10) (omega arith)))

-- so a field's number is below 1000000
pub field_small : (s : List ℕ) → is_field s ≡ true → number_text (decimal s) ≡ s → decimal s < 1000000
field_small s f e =
    let few = within_of 1 6 (length s) (both_true (within 1 6 (length s)) _ f).0 in
    elim (dec_lt (decimal s) 1000000) [
      | yes l ↦ l
      | no l ↦ absurd (omega (arith, number-large 6 (decimal s) (omega arith), ap length e, few.1))
    ]

-- ---- what is read is a number's text
-- a field without a sign: the text of its number, and then what is left
pub number_only : (s : List ℕ) (x : ℕ) (t : List ℕ) → read_number s ≡ got x t → (s ≡ number_text x ++ t) × (x < 1000000)
number_only s x t e = go (is_field (digits s)) refl e
  where
    go : (f : Bool) → is_field (digits s) ≡ f → cond f (got (decimal (digits s)) (drop (length (digits s)) s)) bad ≡ got x t → (s ≡ number_text x ++ t) × (x < 1000000)
    go true h e =
        let value : decimal (digits s) ≡ x = cc in
        let left : drop (length (digits s)) s ≡ t = cc in
        let text = field_text (digits s) (all_digits s) h in
        let rest = drop (length (digits s)) s in (
          sym (take-append-drop (length (digits s)) s)
              ∙ ap (λ (r : List ℕ). r ++ rest) (sym (digits_front s) ∙ sym text ∙ ap number_text value)
              ∙ ap (λ (r : List ℕ). number_text x ++ r) left,
          subst (λ (v : ℕ). v < 1000000) value (field_small (digits s) h text),
        )
    go false h e = absurd (let z : ◌≡◌ {A = ℕ} 0 1 = cc in omega arith)

-- ---- a field of a row
-- a digit is no minus
plain : (s t : List ℕ) → every is_digit s ≡ true → 1 ≤ length s → read_signed (s ++ t) ≡ unsigned (read_number (s ++ t))
plain [] t h l = absurd (omega arith)
plain (b ∷ s) t h l =
    let d = digit_in b (both_true (is_digit b) (every is_digit s) h).0 in
    cond-false (eqb b minus) (negated (read_number (s ++ t))) (unsigned (read_number (b ∷ s ++ t))) (ne_eqb b minus (λ e. omega (arith, d.0)))

-- a number is read back from its text, where no digit stands behind it
pub signed_read : (x : ℤ) (t : List ℕ) → nat_abs x < 1000000 → digits t ≡ [] → read_signed (signed_text x ++ t) ≡ got x t
signed_read (pos n) t l h = plain (number_text n) t (number_digits n) (number_some n) ∙ ap unsigned (number_read n t l h)
signed_read (negsuc n) t l h = ap negated (number_read (suc n) t l h)

-- what was read with a minus, and without
negated_only : (p : Parsed ℕ) (x : ℤ) (t s : List ℕ) → ((y : ℕ) (u : List ℕ) → p ≡ got y u → (s ≡ number_text y ++ u) × (y < 1000000)) → negated p ≡ got x t → (minus ∷ s ≡ signed_text x ++ t) × (nat_abs x < 1000000)
negated_only bad x t s f e = absurd (let z : ◌≡◌ {A = ℕ} 0 1 = cc in omega arith)
negated_only (got zero u) x t s f e = absurd (let z : ◌≡◌ {A = ℕ} 0 1 = cc in omega arith)
negated_only (got (suc y) u) x t s f e =
    let value : negsuc y ≡ x = cc in
    let left : u ≡ t = cc in
    let is = f (suc y) u refl in (
      ap (λ (r : List ℕ). minus ∷ r) is.0
          ∙ ap (λ (v : ℤ). signed_text v ++ u) value
          ∙ ap (λ (r : List ℕ). signed_text x ++ r) left,
      subst (λ (v : ℤ). nat_abs v < 1000000) value is.1,
    )

unsigned_only : (p : Parsed ℕ) (x : ℤ) (t s : List ℕ) → ((y : ℕ) (u : List ℕ) → p ≡ got y u → (s ≡ number_text y ++ u) × (y < 1000000)) → unsigned p ≡ got x t → (s ≡ signed_text x ++ t) × (nat_abs x < 1000000)
unsigned_only bad x t s f e = absurd (let z : ◌≡◌ {A = ℕ} 0 1 = cc in omega arith)
unsigned_only (got y u) x t s f e =
    let value : pos y ≡ x = cc in
    let left : u ≡ t = cc in
    let is = f y u refl in (
      is.0 ∙ ap (λ (v : ℤ). signed_text v ++ u) value ∙ ap (λ (r : List ℕ). signed_text x ++ r) left,
      subst (λ (v : ℤ). nat_abs v < 1000000) value is.1,
    )

-- so it is the text of its number, and then what is left
pub signed_only : (s : List ℕ) (x : ℤ) (t : List ℕ) → read_signed s ≡ got x t → (s ≡ signed_text x ++ t) × (nat_abs x < 1000000)
signed_only [] x t e = absurd (let z : ◌≡◌ {A = ℕ} 0 1 = cc in omega arith)
signed_only (b ∷ s) x t e = go (eqb b minus) refl e
  where
    go : (f : Bool) → eqb b minus ≡ f → cond f (negated (read_number s)) (unsigned (read_number (b ∷ s))) ≡ got x t → (b ∷ s ≡ signed_text x ++ t) × (nat_abs x < 1000000)
    go true h e =
        let is = negated_only (read_number s) x t s (number_only s) e in
        (ap (λ (c : ℕ). c ∷ s) (eqb-true b minus h) ∙ is.0, is.1)
    go false h e = unsigned_only (read_number (b ∷ s)) x t (b ∷ s) (number_only (b ∷ s)) e
