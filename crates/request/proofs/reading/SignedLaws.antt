-- A field of a row and the byte b behind it, clamped (for Reader::component): with a minus, which was taken from the front, and without.
use mathlib.Core.Path.{◌≡◌, refl, sym, ◌∙◌, ap}
use mathlib.Core.Bool.{Bool, true, false, cond}
use mathlib.Core.List.{List, [], ◌∷◌}
use Prim.Native.Nat.{ℕ, zero, suc}
use native.Mathlib.Omega.{arith}
use lib.Dec.{eqb}
use lib.IntN.{ℤ}
use Rattle.std.proofs.Common.{Option, Some, None}
use Rattle.std.specs.Option.{is_some}
use Rattle.request.specs.Text.{minus}
use Rattle.request.specs.Reading.{Parsed, bad, got, expect, read_number, negated, unsigned, read_signed}
use Rattle.request.specs.Inner.{before, clamped, mapped, signed, Takes}
use Rattle.request.proofs.reading.ByteLaws.{before_negated, before_unsigned}

-- the minus was taken, or not
abbrev taken : List ℕ → Parsed (Unit {0})
taken left = got tt left

abbrev minus_taken : List ℕ → Parsed (Unit {0})
minus_taken s = expect minus taken s

signed-minus : (s left : List ℕ) → minus_taken s ≡ taken left → read_signed s ≡ negated (read_number left)
signed-minus [] left e = absurd (let z : ◌≡◌ {A = ℕ} 0 1 = cc in omega arith)
signed-minus (b ∷ s) left e = go (eqb b minus) e
  where
    go : (t : Bool) → cond t (taken s) bad ≡ taken left → cond t (negated (read_number s)) (unsigned (read_number (b ∷ s))) ≡ negated (read_number left)
    go true e = ap (λ (r : List ℕ). negated (read_number r)) (let same : s ≡ left = cc in same)
    go false e = absurd (let z : ◌≡◌ {A = ℕ} 0 1 = cc in omega arith)

signed_plain : (s : List ℕ) → minus_taken s ≡ bad → read_signed s ≡ unsigned (read_number s)
signed_plain [] e = refl
signed_plain (b ∷ s) e = go (eqb b minus) e
  where
    go : (t : Bool) → cond t (taken s) bad ≡ bad → cond t (negated (read_number s)) (unsigned (read_number (b ∷ s))) ≡ unsigned (read_number (b ∷ s))
    go true e = absurd (let z : ◌≡◌ {A = ℕ} 0 1 = cc in omega arith)
    go false e = refl

-- the sign, of what was read behind it
abbrev pub with_sign : Bool → Parsed ℕ → Parsed ℤ
with_sign true p = negated p
with_sign false p = unsigned p

-- so a field of a row is the number behind the minus, or the number, with its sign
pub component_is : (b : ℕ) (s left : List ℕ) (r : Option (Unit {0})) → Takes (minus_taken s) r left → (r ≡ None → left ≡ s) → before b (read_signed s) ≡ with_sign (is_some r) (before b (read_number left))
component_is b s left None e kept =
    ap (before b) (signed_plain s e) ∙ before_unsigned b (read_number s) ∙ ap (λ (t : List ℕ). unsigned (before b (read_number t))) (sym (kept refl))
component_is b s left (Some done) e kept = ap (before b) (signed-minus s left e) ∙ before_negated b (read_number left)

-- a number that is no minus on 0
pub sign_got : (t : Bool) (p : Parsed ℕ) (v : ℕ) (left : List ℕ) → p ≡ got v left → (t ≡ true → v ≡ 0 → ⊥) → mapped clamped (with_sign t p) ≡ got (clamped (signed t v)) left
sign_got true p zero left e f = absurd (f refl refl)
sign_got true p (suc v) left e f = ap (λ (q : Parsed ℕ). mapped clamped (negated q)) e
sign_got false p v left e f = ap (λ (q : Parsed ℕ). mapped clamped (unsigned q)) e
