-- A part and the byte that is to stand behind it (for Reader::field and Reader::component), and a part with f of it in its place.
use mathlib.Core.Path.{◌≡◌, refl}
use mathlib.Core.Bool.{Bool, true, false, cond}
use mathlib.Core.List.{List, [], ◌∷◌}
use Prim.Native.Nat.{ℕ, zero, suc}
use native.Mathlib.Omega.{arith}
use lib.Dec.{eqb}
use Rattle.request.specs.Reading.{Parsed, bad, got, and_then, expect, negated, unsigned}
use Rattle.request.specs.Inner.{before, mapped}

-- a part, a byte behind it, and then another part
module _ {A B : Type 0} where
  pub before_then : (b : ℕ) (p : Parsed A) (next : A → List ℕ → Parsed B) → and_then p (λ a r. expect b (next a) r) ≡ and_then (before b p) next
  before_then b bad next = refl
  before_then b (got a []) next = refl
  before_then b (got a (c ∷ s)) next = go (eqb c b)
    where
      go : (t : Bool) → cond t (next a s) bad ≡ and_then (cond t (got a s) bad) next
      go true = refl
      go false = refl

-- the sign of a number is told before or after the byte behind it
pub before_negated : (b : ℕ) (p : Parsed ℕ) → before b (negated p) ≡ negated (before b p)
before_negated b bad = refl
before_negated b (got zero []) = refl
before_negated b (got (suc x) []) = refl
before_negated b (got zero (c ∷ s)) = go (eqb c b)
  where
    go : (t : Bool) → bad ≡ negated (cond t (got zero s) bad)
    go true = refl
    go false = refl
before_negated b (got (suc x) (c ∷ s)) = go (eqb c b)
  where
    go : (t : Bool) → cond t (negated (got (suc x) s)) bad ≡ negated (cond t (got (suc x) s) bad)
    go true = refl
    go false = refl

pub before_unsigned : (b : ℕ) (p : Parsed ℕ) → before b (unsigned p) ≡ unsigned (before b p)
before_unsigned b bad = refl
before_unsigned b (got x []) = refl
before_unsigned b (got x (c ∷ s)) = go (eqb c b)
  where
    go : (t : Bool) → cond t (unsigned (got x s)) bad ≡ unsigned (cond t (got x s) bad)
    go true = refl
    go false = refl

-- f of a part: it is out of form, or it is got, as the part is
module _ {A B : Type 0} (f : A → B) where
  pub mapped_bad : (p : Parsed A) → mapped f p ≡ bad → p ≡ bad
  mapped_bad bad e = refl
  mapped_bad (got a s) e = absurd (let z : ◌≡◌ {A = ℕ} 0 1 = cc in omega arith)

  pub record MappedGot (p : Parsed A) (x : B) (left : List ℕ) : Type 0 where
    pub part : A
    pub parsed : p ≡ got part left
    pub value : f part ≡ x

  pub mapped_got : (p : Parsed A) (x : B) (left : List ℕ) → mapped f p ≡ got x left → MappedGot p x left
  mapped_got bad x left e = absurd (let z : ◌≡◌ {A = ℕ} 0 1 = cc in omega arith)
  mapped_got (got a s) x left e = record { part = a; parsed = (let same : s ≡ left = cc in cc); value = cc }
