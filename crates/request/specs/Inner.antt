-- What the private functions say of their answers. No public contract cites this.
use Rattle.std.specs.Prelude.{◌≡◌, Bool, true, false, cond, List, [], ◌∷◌, map, ℕ, ◌*◌, ◌+◌, ◌≤◌, ltb, ℤ, pos, nat_abs, neg_ℤ, length, Option, Some, None, Result, Ok, Err}
use Rattle.rank1.specs.declared.Refusal.{Refusal}
use Rattle.rank1.specs.Named.{number, plan_number}
use Rattle.request.specs.declared.reading.Head.{Head}
use Rattle.request.specs.declared.reading.Request.{Request}
use Rattle.request.specs.Text.{space, newline}
use Rattle.request.specs.Reading.{Parsed, bad, got, expect, Reading, refused, request}

-- ---- reading
-- a component that is larger than any permitted one stands as 256: it is refused with 4 just as well
abbrev pub clamped : ℤ → ℤ
clamped x = cond (ltb 255 (nat_abs x)) (pos 256) x

-- a ceiling above 8192 stands as 8193: it is refused with 6 just as well
abbrev pub clamped_ceiling : ℕ → ℕ
clamped_ceiling n = cond (ltb 8192 n) 8193 n

-- a part and the byte b behind it
abbrev pub before : {A : Type 0} → ℕ → Parsed A → Parsed A
before b bad = bad
before b (got a s) = expect b (λ t. got a t) s

-- what was parsed, with f of it in its place
abbrev pub mapped : {A B : Type 0} → (A → B) → Parsed A → Parsed B
mapped f bad = bad
mapped f (got a s) = got (f a) s

-- what was taken from the front of a text: a part, and the rest is left; or it is out of form
abbrev pub Takes : {A : Type 0} → Parsed A → Option A → List ℕ → Type 0
Takes p None left = p ≡ bad
Takes p (Some x) left = p ≡ got x left

-- the fields of line 1
abbrev pub HeadIs : Parsed (List ℕ) → Option Head → List ℕ → Type 0
HeadIs p None left = p ≡ bad
HeadIs p (Some head) left = p ≡ got (head.plan ∷ head.d ∷ head.m ∷ head.ceiling ∷ []) left

-- numbers of rows, which stand clamped in the places
abbrev pub Fills : Parsed (List ℤ) → Option (Unit {0}) → List ℕ → List ℤ → Type 0
Fills p None left places = p ≡ bad
Fills p (Some done) left places = mapped (map clamped) p ≡ got places left

-- line 1 is in range
pub record HeadIn (plan d m : ℕ) : Type 0 where
  pub plans : plan ≤ 4
  pub axes : (1 ≤ d) × (d ≤ 6)
  pub rows : m ≤ 512

-- rows of d numbers each, with line 1 in range
pub record Counted (plan d : ℕ) (rows : List ℤ) : Type 0 where
  pub m : ℕ
  pub head : HeadIn plan d m
  pub size : length rows ≡ m * d

-- a request with its rows, clamped
pub record RowsRead (r : Reading) (asked : Request) : Type 0 where
  pub run : List ℤ
  pub bound : ℕ
  pub asks : r ≡ request (plan_number asked.plan) asked.d bound run
  pub counted : Counted (plan_number asked.plan) asked.d asked.rows.now
  pub is_rows : asked.rows.now ≡ map clamped run
  pub is_ceiling : asked.ceiling ≡ clamped_ceiling bound

-- what was asked
abbrev pub AskedIs : Reading → Result Request Refusal → Type 0
AskedIs r (Ok asked) = RowsRead r asked
AskedIs r (Err refusal) = r ≡ refused (number refusal)

-- a number with a sign
abbrev pub signed : Bool → ℕ → ℤ
signed true x = neg_ℤ (pos x)
signed false x = pos x

-- the byte behind field j of d
abbrev pub separator_of : ℕ → ℕ → ℕ
separator_of j d = cond (ltb (j + 1) d) space newline
