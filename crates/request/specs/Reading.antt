-- How a request is read: line 1 with plan, d, m and N, then m lines of d fields, and nothing after them.
use Rattle.std.specs.Prelude.{cond, List, [], ◌∷◌, ◌++◌, ℕ, zero, suc, eqb, ltb, ℤ, pos, neg_ℤ, length, drop}
use Rattle.rank1.specs.Refusal.{refuse, first_of, bad_plan, bad_axes}
use Rattle.request.specs.Text.{space, newline, minus, digits, decimal, is_field}

-- what stands at the front of a text, with the text behind it; or it is out of form
pub data Parsed (A : Type 0) : Type 0 where
  bad : Parsed A
  got : A → List ℕ → Parsed A

module _ {A B : Type 0} where
  -- one part and then another
  abbrev pub and_then : Parsed A → (A → List ℕ → Parsed B) → Parsed B
  and_then bad next = bad
  and_then (got a s) next = next a s

module _ {A : Type 0} where
  -- the byte b, and then another part
  abbrev pub expect : ℕ → (List ℕ → Parsed A) → List ℕ → Parsed A
  expect b next [] = bad
  expect b next (c ∷ s) = cond (eqb c b) (next s) bad

module _ {A : Type 0} where
  -- a line of k fields: one space between fields, one newline at the end
  abbrev pub read_line : (List ℕ → Parsed A) → ℕ → List ℕ → Parsed (List A)
  read_line field zero s = bad
  read_line field (suc zero) s = and_then (field s) (λ a r. expect newline (λ t. got (a ∷ []) t) r)
  read_line field (suc (suc k)) s =
      and_then (field s) (λ a r. expect space (λ t. and_then (read_line field (suc k) t) (λ rest u. got (a ∷ rest) u)) r)

-- a field without a sign
abbrev pub read_number : List ℕ → Parsed ℕ
read_number s = cond (is_field (digits s)) (got (decimal (digits s)) (drop (length (digits s)) s)) bad

-- a field of a row: it may carry a minus, but not on 0
abbrev pub negated : Parsed ℕ → Parsed ℤ
negated bad = bad
negated (got zero s) = bad
negated (got (suc x) s) = got (neg_ℤ (pos (suc x))) s

abbrev pub unsigned : Parsed ℕ → Parsed ℤ
unsigned bad = bad
unsigned (got x s) = got (pos x) s

abbrev pub read_signed : List ℕ → Parsed ℤ
read_signed [] = bad
read_signed (b ∷ s) = cond (eqb b minus) (negated (read_number s)) (unsigned (read_number (b ∷ s)))

-- m lines of d fields, as one run of numbers
abbrev pub read_rows : ℕ → ℕ → List ℕ → Parsed (List ℤ)
read_rows d zero s = got [] s
read_rows d (suc m) s = and_then (read_line read_signed d s) (λ k r. and_then (read_rows d m r) (λ ks t. got (k ++ ks) t))

-- what a text asks: a request for the smallest plan, or it is refused with a number
pub data Reading : Type 0 where
  refused : ℕ → Reading
  request : ℕ → ℕ → ℕ → List ℤ → Reading

-- nothing stands after the rows
abbrev pub after_rows : ℕ → ℕ → ℕ → Parsed (List ℤ) → Reading
after_rows plan d ceiling bad = refused 12
after_rows plan d ceiling (got run []) = request plan d ceiling run
after_rows plan d ceiling (got run (b ∷ s)) = refused 12

-- 1, 2 and m not 0 to 512 (3), before the rest is read
abbrev pub head_refusal : ℕ → ℕ → ℕ → ℕ
head_refusal plan d m = first_of (bad_plan plan ∷ bad_axes d ∷ refuse 3 (ltb 512 m) ∷ [])

abbrev pub unless : ℕ → Reading → Reading
unless zero r = r
unless (suc k) r = refused (suc k)

abbrev pub after_head : Parsed (List ℕ) → Reading
after_head bad = refused 12
after_head (got [] s) = refused 12
after_head (got (plan ∷ []) s) = refused 12
after_head (got (plan ∷ d ∷ []) s) = refused 12
after_head (got (plan ∷ d ∷ m ∷ []) s) = refused 12
after_head (got (plan ∷ d ∷ m ∷ ceiling ∷ []) s) = unless (head_refusal plan d m) (after_rows plan d ceiling (read_rows d m s))
after_head (got (plan ∷ d ∷ m ∷ ceiling ∷ x ∷ xs) s) = refused 12

-- too many bytes, the form of line 1, 1, 2, 3, the form of the rest
unfoldable pub reading : List ℕ → Reading
reading text = cond (ltb 32768 (length text)) (refused 12) (after_head (read_line read_number 4 text))
