-- How a request is written (document 01, "The ticket program"): one space between fields, one newline at the end of each line; line 1
-- with plan, d, m and N, then a line for each row.
use Rattle.std.specs.Prelude.{◌≡◌, ℕ, suc, ◌≤◌, ◌<◌, ℤ, pos, negsuc, nat_abs, length}
use mathlib.Core.List.{List, [], ◌∷◌, ◌++◌, Memᴰ}
use Rattle.request.specs.Text.{space, newline, minus, number_text}

-- a field of a row: a minus before a negative number
abbrev pub signed_text : ℤ → List ℕ
signed_text (pos x) = number_text x
signed_text (negsuc x) = minus ∷ number_text (suc x)

module _ {A : Type 0} where
  -- a line of fields
  abbrev pub line_text : (A → List ℕ) → List A → List ℕ
  line_text field [] = newline ∷ []
  line_text field (x ∷ []) = field x ++ newline ∷ []
  line_text field (x ∷ y ∷ xs) = field x ++ space ∷ line_text field (y ∷ xs)

-- a line for each row
abbrev pub rows_text : List (List ℤ) → List ℕ
rows_text [] = []
rows_text (k ∷ ks) = line_text signed_text k ++ rows_text ks

-- a request
abbrev pub request_text : ℕ → ℕ → ℕ → List (List ℤ) → List ℕ
request_text plan d ceiling ks = line_text number_text (plan ∷ d ∷ length ks ∷ ceiling ∷ []) ++ rows_text ks

-- a row that can be written: d numbers of at most 6 digits
pub record WritableRow (d : ℕ) (k : List ℤ) : Type 0 where
  pub size : length k ≡ d
  pub numbers : (x : ℤ) → Memᴰ x k → nat_abs x < 1000000

-- a request that can be written
pub record Writable (plan d ceiling : ℕ) (ks : List (List ℤ)) : Type 0 where
  pub plans : plan ≤ 4
  pub axes : (1 ≤ d) × (d ≤ 6)
  pub count : length ks ≤ 512
  pub rows : (k : List ℤ) → Memᴰ k ks → WritableRow d k
  pub bound : ceiling < 1000000
