-- Line 1: its four fields, each with the byte behind it (head_third, head_fourth and head_got, for Reader::head), and its refusals by
-- the three tests (head_is).
use mathlib.Core.Path.{◌≡◌, ◌∙◌, ap}
use mathlib.Core.Bool.{Bool, not}
use mathlib.Core.List.{List, [], ◌∷◌}
use Prim.Native.Nat.{ℕ}
use lib.Dec.{ltb}
use Rattle.rank1.specs.Refusal.{within, refuse, first_of, bad_axes}
use Rattle.request.specs.Text.{space, newline}
use Rattle.request.specs.Reading.{bad, got, read_line, read_number, head_refusal}
use Rattle.request.specs.Inner.{before}
use Rattle.request.proofs.reading.LineLaws.{prepend, line_left, line_bad, line_got}

-- ---- the fields
module _ (s s1 s2 : List ℕ) (a b : ℕ) (first : before space (read_number s) ≡ got a s1) (second : before space (read_number s1) ≡ got b s2) where
  two_read : read_line read_number 4 s ≡ prepend (a ∷ []) (prepend (b ∷ []) (line_left read_number 2 s2))
  two_read = line_got read_number 3 s a s1 first ∙ ap (prepend (a ∷ [])) (line_got read_number 2 s1 b s2 second)

  -- the third is out of form
  pub head_third : before space (read_number s2) ≡ bad → read_line read_number 4 s ≡ bad
  head_third e = two_read ∙ ap (λ p. prepend (a ∷ []) (prepend (b ∷ []) p)) (line_bad read_number 1 s2 e)

  module _ (s3 : List ℕ) (c : ℕ) (third : before space (read_number s2) ≡ got c s3) where
    three_read : read_line read_number 4 s ≡ prepend (a ∷ []) (prepend (b ∷ []) (prepend (c ∷ []) (line_left read_number 1 s3)))
    three_read = two_read ∙ ap (λ p. prepend (a ∷ []) (prepend (b ∷ []) p)) (line_got read_number 1 s2 c s3 third)

    -- the fourth is out of form
    pub head_fourth : before newline (read_number s3) ≡ bad → read_line read_number 4 s ≡ bad
    head_fourth e = three_read ∙ ap (λ p. prepend (a ∷ []) (prepend (b ∷ []) (prepend (c ∷ []) p))) (line_bad read_number 0 s3 e)

    -- all four are read
    pub head_got : (x : ℕ) (left : List ℕ) → before newline (read_number s3) ≡ got x left → read_line read_number 4 s ≡ got (a ∷ b ∷ c ∷ x ∷ []) left
    head_got x left e = three_read ∙ ap (λ p. prepend (a ∷ []) (prepend (b ∷ []) (prepend (c ∷ []) p))) (line_got read_number 0 s3 x left e)

-- ---- 1, 2 and 3 before the rest is read, by the three tests
pub head_is : (plan d m : ℕ) (a b e : Bool) → ltb 4 plan ≡ a → within 1 6 d ≡ b → ltb 512 m ≡ e → head_refusal plan d m ≡ first_of (refuse 1 a ∷ refuse 2 (not b) ∷ refuse 3 e ∷ [])
head_is plan d m a b e p q r =
    ap (λ (t : Bool). first_of (refuse 1 t ∷ bad_axes d ∷ refuse 3 (ltb 512 m) ∷ [])) p
    ∙ ap (λ (t : Bool). first_of (refuse 1 a ∷ refuse 2 (not t) ∷ refuse 3 (ltb 512 m) ∷ [])) q
    ∙ ap (λ (t : Bool). first_of (refuse 1 a ∷ refuse 2 (not b) ∷ refuse 3 t ∷ [])) r
