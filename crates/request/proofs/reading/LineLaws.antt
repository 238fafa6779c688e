-- A line by what is left of it: fields that were read are put before those that are left (prepend), one field a turn (LineSoFar, for
-- Reader::row).
use mathlib.Core.Path.{◌≡◌, refl, sym, ◌∙◌, ap}
use mathlib.Core.List.{List, [], ◌∷◌, ◌++◌, append-nil, append_assoc}
use Prim.Native.Nat.{ℕ, zero, suc, ◌+◌, ◌-◌, ◌≤◌, ◌<◌}
use native.Mathlib.Nat.{sub-zero}
use native.Mathlib.Omega.{arith}
use borrow.Author.Tests.{lt-ltb, le-ltb}
use lib.Dec.{ltb}
use Rattle.request.specs.Text.{space, newline}
use Rattle.request.specs.Reading.{Parsed, bad, got, and_then, read_line}
use Rattle.request.specs.Inner.{before, separator_of}
use Rattle.std.proofs.lemmas.Bool.{cond-false, cond-true}
use Rattle.request.proofs.reading.ByteLaws.{before_then}

-- ---- parts put before what is read next
module _ {A : Type 0} where
  abbrev pub prepend : List A → Parsed (List A) → Parsed (List A)
  prepend xs p = and_then p (λ ys t. got (xs ++ ys) t)

  pub prepend_none : (p : Parsed (List A)) → p ≡ prepend [] p
  prepend_none bad = refl
  prepend_none (got ys t) = refl

  pub prepend_twice : (xs ys : List A) (p : Parsed (List A)) → prepend xs (prepend ys p) ≡ prepend (xs ++ ys) p
  prepend_twice xs ys bad = refl
  prepend_twice xs ys (got zs t) = ap (λ (l : List A). got l t) (sym (append_assoc xs ys zs))

  pub prepend_end : (xs : List A) (t : List ℕ) → prepend xs (got [] t) ≡ got xs t
  prepend_end xs t = ap (λ (l : List A). got l t) (append-nil xs)

-- ---- a line by what is left of it: k fields, the line's end behind the last
module _ {A : Type 0} where
  abbrev pub line_left : (List ℕ → Parsed A) → ℕ → List ℕ → Parsed (List A)
  line_left field zero s = got [] s
  line_left field (suc k) s = read_line field (suc k) s

-- the byte behind a field with k fields left behind it
abbrev pub separator_left : ℕ → ℕ
separator_left zero = newline
separator_left (suc k) = space

module _ {A : Type 0} (field : List ℕ → Parsed A) where
  pub line_all : (d : ℕ) (s : List ℕ) → 1 ≤ d → read_line field d s ≡ line_left field d s
  line_all zero s l = absurd (omega arith)
  line_all (suc k) s l = refl

  pub line-more : (k : ℕ) (s : List ℕ) → line_left field (suc k) s ≡ and_then (before (separator_left k) (field s)) (λ a t. prepend (a ∷ []) (line_left field k t))
  line-more zero s = before_then newline (field s) (λ a t. got (a ∷ []) t)
  line-more (suc k) s = before_then space (field s) (λ a t. prepend (a ∷ []) (read_line field (suc k) t))

  -- the next field is out of form, or it is got
  pub line_bad : (k : ℕ) (s : List ℕ) → before (separator_left k) (field s) ≡ bad → line_left field (suc k) s ≡ bad
  line_bad k s e = line-more k s ∙ ap (λ (p : Parsed A). and_then p (λ a t. prepend (a ∷ []) (line_left field k t))) e

  pub line_got : (k : ℕ) (s : List ℕ) (a : A) (t : List ℕ) → before (separator_left k) (field s) ≡ got a t → line_left field (suc k) s ≡ prepend (a ∷ []) (line_left field k t)
  line_got k s a t e = line-more k s ∙ ap (λ (p : Parsed A). and_then p (λ a t. prepend (a ∷ []) (line_left field k t))) e

-- the byte behind field j of d, where k fields are left behind it
separator_left_lem : (j d k : ℕ) → d ≡ j + suc k → separator_of j d ≡ separator_left k
separator_left_lem j d zero e = cond-false (ltb (j + 1) d) space newline (le-ltb (j + 1) d (omega arith))
separator_left_lem j d (suc k) e = cond-true (ltb (j + 1) d) space newline (lt-ltb (j + 1) d (omega arith))

-- ---- a line of d fields, one field a turn: the first j fields xs are read, and the others are left
pub record LineSoFar {A : Type 0} (field : List ℕ → Parsed A) (s : List ℕ) (d : ℕ) (xs : List A) (j : ℕ) (rest : List ℕ) : Type 0 where
  pub few : j ≤ d
  pub left : read_line field d s ≡ prepend xs (line_left field (d - j) rest)

module _ {A : Type 0} (field : List ℕ → Parsed A) (s : List ℕ) (d : ℕ) where
  pub line-start : 1 ≤ d → LineSoFar field s d [] 0 s
  line-start some = record {
    few = omega arith;
    left = rw sub-zero (line_all field d s some ∙ prepend_none (line_left field d s));
  }

  module _ (xs : List A) (j : ℕ) (rest : List ℕ) (so_far : LineSoFar field s d xs j rest) where
    module _ (more : j < d) where
      -- how many fields are left behind the next one
      abbrev behind_it : ℕ
      behind_it = d - suc j

      next_left : read_line field d s ≡ prepend xs (line_left field (suc behind_it) rest)
      next_left =
          let left : d - j ≡ suc behind_it = omega arith in
          so_far.left ∙ ap (λ (n : ℕ). prepend xs (line_left field n rest)) left

      next_byte : before (separator_left behind_it) (field rest) ≡ before (separator_of j d) (field rest)
      next_byte = ap (λ (b : ℕ). before b (field rest)) (sym (separator_left_lem j d behind_it (omega arith)))

      -- a field is read
      pub line-next : (x : A) (behind : List ℕ) → before (separator_of j d) (field rest) ≡ got x behind → LineSoFar field s d (xs ++ (x ∷ [])) (j + 1) behind
      line-next x behind e =
          let left : behind_it ≡ d - (j + 1) = omega arith in
          record {
            few = omega arith;
            left =
                next_left
                ∙ ap (prepend xs) (line_got field behind_it rest x behind (next_byte ∙ e))
                ∙ prepend_twice xs (x ∷ []) (line_left field behind_it behind)
                ∙ ap (λ (n : ℕ). prepend (xs ++ (x ∷ [])) (line_left field n behind)) left;
          }

      -- a field is out of form, or another byte stands behind it
      pub line_stop : before (separator_of j d) (field rest) ≡ bad → read_line field d s ≡ bad
      line_stop e = next_left ∙ ap (prepend xs) (line_bad field behind_it rest (next_byte ∙ e))
