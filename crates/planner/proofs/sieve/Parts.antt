-- Parts of a list: one that is lent (`cut`), and the whole when it has come back with other contents (`pasted`).
use mathlib.Core.Path.{◌≡◌, sym, ◌∙◌, ap}
use mathlib.Core.List.{List, ◌++◌}
use Prim.Native.Nat.{ℕ, ◌+◌, ◌-◌, ◌<◌, ◌≤◌}
use native.Mathlib.Omega.{arith}
use lib.ListN.{length, get_or, take, drop, length-drop, length-append, get_or-append}
use lib.Seq.{length-take-le, get_or-take, get_or-drop, get_or-append-add}

-- the part from a to before b
abbrev pub cut : {A : Type 0} → ℕ → ℕ → List A → List A
cut a b xs = take (b - a) (drop a xs)

module _ {A : Type 0} (a b : ℕ) (xs : List A) where
  -- its size
  pub cut-size : b ≤ length xs → length (cut a b xs) ≡ b - a
  cut-size l = length-take-le (b - a) (drop a xs) (simp length-drop (omega arith))

  -- its elements
  pub cut_at : (z : A) (i : ℕ) → i < b - a → get_or (cut a b xs) i z ≡ get_or xs (a + i) z
  cut_at z i l = get_or-take (b - a) (drop a xs) i z l ∙ get_or-drop a xs i z

-- the list with other contents in k places from a on
abbrev pub pasted : {A : Type 0} → ℕ → ℕ → List A → List A → List A
pasted a k xs part = take a xs ++ (part ++ drop k (drop a xs))

module _ {A : Type 0} (a k : ℕ) (xs part : List A) (within : a + k ≤ length xs) (size : length part ≡ k) where
  -- what stands before the part is as long as before
  front : length (take a xs) ≡ a
  front = length-take-le a xs (omega arith)

  -- the whole keeps its size
  pub pasted-size : length (pasted a k xs part) ≡ length xs
  pasted-size =
      omega (
        arith,
        front,
        length-append (take a xs) (part ++ drop k (drop a xs)),
        length-append part (drop k (drop a xs)),
        length-drop k (drop a xs),
        length-drop a xs,
      )

  -- before the part nothing changes
  pub pasted-before : (z : A) (i : ℕ) → i < a → get_or (pasted a k xs part) i z ≡ get_or xs i z
  pasted-before z i l =
      get_or-append (take a xs) (part ++ drop k (drop a xs)) z i (omega (arith, front)) ∙ get_or-take a xs i z l

  -- there stands the part
  pub pasted_at : (z : A) (i : ℕ) → i < k → get_or (pasted a k xs part) (a + i) z ≡ get_or part i z
  pasted_at z i l =
      ap (λ (j : ℕ). get_or (pasted a k xs part) (j + i) z) (sym front)
      ∙ get_or-append-add (take a xs) (part ++ drop k (drop a xs)) i z
      ∙ get_or-append part (drop k (drop a xs)) z i (omega arith)
