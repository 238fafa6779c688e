-- Tables of examples: texts as they are written, quoted, and what holds of each entry of a table (same_at, all_at).
use mathlib.Core.Path.{◌≡◌, sym, ◌∙◌, ap, subst}
use mathlib.Core.Logic.{⊎_elim}
use mathlib.Core.List.Memᴰ
use mathlib.Core.List.{List, [], ◌∷◌, map, Memᴰ}
use Prim.Native.Nat.{ℕ}
use Prim.Native.Char.{code}
use Prim.Native.String.{String}
use Prim.Native.String as string

-- the bytes of a quoted text; `\n` is a newline, and every character here is one byte
abbrev pub bytes : String → List ℕ
bytes string.[] = []
bytes (string.◌∷◌ c s) = code c ∷ bytes s

-- where two columns of a table are the same, they are so in each entry
pub same_at : {A B : Type 0} (f g : A → B) (xs : List A) → map f xs ≡ map g xs → (x : A) → Memᴰ x xs → f x ≡ g x
same_at f g [] e x m = absurd (Memᴰ.not-nil m)
same_at f g (y ∷ xs) e x m =
    let first : f y ≡ g y = cc in
    let others : map f xs ≡ map g xs = cc in
    ⊎_elim (λ h. ap f h ∙ first ∙ sym (ap g h)) (same_at f g xs others x) (Memᴰ.cases_cons m)

module _ {A : Type 0} where
  -- what holds of all entries, one by one, holds of each
  abbrev pub All : (A → Type 0) → List A → Type 0
  All P [] = Unit {0}
  All P (x ∷ xs) = P x × All P xs

  pub all_at : (P : A → Type 0) (xs : List A) → All P xs → (x : A) → Memᴰ x xs → P x
  all_at P [] h x m = absurd (Memᴰ.not-nil m)
  all_at P (y ∷ xs) h x m = ⊎_elim (λ e. subst P (sym e) h.0) (all_at P xs h.1 x) (Memᴰ.cases_cons m)
