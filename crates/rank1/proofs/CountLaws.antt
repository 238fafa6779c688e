-- Counting the members of a list that pass a test: in a list joined or mapped, and where none or some pass. Tests and
-- functions that agree on the members; what holds at all places; members of a front part.
use mathlib.Core.Path.{◌≡◌, refl, sym, ◌∙◌, ap, subst}
use mathlib.Core.Logic.{⊎_elim}
use mathlib.Core.Bool.{Bool, true, false, cond, ◌&&◌}
use mathlib.Core.List.Memᴰ
use mathlib.Core.List.{List, [], ◌∷◌, ◌++◌, map, Memᴰ}
use Prim.Native.Nat.{ℕ, zero, suc, ◌+◌, ◌<◌, ◌≤◌}
use native.Mathlib.Nat.{zero-add, add_assoc}
use native.Mathlib.Omega.{arith}
use lib.ListN.{length, get_or, take}
use Rattle.rank1.specs.Tests.{every, count}
use Rattle.rank1.proofs.Distinct.{place_of}

-- 1 where a test passes, else 0
abbrev one : Bool → ℕ
one t = cond t 1 0

-- at most 1
one_small : (t : Bool) → one t ≤ 1
one_small true = omega arith
one_small false = omega arith

module _ {A : Type 0} (f : A → Bool) where
  -- two lists one after the other
  pub count-append : (xs ys : List A) → count f (xs ++ ys) ≡ count f xs + count f ys
  count-append [] ys = sym (zero-add (count f ys))
  count-append (x ∷ xs) ys =
      ap (λ (c : ℕ). one (f x) + c) (count-append xs ys) ∙ sym (add_assoc (one (f x)) (count f xs) (count f ys))

  -- a list of values
  pub count_map : {B : Type 0} (g : B → A) (xs : List B) → count f (map g xs) ≡ count (λ x. f (g x)) xs
  count_map g [] = refl
  count_map g (x ∷ xs) = ap (λ (c : ℕ). one (f (g x)) + c) (count_map g xs)

  -- one member more of a front part
  pub count-take : (xs : List A) (i : ℕ) (d : A) → i < length xs → count f (take (suc i) xs) ≡ count f (take i xs) + cond (f (get_or xs i d)) 1 0
  count-take [] i d l = absurd (omega arith)
  count-take (x ∷ xs) zero d l = omega arith
  count-take (x ∷ xs) (suc i) d l =
      ap (λ (c : ℕ). one (f x) + c) (count-take xs i d (omega arith))
      ∙ sym (add_assoc (one (f x)) (count f (take i xs)) (one (f (get_or xs i d))))

  -- no more than there are
  pub count-le : (xs : List A) → count f xs ≤ length xs
  count-le [] = omega arith
  count-le (x ∷ xs) = omega (arith, one_small (f x), count-le xs)

  -- none passes
  pub count_none : (xs : List A) → ((x : A) → Memᴰ x xs → f x ≡ false) → count f xs ≡ 0
  count_none [] h = refl
  count_none (x ∷ xs) h =
      ap (λ (t : Bool). one t + count f xs) (h x (Memᴰ.head refl))
      ∙ zero-add (count f xs)
      ∙ count_none xs (λ y m. h y (Memᴰ.tail m))

  -- one passes
  pub count_some : (xs : List A) (x : A) → Memᴰ x xs → f x ≡ true → 0 < count f xs
  count_some [] x m e = absurd (Memᴰ.not-nil m)
  count_some (y ∷ xs) x m e =
      ⊎_elim
      (λ p. omega (arith, ap one (sym (ap f p) ∙ e)))
      (λ n. omega (arith, count_some xs x n e))
      (Memᴰ.cases_cons m)

module _ {A : Type 0} where
  -- tests that agree on the members
  pub every_cong : (f g : A → Bool) (xs : List A) → ((x : A) → Memᴰ x xs → f x ≡ g x) → every f xs ≡ every g xs
  every_cong f g [] h = refl
  every_cong f g (x ∷ xs) h =
      ap (λ (t : Bool). t && every f xs) (h x (Memᴰ.head refl))
      ∙ ap (λ (t : Bool). g x && t) (every_cong f g xs (λ y m. h y (Memᴰ.tail m)))

  -- functions that agree on the members
  pub map-members : {B : Type 0} (f g : A → B) (xs : List A) → ((x : A) → Memᴰ x xs → f x ≡ g x) → map f xs ≡ map g xs
  map-members {B = B} f g [] h = refl
  map-members {B = B} f g (x ∷ xs) h =
      ap (λ (y : B). y ∷ map f xs) (h x (Memᴰ.head refl))
      ∙ ap (λ (ys : List B). g x ∷ ys) (map-members f g xs (λ y m. h y (Memᴰ.tail m)))

  -- what holds at all places holds of all members
  pub at_places : (P : A → Type 0) (xs : List A) (d : A) → ((j : ℕ) → j < length xs → P (get_or xs j d)) → (x : A) → Memᴰ x xs → P x
  at_places P xs d h x m = let p = place_of xs x d m in subst P p.is (h p.index p.inside)

  -- a member of a front part is a member
  pub member_take : (i : ℕ) (xs : List A) (x : A) → Memᴰ x (take i xs) → Memᴰ x xs
  member_take zero xs x m = absurd (Memᴰ.not-nil m)
  member_take (suc i) [] x m = m
  member_take (suc i) (y ∷ xs) x m =
      ⊎_elim (λ e. Memᴰ.head e) (λ n. Memᴰ.tail (member_take i xs x n)) (Memᴰ.cases_cons m)
