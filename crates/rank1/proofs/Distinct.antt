-- Lists no two of whose members are equal: members by their places, maps, and how many different numbers there are below n.
use mathlib.Core.Path.{◌≡◌, refl, sym, ap, ◌∙◌}
use mathlib.Core.Logic.{◌≢◌, ⊎_elim}
use mathlib.Core.List.Memᴰ
use mathlib.Core.List.{List, [], ◌∷◌, ◌++◌, map, Memᴰ}
use Prim.Native.Nat.{ℕ, zero, suc, ◌<◌, ◌≤◌}
use native.Mathlib.Decide.{ℕ_discrete}
use native.Mathlib.Omega.{arith}
use lib.ListN.{length, get_or}
use Rattle.rank1.specs.Valid.{Distinct}

module _ {A : Type 0} where
  pub distinct_append : (xs ys : List A) → Distinct xs → Distinct ys → ((x : A) → Memᴰ x xs → Memᴰ x ys → ⊥) → Distinct (xs ++ ys)
  distinct_append [] ys dx dy apart = dy
  distinct_append (x ∷ xs) ys dx dy apart = (
    (λ m. ⊎_elim dx.0 (apart x (Memᴰ.head refl)) (Memᴰ.append_cases xs m)),
    distinct_append xs ys dx.1 dy (λ y my. apart y (Memᴰ.tail my)),
  )

  pub member_at : (xs : List A) (x : A) (j : ℕ) → j < length xs → Memᴰ (get_or xs j x) xs
  member_at [] x j l = absurd (omega arith)
  member_at (y ∷ xs) x zero l = Memᴰ.head refl
  member_at (y ∷ xs) x (suc j) l = Memᴰ.tail (member_at xs x j (omega arith))

  -- where a member stands
  pub record Place (xs : List A) (x d : A) : Type 0 where
    pub index : ℕ
    pub inside : index < length xs
    pub is : get_or xs index d ≡ x

  pub place_of : (xs : List A) (x d : A) → Memᴰ x xs → Place xs x d
  place_of [] x d m = absurd (Memᴰ.not-nil m)
  place_of (y ∷ xs) x d m =
      ⊎_elim
      (λ e. record { index = 0; inside = omega arith; is = sym e })
      (λ n. let p = place_of xs x d n in record { index = suc p.index; inside = omega (arith, p.inside); is = p.is })
      (Memᴰ.cases_cons m)

  -- members at different places are different
  pub distinct_at : (xs : List A) (x : A) (i j : ℕ) → Distinct xs → i < j → j < length xs → get_or xs i x ≢ get_or xs j x
  distinct_at [] x i j d l h = absurd (omega arith)
  distinct_at (y ∷ xs) x i zero d l h = absurd (omega arith)
  distinct_at (y ∷ xs) x zero (suc j) d l h = λ e. d.0 (Memᴰ.cast e (member_at xs x j (omega arith)))
  distinct_at (y ∷ xs) x (suc i) (suc j) d l h = distinct_at xs x i j d.1 (omega arith) (omega arith)

module _ {A B : Type 0} (f : A → B) where
  -- where f tells members apart, their values differ
  pub distinct_map : (xs : List A) → Distinct xs → ((x y : A) → Memᴰ x xs → Memᴰ y xs → x ≢ y → f x ≢ f y) → Distinct (map f xs)
  distinct_map [] d h = tt
  distinct_map (x ∷ xs) d h = (
    (λ m. let r = Memᴰ.of_map f xs m in h r.0 x (Memᴰ.tail r.1) (Memᴰ.head refl) (λ e. d.0 (Memᴰ.cast (sym e) r.1)) r.2),
    distinct_map xs d.1 (λ a b i j. h a b (Memᴰ.tail i) (Memᴰ.tail j)),
  )

  image : (xs : List A) (y : A) → Memᴰ y xs → Memᴰ (f y) (map f xs)
  image [] y m = absurd (Memᴰ.not-nil m)
  image (x ∷ xs) y m = ⊎_elim (λ e. Memᴰ.head (ap f e)) (λ n. Memᴰ.tail (image xs y n)) (Memᴰ.cases_cons m)

  -- where the values differ, f tells members apart
  pub map_distinct : (xs : List A) → Distinct (map f xs) → (x y : A) → Memᴰ x xs → Memᴰ y xs → x ≢ y → f x ≢ f y
  map_distinct [] d x y m n h e = Memᴰ.not-nil m
  map_distinct (w ∷ xs) d x y m n h e =
      ⊎_elim
      (λ p. ⊎_elim
      (λ q. h (p ∙ sym q))
      (λ j. d.0 (Memᴰ.cast (ap f (sym p) ∙ e) (image xs y j)))
      (Memᴰ.cases_cons n))
      (λ i. ⊎_elim
      (λ q. d.0 (Memᴰ.cast (ap f (sym q) ∙ sym e) (image xs x i)))
      (λ j. map_distinct xs d.1 x y i j h e)
      (Memᴰ.cases_cons n))
      (Memᴰ.cases_cons m)

module _ {A : Type 0} (dec : Discrete A) (a : A) where
  keep : (x : A) → Dec (a ≡ x) → List A → List A
  keep x (yes e) r = r
  keep x (no e) r = x ∷ r

  -- the list without a
  without : List A → List A
  unfolding keep
  without [] = []
  without (x ∷ xs) = keep x (dec a x) (without xs)

  without_held : (xs : List A) (y : A) → Memᴰ y (without xs) → Memᴰ y xs × (y ≢ a)
  unfolding without keep
  without_held [] y m = absurd (Memᴰ.not-nil m)
  without_held (x ∷ xs) y m = go (dec a x) m (without_held xs y)
    where
      go : (c : Dec (a ≡ x)) → Memᴰ y (keep x c (without xs)) → (Memᴰ y (without xs) → Memᴰ y xs × (y ≢ a)) → Memᴰ y (x ∷ xs) × (y ≢ a)
      go (yes e) i f = let r = f i in (Memᴰ.tail r.0, r.1)
      go (no e) i f =
          ⊎_elim (λ j. (Memᴰ.head j, λ k. e (sym k ∙ j))) (λ j. let r = f j in (Memᴰ.tail r.0, r.1)) (Memᴰ.cases_cons i)

  without_distinct : (xs : List A) → Distinct xs → Distinct (without xs)
  unfolding without keep
  without_distinct [] h = tt
  without_distinct (x ∷ xs) h = go (dec a x) (without_distinct xs h.1)
    where
      go : (c : Dec (a ≡ x)) → Distinct (without xs) → Distinct (keep x c (without xs))
      go (yes e) r = r
      go (no e) r = ((λ m. h.0 (without_held xs x m).0), r)

  without_none : (xs : List A) → (Memᴰ a xs → ⊥) → length (without xs) ≡ length xs
  unfolding without keep
  without_none [] h = refl
  without_none (x ∷ xs) h = go (dec a x) (without_none xs (λ m. h (Memᴰ.tail m)))
    where
      go : (c : Dec (a ≡ x)) → length (without xs) ≡ length xs → length (keep x c (without xs)) ≡ suc (length xs)
      go (yes e) r = absurd (h (Memᴰ.head e))
      go (no e) r = ap suc r

  -- one element fewer at most
  without_length : (xs : List A) → Distinct xs → length xs ≤ suc (length (without xs))
  unfolding without keep
  without_length [] h = omega arith
  without_length (x ∷ xs) h = go (dec a x) (without_length xs h.1)
    where
      go : (c : Dec (a ≡ x)) → length xs ≤ suc (length (without xs)) → suc (length xs) ≤ suc (length (keep x c (without xs)))
      go (yes e) r = omega (arith, without_none xs (λ m. h.0 (Memᴰ.cast (sym e) m)))
      go (no e) r = omega arith

-- the pigeonhole: different numbers below n are at most n
pub pigeonhole : (n : ℕ) (xs : List ℕ) → Distinct xs → ((x : ℕ) → Memᴰ x xs → x < n) → length xs ≤ n
unfolding without
pigeonhole zero [] d h = omega arith
pigeonhole zero (x ∷ xs) d h = absurd (omega (arith, h x (Memᴰ.head refl)))
pigeonhole (suc n) xs d h =
    omega (arith, without_length ℕ_discrete n xs d, pigeonhole n (without ℕ_discrete n xs) (without_distinct ℕ_discrete n xs d) below)
  where
    below : (x : ℕ) → Memᴰ x (without ℕ_discrete n xs) → x < n
    below x m = let r = without_held ℕ_discrete n xs x m in less r.0 r.1
      where
        less : Memᴰ x xs → x ≢ n → x < n
        less i o = omega (arith, h x i, o)
