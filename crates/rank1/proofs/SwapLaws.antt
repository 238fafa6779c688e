-- Two axes exchanged. Where the list stays itself when axes i < j change places, a vector with its components i and j
-- exchanged is admissible with it (`swap-admissible`); so in the first vector, whatever the bound of its components, component i is
-- at most component j (`swap-first`).
use mathlib.Core.Path.{◌≡◌, refl, sym, ◌∙◌, ap, ap₂, subst}
use mathlib.Core.Logic.{◌≢◌}
use mathlib.Core.List.{List, [], ◌∷◌, map, Memᴰ}
use Prim.Native.Nat.{ℕ, zero, suc, ◌<◌, ◌≤◌}
use native.Mathlib.Nat.{suc_inj}
use native.Mathlib.Decide.{ℕ_discrete, dec_le}
use native.Mathlib.Omega.{arith}
use lib.IntN.{ℤ, pos, nat_abs, ◌+ℤ◌, ◌*ℤ◌, +ℤ_assoc, +ℤ_comm}
use lib.ListN.{length, length-map, length-set, get_or, set, replicate, get_or-map}
use lib.Seq.{get_or-set_same, get_or-set_other, set-set, set-get_or, ext_get_or}
use Rattle.rank1.specs.Residue.{residue, dot}
use Rattle.rank1.specs.Index.{zero_row}
use Rattle.rank1.specs.Rule.{Rule, Admissible}
use Rattle.rank1.specs.Below.{FirstBelow}
use Rattle.rank1.specs.Axes.{swap, Interchangeable}
use Rattle.rank1.proofs.RuleLaws.{Reduces}
use Rattle.rank1.proofs.MirrorLaws.{same_length, mirror-sizes}
use Rattle.rank1.proofs.SymmetryLaws.{Symmetry, symmetric, own_residue, component-below, none-lower}

-- ---- components i and j exchanged
module _ {A : Type 0} where
  -- the length stays
  pub length-swap : (i j : ℕ) (xs : List A) → length (swap i j xs) ≡ length xs
  length-swap i j [] = refl
  length-swap zero zero (x ∷ xs) = refl
  length-swap zero (suc j) (x ∷ xs) = ap suc (length-set xs j x)
  length-swap (suc i) zero (x ∷ xs) = ap suc (length-set xs i x)
  length-swap (suc i) (suc j) (x ∷ xs) = ap suc (length-swap i j xs)

  -- the order of the axes does not matter
  pub swap_comm : (i j : ℕ) (xs : List A) → swap i j xs ≡ swap j i xs
  swap_comm i j [] = refl
  swap_comm zero zero (x ∷ xs) = refl
  swap_comm zero (suc j) (x ∷ xs) = refl
  swap_comm (suc i) zero (x ∷ xs) = refl
  swap_comm (suc i) (suc j) (x ∷ xs) = ap (λ (l : List A). x ∷ l) (swap_comm i j xs)

  -- ---- its components
  -- within the list the default does not matter
  get_d_any : (xs : List A) (j : ℕ) (v w : A) → j < length xs → get_or xs j v ≡ get_or xs j w
  get_d_any [] j v w l = absurd (omega arith)
  get_d_any (x ∷ xs) zero v w l = refl
  get_d_any (x ∷ xs) (suc j) v w l = get_d_any xs j v w (omega arith)

  -- component i is component j
  pub swap_left : (i j : ℕ) (xs : List A) (w : A) → i < length xs → j < length xs → get_or (swap i j xs) i w ≡ get_or xs j w
  swap_left i j [] w l h = absurd (omega arith)
  swap_left zero zero (x ∷ xs) w l h = refl
  swap_left zero (suc j) (x ∷ xs) w l h = get_d_any xs j x w (omega arith)
  swap_left (suc i) zero (x ∷ xs) w l h = get_or-set_same xs i x w (omega arith)
  swap_left (suc i) (suc j) (x ∷ xs) w l h = swap_left i j xs w (omega arith) (omega arith)

  -- component j is component i
  pub swap_right : (i j : ℕ) (xs : List A) (w : A) → i < length xs → j < length xs → get_or (swap i j xs) j w ≡ get_or xs i w
  swap_right i j xs w l h = ap (λ (ys : List A). get_or ys j w) (swap_comm i j xs) ∙ swap_left j i xs w h l

  -- the others are the same
  pub swap_other : (i j a : ℕ) (xs : List A) (w : A) → a ≢ i → a ≢ j → get_or (swap i j xs) a w ≡ get_or xs a w
  swap_other i j a [] w p q = refl
  swap_other zero zero a (x ∷ xs) w p q = refl
  swap_other zero (suc j) zero (x ∷ xs) w p q = absurd (p refl)
  swap_other zero (suc j) (suc a) (x ∷ xs) w p q = get_or-set_other xs j a x w (λ e. q (ap suc e))
  swap_other (suc i) zero zero (x ∷ xs) w p q = absurd (q refl)
  swap_other (suc i) zero (suc a) (x ∷ xs) w p q = get_or-set_other xs i a x w (λ e. p (ap suc e))
  swap_other (suc i) (suc j) zero (x ∷ xs) w p q = refl
  swap_other (suc i) (suc j) (suc a) (x ∷ xs) w p q = swap_other i j a xs w (λ e. p (ap suc e)) (λ e. q (ap suc e))

  -- and a list with these components is it
  pub swap_is : (i j : ℕ) (xs ys : List A) (w : A) → i < length xs → j < length xs → length ys ≡ length xs → get_or ys i w ≡ get_or xs j w → get_or ys j w ≡ get_or xs i w → ((a : ℕ) → a < length xs → a ≢ i → a ≢ j → get_or ys a w ≡ get_or xs a w) → ys ≡ swap i j xs
  swap_is i j xs ys w l h e left right other =
      ext_get_or w ys (swap i j xs) (e ∙ sym (length-swap i j xs)) (λ a k. go a (omega arith) (ℕ_discrete a i) (ℕ_discrete a j))
    where
      -- they agree at a
      Same : ℕ → Type 0
      Same a = get_or ys a w ≡ get_or (swap i j xs) a w

      go : (a : ℕ) → a < length xs → Dec (a ≡ i) → Dec (a ≡ j) → Same a
      go a k (yes p) d = subst Same (sym p) (left ∙ sym (swap_left i j xs w l h))
      go a k (no p) (yes q) = subst Same (sym q) (right ∙ sym (swap_right i j xs w l h))
      go a k (no p) (no q) = other a k p q ∙ sym (swap_other i j a xs w p q)

  -- ---- twice is nothing
  -- the first component comes back
  back_get : (xs : List A) (j : ℕ) (x : A) → get_or (set xs j x) j (get_or xs j x) ≡ x
  back_get [] j x = refl
  back_get (a ∷ xs) zero x = refl
  back_get (a ∷ xs) (suc j) x = back_get xs j x

  -- and so does the list
  back : (xs : List A) (j : ℕ) (x : A) → get_or (set xs j x) j (get_or xs j x) ∷ set (set xs j x) j (get_or xs j x) ≡ x ∷ xs
  back xs j x = ap₂ (λ (a : A) (l : List A). a ∷ l) (back_get xs j x) (set-set xs j x (get_or xs j x) ∙ set-get_or xs j x)

  -- at any two places
  pub swap-swap : (i j : ℕ) (xs : List A) → swap i j (swap i j xs) ≡ xs
  swap-swap i j [] = refl
  swap-swap zero zero (x ∷ xs) = refl
  swap-swap zero (suc j) (x ∷ xs) = back xs j x
  swap-swap (suc i) zero (x ∷ xs) = back xs i x
  swap-swap (suc i) (suc j) (x ∷ xs) = ap (λ (l : List A). x ∷ l) (swap-swap i j xs)

  -- different rows stay different
  pub swap_inj : (i j : ℕ) (xs ys : List A) → swap i j xs ≡ swap i j ys → xs ≡ ys
  swap_inj i j xs ys e = sym (swap-swap i j xs) ∙ ap (swap i j) e ∙ swap-swap i j ys

  -- ---- a list of one value stays
  -- any component is that value
  get_same : (m j : ℕ) (a : A) → get_or (replicate m a) j a ≡ a
  get_same zero j a = refl
  get_same (suc m) zero a = refl
  get_same (suc m) (suc j) a = get_same m j a

  -- exchanged with the first
  front_same : (m j : ℕ) (a : A) → get_or (replicate m a) j a ∷ set (replicate m a) j a ≡ a ∷ replicate m a
  front_same m j a =
      ap₂ (λ (b : A) (l : List A). b ∷ l) (get_same m j a)
      (ap (set (replicate m a) j) (sym (get_same m j a)) ∙ set-get_or (replicate m a) j a)

  -- at any two places
  pub swap_same : (i j m : ℕ) (a : A) → swap i j (replicate m a) ≡ replicate m a
  swap_same i j zero a = refl
  swap_same zero zero (suc m) a = refl
  swap_same zero (suc j) (suc m) a = front_same m j a
  swap_same (suc i) zero (suc m) a = front_same m i a
  swap_same (suc i) (suc j) (suc m) a = ap (λ (l : List A). a ∷ l) (swap_same i j m a)

-- ---- a function of each component, before or after
module _ {A B : Type 0} (f : A → B) where
  -- one component set
  map-set : (xs : List A) (j : ℕ) (x : A) → map f (set xs j x) ≡ set (map f xs) j (f x)
  map-set [] j x = refl
  map-set (a ∷ xs) zero x = refl
  map-set (a ∷ xs) (suc j) x = ap (λ (l : List B). f a ∷ l) (map-set xs j x)

  -- exchanged with the first
  map_front : (xs : List A) (j : ℕ) (x : A) → f (get_or xs j x) ∷ map f (set xs j x) ≡ get_or (map f xs) j (f x) ∷ set (map f xs) j (f x)
  map_front xs j x = ap₂ (λ (a : B) (l : List B). a ∷ l) (sym (get_or-map f xs j x)) (map-set xs j x)

  -- at any two places
  pub map-swap : (i j : ℕ) (xs : List A) → map f (swap i j xs) ≡ swap i j (map f xs)
  map-swap i j [] = refl
  map-swap zero zero (x ∷ xs) = refl
  map-swap zero (suc j) (x ∷ xs) = map_front xs j x
  map-swap (suc i) zero (x ∷ xs) = map_front xs i x
  map-swap (suc i) (suc j) (x ∷ xs) = ap (λ (l : List B). f x ∷ l) (map-swap i j xs)

-- ---- h·z: the components may be exchanged in h or in z
-- the first two of three summands
left_comm : (a b c : ℤ) → a +ℤ (b +ℤ c) ≡ b +ℤ (a +ℤ c)
left_comm a b c = sym (+ℤ_assoc a b c) ∙ ap (λ (k : ℤ). k +ℤ c) (+ℤ_comm a b) ∙ +ℤ_assoc b a c

-- the first component and a later one
dot_front : (j : ℕ) (x y : ℤ) (h z : List ℤ) → length h ≡ length z → dot (get_or h j x ∷ set h j x) (y ∷ z) ≡ dot (x ∷ h) (get_or z j y ∷ set z j y)
dot_front j x y [] [] e = refl
dot_front j x y [] (b ∷ z) e = absurd (omega arith)
dot_front j x y (a ∷ h) [] e = absurd (omega arith)
dot_front zero x y (a ∷ h) (b ∷ z) e = left_comm (a *ℤ y) (x *ℤ b) (dot h z)
dot_front (suc j) x y (a ∷ h) (b ∷ z) e =
    left_comm (get_or h j x *ℤ y) (a *ℤ b) (dot (set h j x) z)
    ∙ ap (λ (k : ℤ). a *ℤ b +ℤ k) (dot_front j x y h z (suc_inj e))
    ∙ left_comm (a *ℤ b) (x *ℤ get_or z j y) (dot h (set z j y))

-- any two
pub dot-swap : (i j : ℕ) (h z : List ℤ) → length h ≡ length z → dot (swap i j h) z ≡ dot h (swap i j z)
dot-swap i j [] z e = refl
dot-swap i j (a ∷ h) [] e = absurd (omega arith)
dot-swap zero zero (a ∷ h) (b ∷ z) e = refl
dot-swap zero (suc j) (a ∷ h) (b ∷ z) e = dot_front j a b h z (suc_inj e)
dot-swap (suc i) zero (a ∷ h) (b ∷ z) e = dot_front i a b h z (suc_inj e)
dot-swap (suc i) (suc j) (a ∷ h) (b ∷ z) e = ap (λ (k : ℤ). a *ℤ b +ℤ k) (dot-swap i j h z (suc_inj e))

-- ---- interchangeable axes: the rule
-- such an exchange is a symmetry of the list
pub swap_symmetry : (i j : ℕ) (ks : List (List ℤ)) → Interchangeable i j ks → Symmetry ks (swap i j)
swap_symmetry i j ks closed = record {
  keeps = closed;
  one-one = swap_inj i j;
  zero_row_lem = λ k e.
      sym (swap-swap i j k) ∙ ap (swap i j) e ∙ swap_same i j (length (swap i j k)) (pos 0) ∙ ap zero_row (length-swap i j k);
  same = λ s k e. map-swap nat_abs i j s ∙ ap (swap i j) e ∙ sym (map-swap nat_abs i j k);
}

-- z with the two components exchanged is admissible with z
pub swap-admissible : (plan d : ℕ) (ks : List (List ℤ)) (n : ℕ) (z : List ℤ) (i j : ℕ) → ((k : List ℤ) → Memᴰ k ks → length k ≡ d) → Interchangeable i j ks → length z ≡ d → Admissible plan ks n z → Admissible plan ks n (swap i j z)
swap-admissible plan d ks n z i j long closed e =
    symmetric plan ks n z (swap i j z) (swap i j) (swap_symmetry i j ks closed)
    (λ k s m o. ap (residue n) (dot-swap i j s z (same_length s k (mirror-sizes k s o) ∙ long k m ∙ sym e)))

-- what a law of the search asks of a rule: that it passes to z with components i and j exchanged
abbrev pub Exchanges : ℕ → ℕ → ℕ → Rule → Type 0
Exchanges i j d rule = (n : ℕ) (z : List ℤ) → length z ≡ d → rule n z → rule n (swap i j z)

-- so do the rules of the plans, where the list stays itself
pub plan_exchanges : (plan d : ℕ) (ks : List (List ℤ)) (i j : ℕ) → ((k : List ℤ) → Memᴰ k ks → length k ≡ d) → Interchangeable i j ks → Exchanges i j d (Admissible plan ks)
plan_exchanges plan d ks i j long closed n z = swap-admissible plan d ks n z i j long closed

-- ---- in the first vector below a bound the components of such axes rise
pub swap-first :
    (rule : Rule) (d n b : ℕ) (z : List ℕ) (i j : ℕ) → Reduces rule → Exchanges i j d rule → i < j → j < d → 0 < n → b ≤ n
    → FirstBelow rule d n b z → get_or z i 0 ≤ get_or z j 0
swap-first rule d n b z i j passes exchanges l h g u f = go (dec_le (get_or z i 0) (get_or z j 0))
  where
    size : length (map pos z) ≡ d
    size = length-map z pos ∙ f.ranged.size

    -- the components of the exchanged vector
    left : get_or (swap i j (map pos z)) i (pos 0) ≡ pos (get_or z j 0)
    left = swap_left i j (map pos z) (pos 0) (omega (arith, size)) (omega (arith, size)) ∙ get_or-map pos z j 0

    right : get_or (swap i j (map pos z)) j (pos 0) ≡ pos (get_or z i 0)
    right = swap_right i j (map pos z) (pos 0) (omega (arith, size)) (omega (arith, size)) ∙ get_or-map pos z i 0

    other : (a : ℕ) → a ≢ i → a ≢ j → get_or (swap i j (map pos z)) a (pos 0) ≡ pos (get_or z a 0)
    other a p q = swap_other i j a (map pos z) (pos 0) p q ∙ get_or-map pos z a 0

    -- they are components of z, so behind i they are below b
    behind : (a : ℕ) → i < a → a < d → residue n (get_or (swap i j (map pos z)) a (pos 0)) < b
    behind a m k = cases (ℕ_discrete a j)
      where
        cases : Dec (a ≡ j) → residue n (get_or (swap i j (map pos z)) a (pos 0)) < b
        cases (yes p) =
            component-below n b d z i (get_or (swap i j (map pos z)) a (pos 0)) u (omega arith) f.ranged
            (ap (λ (c : ℕ). get_or (swap i j (map pos z)) c (pos 0)) p ∙ right)
        cases (no p) = component-below n b d z a (get_or (swap i j (map pos z)) a (pos 0)) u k f.ranged (other a (λ e. omega arith) p)

    go : Dec (get_or z i 0 ≤ get_or z j 0) → get_or z i 0 ≤ get_or z j 0
    go (yes r) = r
    go (no r) =
        absurd (none-lower rule d n b z passes g u f (swap i j (map pos z)) (length-swap i j (map pos z) ∙ size)
        (exchanges n (map pos z) size f.admissible) i (omega arith)
        (λ a k. other a (λ e. omega arith) (λ e. omega arith))
        (subst (λ (c : ℕ). c < get_or z i 0) (sym (ap (residue n) left ∙ own_residue n b d z j u h f.ranged)) (omega arith))
        behind)
