-- The mirrors of a row are the rows got from it by changing signs of components: those whose components have the same sizes.
-- They are all of them, each once, 2 to the number of its non-zero components, and the row is the first. M holds the mirrors
-- of the rows; rows without negative components that share a mirror are equal.
use mathlib.Core.Path.{◌≡◌, refl, sym, ◌∙◌, ap, subst}
use mathlib.Core.Logic.{◌↔◌, ◌≢◌, ◌⊎◌, inl, inr, ⊎_elim}
use mathlib.Core.List.Memᴰ
use mathlib.Core.List.{List, [], ◌∷◌, map, Memᴰ, cons≢nil, nil≢cons, head-eq_of_cons-eq, tail-eq_of_cons-eq}
use Prim.Native.Nat.{ℕ, zero, suc, ◌*◌, ◌^◌, ◌<◌}
use native.Mathlib.Nat.{one-mul, pow-succ', suc_inj, suc-ne-zero}
use native.Mathlib.Omega.{arith}
use lib.IntN.{ℤ, pos, negsuc, nat_abs, pos-ne-negsuc}
use lib.ListN.{length, get_or, length-map, get_or-map}
use lib.Pow.{pow_pos}
use Rattle.rank1.specs.Index.{signs, headed, mirrors, nonzeros, mirrored}
use Rattle.rank1.specs.Valid.{Distinct, Nonnegative}
use Rattle.rank1.proofs.Distinct.{distinct_append}
use Rattle.rank1.proofs.Headed.{headed_in, headed_nil, headed-out, headed-length, headed_distinct}

-- the sizes of a row's components
abbrev pub sizes : List ℤ → List ℕ
sizes = map nat_abs

pub same_length : (s k : List ℤ) → sizes s ≡ sizes k → length s ≡ length k
same_length s k e = sym (length-map s nat_abs) ∙ ap length e ∙ length-map k nat_abs

-- component by component
pub sizes_at : (s k : List ℤ) → sizes s ≡ sizes k → (i : ℕ) → nat_abs (get_or s i (pos 0)) ≡ nat_abs (get_or k i (pos 0))
sizes_at s k e i = sym (get_or-map nat_abs s i (pos 0)) ∙ ap (λ (l : List ℕ). get_or l i 0) e ∙ get_or-map nat_abs k i (pos 0)

-- ---- the signs of a component: the numbers of its size
pub abs_zero : (x : ℤ) → nat_abs x ≡ 0 → x ≡ pos 0
abs_zero (pos a) e = ap pos e
abs_zero (negsuc a) e = absurd (suc-ne-zero a e)

pub abs_suc : (x : ℤ) (a : ℕ) → nat_abs x ≡ suc a → (x ≡ pos (suc a)) ⊎ (x ≡ negsuc a)
abs_suc (pos b) a e = inl (ap pos e)
abs_suc (negsuc b) a e = inr (ap negsuc (suc_inj e))

sign_in : (a x : ℤ) → nat_abs a ≡ nat_abs x → Memᴰ a (signs x)
sign_in a (pos zero) e = Memᴰ.head (abs_zero a e)
sign_in a (pos (suc b)) e = ⊎_elim (λ p. Memᴰ.head p) (λ p. Memᴰ.tail (Memᴰ.head p)) (abs_suc a b e)
sign_in a (negsuc b) e = ⊎_elim (λ p. Memᴰ.tail (Memᴰ.head p)) (λ p. Memᴰ.head p) (abs_suc a b e)

two : (a x y : ℤ) → Memᴰ a (x ∷ y ∷ []) → nat_abs x ≡ nat_abs y → nat_abs a ≡ nat_abs x
two a x y m e = ⊎_elim (ap nat_abs) (λ n. ap nat_abs (Memᴰ.eq_of_singleton n) ∙ sym e) (Memᴰ.cases_cons m)

sign_out : (a x : ℤ) → Memᴰ a (signs x) → nat_abs a ≡ nat_abs x
sign_out a (pos zero) m = ap nat_abs (Memᴰ.eq_of_singleton m)
sign_out a (pos (suc b)) m = two a (pos (suc b)) (negsuc b) m refl
sign_out a (negsuc b) m = two a (negsuc b) (pos (suc b)) m refl

-- ---- which rows the mirrors are
pub mirror-sizes : (k s : List ℤ) → Memᴰ s (mirrors k) → sizes s ≡ sizes k
mirror-sizes [] s m = ap sizes (Memᴰ.eq_of_singleton m)
mirror-sizes (x ∷ k) [] m = absurd (headed_nil (signs x) (mirrors k) m)
mirror-sizes (x ∷ k) (a ∷ s) m =
    let t = headed-out (signs x) (mirrors k) a s m in
    ap (λ (c : ℕ). c ∷ sizes s) (sign_out a x t.0) ∙ ap (λ (l : List ℕ). nat_abs x ∷ l) (mirror-sizes k s t.1)

pub sizes-mirror : (k s : List ℤ) → sizes s ≡ sizes k → Memᴰ s (mirrors k)
sizes-mirror [] [] e = Memᴰ.head refl
sizes-mirror [] (a ∷ s) e = absurd (cons≢nil e)
sizes-mirror (x ∷ k) [] e = absurd (nil≢cons e)
sizes-mirror (x ∷ k) (a ∷ s) e =
    headed_in (signs x) (mirrors k) a s (sign_in a x (head-eq_of_cons-eq e)) (sizes-mirror k s (tail-eq_of_cons-eq e))

-- exactly the rows got by changing signs
pub mirrors_are : (k s : List ℤ) → Memᴰ s (mirrors k) ↔ (sizes s ≡ sizes k)
mirrors_are k s = (mirror-sizes k s, sizes-mirror k s)

-- a row is one of its mirrors, and stands first among them
pub mirror_self : (k : List ℤ) → Memᴰ k (mirrors k)
mirror_self k = sizes-mirror k k refl

first_headed : (x : ℤ) (k : List ℤ) (ss : List (List ℤ)) → 0 < length ss → get_or ss 0 [] ≡ k → get_or (headed (signs x) ss) 0 [] ≡ x ∷ k
first_headed x k [] l e = absurd (omega arith)
first_headed (pos zero) k (s ∷ ss) l e = ap (λ (t : List ℤ). pos 0 ∷ t) e
first_headed (pos (suc a)) k (s ∷ ss) l e = ap (λ (t : List ℤ). pos (suc a) ∷ t) e
first_headed (negsuc a) k (s ∷ ss) l e = ap (λ (t : List ℤ). negsuc a ∷ t) e

-- ---- how many they are
pub mirrors-length : (k : List ℤ) → length (mirrors k) ≡ 2 ^ nonzeros k
mirrors-length [] = refl
mirrors-length (x ∷ k) =
    headed-length (signs x) (mirrors k)
    ∙ ap (λ (i : ℕ). length (signs x) * i) (mirrors-length k)
    ∙ counted x
  where
    counted : (y : ℤ) → length (signs y) * 2 ^ nonzeros k ≡ 2 ^ nonzeros (y ∷ k)
    counted (pos zero) = one-mul (2 ^ nonzeros k)
    counted (pos (suc a)) = sym (pow-succ' 2 (nonzeros k))
    counted (negsuc a) = sym (pow-succ' 2 (nonzeros k))

pub mirrors_some : (k : List ℤ) → 0 < length (mirrors k)
mirrors_some k = subst (λ (i : ℕ). 0 < i) (sym (mirrors-length k)) (pow_pos (nonzeros k))

pub mirrors_first : (k : List ℤ) → get_or (mirrors k) 0 [] ≡ k
mirrors_first [] = refl
mirrors_first (x ∷ k) = first_headed x k (mirrors k) (mirrors_some k) (mirrors_first k)

-- ---- no two are equal
signs_distinct : (x : ℤ) → Distinct (signs x)
signs_distinct (pos zero) = ((λ m. Memᴰ.not-nil m), tt)
signs_distinct (pos (suc a)) = ((λ m. pos-ne-negsuc (suc a) a (Memᴰ.eq_of_singleton m)), ((λ m. Memᴰ.not-nil m), tt))
signs_distinct (negsuc a) = ((λ m. pos-ne-negsuc (suc a) a (sym (Memᴰ.eq_of_singleton m))), ((λ m. Memᴰ.not-nil m), tt))

pub mirrors_distinct : (k : List ℤ) → Distinct (mirrors k)
mirrors_distinct [] = ((λ m. Memᴰ.not-nil m), tt)
mirrors_distinct (x ∷ k) = headed_distinct (signs x) (mirrors k) (signs_distinct x) (mirrors_distinct k)

-- ---- M
pub record Mirror (ks : List (List ℤ)) (s : List ℤ) : Type 0 where
  pub row : List ℤ
  pub listed : Memᴰ row ks
  pub mirror : Memᴰ s (mirrors row)

pub mirrored_in : (ks : List (List ℤ)) (k s : List ℤ) → Memᴰ k ks → Memᴰ s (mirrors k) → Memᴰ s (mirrored ks)
mirrored_in [] k s m n = absurd (Memᴰ.not-nil m)
mirrored_in (k' ∷ ks) k s m n =
    ⊎_elim
    (λ e. Memᴰ.append_left (mirrored ks) (subst (λ (r : List ℤ). Memᴰ s (mirrors r)) e n))
    (λ m'. Memᴰ.append_right (mirrors k') (mirrored_in ks k s m' n))
    (Memᴰ.cases_cons m)

pub mirrored-out : (ks : List (List ℤ)) (s : List ℤ) → Memᴰ s (mirrored ks) → Mirror ks s
mirrored-out [] s m = absurd (Memᴰ.not-nil m)
mirrored-out (k ∷ ks) s m =
    ⊎_elim
    (λ n. record { row = k; listed = Memᴰ.head refl; mirror = n })
    (λ n. let r = mirrored-out ks s n in record { row = r.row; listed = Memᴰ.tail r.listed; mirror = r.mirror })
    (Memᴰ.append_cases (mirrors k) m)

pub mirrored_are : (ks : List (List ℤ)) (s : List ℤ) → Memᴰ s (mirrored ks) ↔ Mirror ks s
mirrored_are ks s = (mirrored-out ks s, λ r. mirrored_in ks r.row s r.listed r.mirror)

-- ---- rows without negative components
-- such a row is given by its sizes
pub sizes_give : (k : List ℤ) → Nonnegative k → map pos (sizes k) ≡ k
sizes_give [] p = refl
sizes_give (pos a ∷ k) p = ap (λ (t : List ℤ). pos a ∷ t) (sizes_give k p)
sizes_give (negsuc a ∷ k) p = absurd p

-- and every mirror of it comes from it alone
pub same_row_lem : (s k k' : List ℤ) → Nonnegative k → Nonnegative k' → Memᴰ s (mirrors k) → Memᴰ s (mirrors k') → k ≡ k'
same_row_lem s k k' p p' m m' =
    sym (sizes_give k p) ∙ ap (map pos) (sym (mirror-sizes k s m) ∙ mirror-sizes k' s m') ∙ sizes_give k' p'

pub mirrors-differ : (s s' k k' : List ℤ) → Nonnegative k → Nonnegative k' → k ≢ k' → Memᴰ s (mirrors k) → Memᴰ s' (mirrors k') → s ≢ s'
mirrors-differ s s' k k' p p' d m m' e = d (same_row_lem s k k' p p' m (subst (λ (t : List ℤ). Memᴰ t (mirrors k')) (sym e) m'))

-- different rows without negative components: no two members of M are equal
pub mirrored_distinct : (ks : List (List ℤ)) → Distinct ks → ((k : List ℤ) → Memᴰ k ks → Nonnegative k) → Distinct (mirrored ks)
mirrored_distinct [] d p = tt
mirrored_distinct (k ∷ ks) d p =
    distinct_append (mirrors k) (mirrored ks) (mirrors_distinct k) (mirrored_distinct ks d.1 (λ k' m. p k' (Memᴰ.tail m)))
    (λ s m n. let r = mirrored-out ks s n in d.0 (Memᴰ.cast (same_row_lem s k r.row (p k (Memᴰ.head refl)) (p r.row (Memᴰ.tail r.listed)) m r.mirror) r.listed))
