-- The other sign at one component of the vector. Plan A does not see it (`plan_a_flips`; the other plans: DifferenceLaws.antt). Where
-- a rule does not see it, that component of the first vector, whatever the bound of the components, is not above n / 2, for n - x in
-- the place of such an x would come before (`flip-first`).
use mathlib.Core.Path.{◌≡◌, refl, sym, ◌∙◌, ap, subst}
use mathlib.Core.Logic.{◌≢◌}
use mathlib.Core.List.{List, [], ◌∷◌, map, Memᴰ}
use Prim.Native.Nat.{ℕ, zero, suc, ◌*◌, ◌<◌, ◌≤◌}
use native.Mathlib.Nat.{mod-eq_of_lt}
use native.Mathlib.Decide.{dec_le}
use native.Mathlib.Omega.{arith}
use lib.IntN.{ℤ, pos, negsuc, nat_abs, neg_ℤ, neg_ℤ-neg_ℤ, ◌+ℤ◌, ◌*ℤ◌, *ℤ_comm}
use lib.ListN.{length, get_or, length-map, get_or-map}
use Rattle.rank1.specs.Residue.{residue, dot, residue_at}
use Rattle.rank1.specs.Index.{mirrored}
use Rattle.rank1.specs.Rule.{Rule, Admissible}
use Rattle.rank1.specs.Below.{FirstBelow}
use Rattle.rank1.specs.Axes.{flip}
use Rattle.rank1.specs.Differences.{Apart, Flips}
use Rattle.rank1.proofs.Whole.{neg-mul}
use Rattle.rank1.proofs.MirrorLaws.{sizes, mirror-sizes, sizes-mirror, mirrored_in, mirrored-out}
use Rattle.rank1.proofs.RuleLaws.{Reduces}
use Rattle.rank1.proofs.SymmetryLaws.{moved, component-below, none-lower}

-- the length stays
pub length-flip : (j : ℕ) (xs : List ℤ) → length (flip j xs) ≡ length xs
length-flip j [] = refl
length-flip zero (x ∷ xs) = refl
length-flip (suc j) (x ∷ xs) = ap suc (length-flip j xs)

-- component j has the other sign
pub flip_at : (j : ℕ) (xs : List ℤ) → get_or (flip j xs) j (pos 0) ≡ neg_ℤ (get_or xs j (pos 0))
flip_at j [] = refl
flip_at zero (x ∷ xs) = refl
flip_at (suc j) (x ∷ xs) = flip_at j xs

-- the others are the same
pub flip_other : (j a : ℕ) (xs : List ℤ) → a ≢ j → get_or (flip j xs) a (pos 0) ≡ get_or xs a (pos 0)
flip_other j a [] h = refl
flip_other zero zero (x ∷ xs) h = absurd (h refl)
flip_other zero (suc a) (x ∷ xs) h = refl
flip_other (suc j) zero (x ∷ xs) h = refl
flip_other (suc j) (suc a) (x ∷ xs) h = flip_other j a xs (λ e. h (ap suc e))

-- twice is nothing
pub flip-flip : (j : ℕ) (xs : List ℤ) → flip j (flip j xs) ≡ xs
flip-flip j [] = refl
flip-flip zero (x ∷ xs) = ap (λ (k : ℤ). k ∷ xs) (neg_ℤ-neg_ℤ x)
flip-flip (suc j) (x ∷ xs) = ap (λ (l : List ℤ). x ∷ l) (flip-flip j xs)

-- different rows stay different
pub flip_inj : (j : ℕ) (s t : List ℤ) → flip j s ≡ flip j t → s ≡ t
flip_inj j s t e = sym (flip-flip j s) ∙ ap (flip j) e ∙ flip-flip j t

-- the size of a number stays
pub size-neg : (x : ℤ) → nat_abs (neg_ℤ x) ≡ nat_abs x
size-neg (pos zero) = refl
size-neg (pos (suc a)) = refl
size-neg (negsuc a) = refl

-- and so do the sizes of a row
pub flip-sizes : (j : ℕ) (s : List ℤ) → sizes (flip j s) ≡ sizes s
flip-sizes j [] = refl
flip-sizes zero (x ∷ s) = ap (λ (k : ℕ). k ∷ sizes s) (size-neg x)
flip-sizes (suc j) (x ∷ s) = ap (λ (l : List ℕ). nat_abs x ∷ l) (flip-sizes j s)

-- ---- h·z: the sign may change in h or in z
-- in a product
sign_moved : (a b : ℤ) → neg_ℤ a *ℤ b ≡ a *ℤ neg_ℤ b
sign_moved a b = neg-mul a b ∙ ap neg_ℤ (*ℤ_comm a b) ∙ sym (neg-mul b a) ∙ *ℤ_comm (neg_ℤ b) a

-- in the sum of products
pub dot-flip : (j : ℕ) (h z : List ℤ) → dot (flip j h) z ≡ dot h (flip j z)
dot-flip j [] z = refl
dot-flip zero (x ∷ h) [] = refl
dot-flip zero (x ∷ h) (y ∷ z) = ap (λ (k : ℤ). k +ℤ dot h z) (sign_moved x y)
dot-flip (suc j) (x ∷ h) [] = refl
dot-flip (suc j) (x ∷ h) (y ∷ z) = ap (λ (k : ℤ). x *ℤ y +ℤ k) (dot-flip j h z)

-- ---- plan A
-- a member of M goes to a member of M
flip-mirrored : (ks : List (List ℤ)) (j : ℕ) (s : List ℤ) → Memᴰ s (mirrored ks) → Memᴰ (flip j s) (mirrored ks)
flip-mirrored ks j s m =
    let r = mirrored-out ks s m in
    mirrored_in ks r.row (flip j s) r.listed
    (sizes-mirror r.row (flip j s) (flip-sizes j s ∙ mirror-sizes r.row s r.mirror))

-- z with the other sign at one component is admissible with z
pub flip-admissible : (ks : List (List ℤ)) (n : ℕ) (z : List ℤ) (j : ℕ) → Admissible 2 ks n z → Admissible 2 ks n (flip j z)
flip-admissible ks n z j = moved 2 ks n z (flip j z) (flip j) pairs (λ s t p. (equal s, equal t))
  where
    pairs : (s t : List ℤ) → Apart 2 ks s t → Apart 2 ks (flip j s) (flip j t)
    pairs s t p = (flip-mirrored ks j s p.0, flip-mirrored ks j t p.1, λ e. p.2 (flip_inj j s t e))

    equal : (s : List ℤ) → residue_at n z (flip j s) ≡ residue_at n (flip j z) s
    equal s = ap (residue n) (dot-flip j s z)

-- so does plan A, at every component
pub plan_a_flips : (ks : List (List ℤ)) (j : ℕ) → Flips j (Admissible 2 ks)
plan_a_flips ks j n z l = flip-admissible ks n z j

-- ---- the first vector below a bound
-- above half of n, the residue of -c is less than c
residue_lower : (n c : ℕ) → c < n → n < 2 * c → residue n (neg_ℤ (pos c)) < c
residue_lower n zero l g = absurd (omega arith)
residue_lower n (suc b) l g = omega (arith, mod-eq_of_lt {n = b} {m = n} (omega arith))

-- where the rule does not see the sign of a component of z, that of the first vector is not above half of n
pub flip-first :
    (rule : Rule) (d n b : ℕ) (z : List ℕ) (j : ℕ) → Reduces rule → Flips j rule → j < d → 0 < n → b ≤ n
    → FirstBelow rule d n b z → 2 * get_or z j 0 ≤ n
flip-first rule d n b z j passes flips l h u f = go (dec_le (2 * get_or z j 0) n)
  where
    c : ℕ
    c = get_or z j 0

    there : get_or (flip j (map pos z)) j (pos 0) ≡ neg_ℤ (pos c)
    there = flip_at j (map pos z) ∙ ap neg_ℤ (get_or-map pos z j 0)

    other : (a : ℕ) → a ≢ j → get_or (flip j (map pos z)) a (pos 0) ≡ pos (get_or z a 0)
    other a p = flip_other j a (map pos z) p ∙ get_or-map pos z a 0

    go : Dec (2 * get_or z j 0 ≤ n) → 2 * get_or z j 0 ≤ n
    go (yes r) = r
    go (no r) =
        absurd (none-lower rule d n b z passes h u f (flip j (map pos z)) (length-flip j (map pos z) ∙ length-map z pos ∙ f.ranged.size)
        (flips n (map pos z) h f.admissible) j l
        (λ a k. other a (λ e. omega arith))
        (subst (λ (x : ℤ). residue n x < c) (sym there) (residue_lower n c (omega (arith, f.ranged.below j l)) (omega arith)))
        (λ a m k. component-below n b d z a (get_or (flip j (map pos z)) a (pos 0)) u k f.ranged (other a (λ e. omega arith))))
