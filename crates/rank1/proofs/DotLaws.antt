-- The laws of h·z: residues of its components, multiples, the sum as code makes it, and rows that are 0 from an axis on.
use mathlib.Core.Path.{◌≡◌, refl, sym, ◌∙◌, ap}
use mathlib.Core.Logic.{◌↔◌}
use mathlib.Core.List.{List, [], ◌∷◌, map}
use Prim.Native.Nat.{ℕ, zero, suc, ◌+◌, ◌*◌, ◌%◌, ◌<◌}
use native.Mathlib.Nat.{mul_assoc, mul_comm, one-mul, add_assoc, add-mod-mod, mod-add-mod}
use native.Mathlib.Omega.{arith}
use lib.IntN.{ℤ, pos, ◌+ℤ◌, ◌*ℤ◌, neg_ℤ, neg_ℤ-+ℤ, zero-*ℤ, *ℤ-zero, +ℤ_idl}
use lib.ListN.{get_or, drop}
use lib.Seq.{get_or-drop}
use Rattle.rank1.specs.Residue.{residue, dot}
use Rattle.rank1.specs.Axes.{ZeroFrom}
use Rattle.rank1.proofs.ResidueLaws.{residue-add, residue-mul, residue_idem, residue-mod}
use Rattle.rank1.proofs.Modulo.{mod-mul_left, mod-mul_right}
use Rattle.rank1.proofs.Whole as W

-- every component by its residue
abbrev pub reduced : ℕ → List ℤ → List ℤ
reduced n = map (λ x. pos (residue n x))

-- every component u times
abbrev pub scaled : ℤ → List ℤ → List ℤ
scaled u = map (λ x. u *ℤ x)

-- one more axis, in residues
pub dot-cons : (n : ℕ) (h z : ℤ) (hs zs : List ℤ) → 0 < n → residue n (dot (h ∷ hs) (z ∷ zs)) ≡ ((residue n h * residue n z) % n + residue n (dot hs zs)) % n
dot-cons n h z hs zs l =
    residue-add n (h *ℤ z) (dot hs zs) l
    ∙ ap (λ (k : ℕ). (k + residue n (dot hs zs)) % n) (residue-mul n h z l)

-- only the residues of the components count
pub dot-reduced : (n : ℕ) (hs zs : List ℤ) → 0 < n → residue n (dot hs zs) ≡ residue n (dot hs (reduced n zs))
dot-reduced n [] zs l = refl
dot-reduced n (h ∷ hs) [] l = refl
dot-reduced n (h ∷ hs) (z ∷ zs) l =
    dot-cons n h z hs zs l
    ∙ ap (λ (k : ℕ). ((residue n h * residue n z) % n + k) % n) (dot-reduced n hs zs l)
    ∙ ap (λ (k : ℕ). ((residue n h * k) % n + residue n (dot hs (reduced n zs))) % n) (sym (residue_idem n z l))
    ∙ sym (dot-cons n h (pos (residue n z)) hs (reduced n zs) l)

pub dot-scaled : (u : ℤ) (hs zs : List ℤ) → dot hs (scaled u zs) ≡ u *ℤ dot hs zs
dot-scaled u [] zs = sym (*ℤ-zero u)
dot-scaled u (h ∷ hs) [] = sym (*ℤ-zero u)
dot-scaled u (h ∷ hs) (z ∷ zs) =
    ap (λ (k : ℤ). k +ℤ dot hs (scaled u zs)) (W.mul-swap h u z)
    ∙ ap (λ (k : ℤ). u *ℤ (h *ℤ z) +ℤ k) (dot-scaled u hs zs)
    ∙ sym (W.mul-add u (h *ℤ z) (dot hs zs))

pub residue-scaled : (n : ℕ) (u : ℤ) (hs zs : List ℤ) → 0 < n → residue n (dot hs (scaled u zs)) ≡ (residue n u * residue n (dot hs zs)) % n
residue-scaled n u hs zs l = ap (residue n) (dot-scaled u hs zs) ∙ residue-mul n u (dot hs zs) l

-- v undoes u
unscale : (n r u v : ℕ) → 0 < n → r % n ≡ r → (u * v) % n ≡ 1 % n → (v * ((u * r) % n)) % n ≡ r
unscale n r u v l e i =
    mod-mul_right v (u * r) n
    ∙ ap (λ (k : ℕ). k % n) (sym (mul_assoc v u r) ∙ ap (λ (k : ℕ). k * r) (mul_comm v u))
    ∙ sym (mod-mul_left (u * v) r n)
    ∙ ap (λ (k : ℕ). (k * r) % n) i
    ∙ mod-mul_left 1 r n
    ∙ ap (λ (k : ℕ). k % n) (one-mul r)
    ∙ e

-- scaling by a u that has an inverse keeps which rows have equal residues
pub scaled_equal : (n : ℕ) (u v : ℤ) (hs ks zs : List ℤ) → 0 < n → residue n (u *ℤ v) ≡ 1 % n → (residue n (dot hs zs) ≡ residue n (dot ks zs)) ↔ (residue n (dot hs (scaled u zs)) ≡ residue n (dot ks (scaled u zs)))
scaled_equal n u v hs ks zs l i = (there, back)
  where
    there : residue n (dot hs zs) ≡ residue n (dot ks zs) → residue n (dot hs (scaled u zs)) ≡ residue n (dot ks (scaled u zs))
    there e = residue-scaled n u hs zs l ∙ ap (λ (k : ℕ). (residue n u * k) % n) e ∙ sym (residue-scaled n u ks zs l)

    undone : (js : List ℤ) → (residue n v * residue n (dot js (scaled u zs))) % n ≡ residue n (dot js zs)
    undone js =
        ap (λ (k : ℕ). (residue n v * k) % n) (residue-scaled n u js zs l)
        ∙ unscale n (residue n (dot js zs)) (residue n u) (residue n v) l (residue-mod n (dot js zs) l) (sym (residue-mul n u v l) ∙ i)

    back : residue n (dot hs (scaled u zs)) ≡ residue n (dot ks (scaled u zs)) → residue n (dot hs zs) ≡ residue n (dot ks zs)
    back e = sym (undone hs) ∙ ap (λ (k : ℕ). (residue n v * k) % n) e ∙ undone ks

-- ---- a sum of terms that are not below 0, with one division at its end
-- one turn: the sum takes the head's term, and the rest of the row is left
pub dot-turn : (n s t : ℕ) (x z : ℤ) (hs zs : List ℤ) → 0 < n → t % n ≡ residue n (x *ℤ z) → (s + t + residue n (dot hs zs)) % n ≡ (s + residue n (dot (x ∷ hs) (z ∷ zs))) % n
dot-turn n s t x z hs zs h e =
    ap (λ (k : ℕ). k % n) (add_assoc s t (residue n (dot hs zs)))
    ∙ sym (add-mod-mod s (t + residue n (dot hs zs)) n)
    ∙ ap (λ (k : ℕ). (s + k) % n) (sym (mod-add-mod t n (residue n (dot hs zs))) ∙ ap (λ (k : ℕ). (k + residue n (dot hs zs)) % n) e ∙ sym (residue-add n (x *ℤ z) (dot hs zs) h))

-- ---- (-h)·z ≡ -(h·z)
pub dot-neg : (hs zs : List ℤ) → dot (map neg_ℤ hs) zs ≡ neg_ℤ (dot hs zs)
dot-neg [] zs = refl
dot-neg (h ∷ hs) [] = refl
dot-neg (h ∷ hs) (z ∷ zs) =
    ap (λ (x : ℤ). x +ℤ dot (map neg_ℤ hs) zs) (W.neg-mul h z)
    ∙ ap (λ (x : ℤ). neg_ℤ (h *ℤ z) +ℤ x) (dot-neg hs zs)
    ∙ sym (neg_ℤ-+ℤ (h *ℤ z) (dot hs zs))

-- ---- rows that are 0 from an axis on: what z has from there on does not count
-- two vectors of whole numbers have the same components below j; one that a vector lacks counts as 0
abbrev pub AgreeWhole : ℕ → List ℤ → List ℤ → Type 0
AgreeWhole j y z = (i : ℕ) → i < j → get_or y i (pos 0) ≡ get_or z i (pos 0)

-- 0 from the start on: nothing is left of the sum
pub dot_nothing : (h z : List ℤ) → ZeroFrom 0 h → dot h z ≡ pos 0
dot_nothing [] z f = refl
dot_nothing (x ∷ h) [] f = refl
dot_nothing (x ∷ h) (y ∷ z) f =
    ap (λ (a : ℤ). a *ℤ y +ℤ dot h z) (f 0 (omega arith))
    ∙ ap (λ (a : ℤ). a +ℤ dot h z) (zero-*ℤ y)
    ∙ +ℤ_idl (dot h z)
    ∙ dot_nothing h z (λ i l. f (suc i) (omega arith))

-- a vector without components
pub dot-empty : (h : List ℤ) → dot h [] ≡ pos 0
dot-empty [] = refl
dot-empty (x ∷ h) = refl

-- the first axis by itself
dot-head : (x : ℤ) (h z : List ℤ) → dot (x ∷ h) z ≡ x *ℤ get_or z 0 (pos 0) +ℤ dot h (drop 1 z)
dot-head x h [] = sym (ap (λ (a : ℤ). a +ℤ dot h []) (*ℤ-zero x) ∙ +ℤ_idl (dot h []) ∙ dot-empty h)
dot-head x h (a ∷ z) = refl

-- only the components below j count
pub dot_agrees : (j : ℕ) (h y z : List ℤ) → ZeroFrom j h → AgreeWhole j y z → dot h y ≡ dot h z
dot_agrees zero h y z f g = dot_nothing h y f ∙ sym (dot_nothing h z f)
dot_agrees (suc j) [] y z f g = refl
dot_agrees (suc j) (x ∷ h) y z f g =
    dot-head x h y
    ∙ ap (λ (a : ℤ). x *ℤ a +ℤ dot h (drop 1 y)) (g 0 (omega arith))
    ∙ ap (λ (k : ℤ). x *ℤ get_or z 0 (pos 0) +ℤ k) (dot_agrees j h (drop 1 y) (drop 1 z) (λ i l. f (suc i) (omega arith)) later)
    ∙ sym (dot-head x h z)
  where
    later : AgreeWhole j (drop 1 y) (drop 1 z)
    later i l = get_or-drop 1 y i (pos 0) ∙ g (1 + i) (omega arith) ∙ sym (get_or-drop 1 z i (pos 0))
