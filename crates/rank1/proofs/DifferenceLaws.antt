-- The laws of differences. A pair of rows has equal residues where its difference has residue 0. So every plan's rule is that no
-- difference of a pair that it keeps apart has residue 0 (`by-differences`), and these differences are avoided (`difference_avoided`).
-- A value of a component with which an avoided difference that ends there is 0 is struck out (`struck-out`). A table of avoided rows
-- that has all differences decides the rule (`decides`), and where it stays itself when the sign of an axis changes, the rule does not
-- see the sign of that component (`differences-flip`).
use mathlib.Core.Path.{◌≡◌, refl, sym, ◌∙◌, ap}
use mathlib.Core.Logic.{◌↔◌, ◌≢◌, inl, inr}
use mathlib.Core.List.{List, [], ◌∷◌, Memᴰ}
use Prim.Native.Nat.{ℕ, zero, suc, ◌+◌, ◌*◌, ◌%◌, ◌<◌}
use native.Mathlib.Nat.{zero-mod, add-mod-mod}
use native.Mathlib.Omega.{arith}
use lib.IntN.{ℤ, pos, neg_ℤ, ◌+ℤ◌, ◌-ℤ◌, ◌*ℤ◌, +ℤ_idl, +ℤ_idr, +ℤ_assoc, +ℤ_comm, neg_ℤ-neg_ℤ, neg_ℤ-+ℤ, zero-*ℤ, *ℤ-zero}
use lib.ListN.{length, get_or, take}
use Rattle.rank1.specs.Residue.{residue, dot, residue_at}
use Rattle.rank1.specs.Index.{zero_row}
use Rattle.rank1.specs.Rule.{Rule, Admissible}
use Rattle.rank1.specs.Axes.{ZeroFrom, flip}
use Rattle.rank1.specs.Differences.{Apart, minus, negative, Has, EndsAt, Avoided, Sound, Complete, Closed}
use Rattle.rank1.proofs.Whole as W
use Rattle.rank1.proofs.ResidueLaws.{residue-add, difference_zero, zero_difference}
use Rattle.rank1.proofs.DotLaws.{dot-neg, dot_nothing, AgreeWhole, dot_agrees}
use Rattle.rank1.proofs.RuleLaws.{one-rule}
use Rattle.rank1.specs.Differences.{Flips}
use Rattle.rank1.proofs.FlipLaws.{dot-flip}

-- ---- s - t
-- (x - y) a + (p - q) ≡ (x a + p) - (y a + q)
minus-step : (x y a p q : ℤ) → (x -ℤ y) *ℤ a +ℤ (p -ℤ q) ≡ (x *ℤ a +ℤ p) -ℤ (y *ℤ a +ℤ q)
minus-step x y a p q =
    ap (λ (k : ℤ). k +ℤ (p -ℤ q)) (W.add-mul x (neg_ℤ y) a ∙ ap (λ (k : ℤ). x *ℤ a +ℤ k) (W.neg-mul y a))
    ∙ W.middle (x *ℤ a) (neg_ℤ (y *ℤ a)) p (neg_ℤ q)
    ∙ ap (λ (k : ℤ). (x *ℤ a +ℤ p) +ℤ k) (sym (neg_ℤ-+ℤ (y *ℤ a) q))

-- (s - t)·z ≡ s·z - t·z
pub dot-minus : (s t z : List ℤ) → dot (minus s t) z ≡ dot s z -ℤ dot t z
dot-minus [] [] z = refl
dot-minus (x ∷ s) [] z = sym (+ℤ_idr (dot (x ∷ s) z))
dot-minus [] (y ∷ t) [] = refl
dot-minus [] (y ∷ t) (a ∷ z) =
    ap (λ (k : ℤ). neg_ℤ y *ℤ a +ℤ k) (dot-minus [] t z ∙ +ℤ_idl (neg_ℤ (dot t z)))
    ∙ ap (λ (k : ℤ). k +ℤ neg_ℤ (dot t z)) (W.neg-mul y a)
    ∙ sym (+ℤ_idl (neg_ℤ (y *ℤ a +ℤ dot t z)) ∙ neg_ℤ-+ℤ (y *ℤ a) (dot t z))
dot-minus (x ∷ s) (y ∷ t) [] = refl
dot-minus (x ∷ s) (y ∷ t) (a ∷ z) = ap (λ (k : ℤ). (x -ℤ y) *ℤ a +ℤ k) (dot-minus s t z) ∙ minus-step x y a (dot s z) (dot t z)

-- component by component
pub minus_at : (s t : List ℤ) (i : ℕ) → get_or (minus s t) i (pos 0) ≡ get_or s i (pos 0) -ℤ get_or t i (pos 0)
minus_at s [] i = sym (+ℤ_idr (get_or s i (pos 0)))
minus_at [] (y ∷ t) zero = sym (+ℤ_idl (neg_ℤ y))
minus_at [] (y ∷ t) (suc i) = minus_at [] t i
minus_at (x ∷ s) (y ∷ t) zero = refl
minus_at (x ∷ s) (y ∷ t) (suc i) = minus_at s t i

-- the length stays, where both rows have it
pub minus-length : (s t : List ℤ) → length s ≡ length t → length (minus s t) ≡ length s
minus-length s [] e = refl
minus-length [] (y ∷ t) e = absurd (omega arith)
minus-length (x ∷ s) (y ∷ t) e = ap suc (minus-length s t (omega arith))

-- t - s is -(s - t)
pub minus-swap : (s t : List ℤ) → minus t s ≡ negative (minus s t)
minus-swap [] [] = refl
minus-swap (x ∷ s) [] = ap (λ (l : List ℤ). neg_ℤ x ∷ l) (minus-swap s [])
minus-swap [] (y ∷ t) = ap (λ (x : ℤ). x ∷ t) (sym (neg_ℤ-neg_ℤ y)) ∙ ap (λ (l : List ℤ). neg_ℤ (neg_ℤ y) ∷ l) (minus-swap [] t)
minus-swap (x ∷ s) (y ∷ t) =
    ap (λ (k : ℤ). k ∷ minus t s) (+ℤ_comm y (neg_ℤ x) ∙ ap (λ (k : ℤ). neg_ℤ x +ℤ k) (sym (neg_ℤ-neg_ℤ y)) ∙ sym (neg_ℤ-+ℤ x (neg_ℤ y)))
    ∙ ap (λ (l : List ℤ). neg_ℤ (x -ℤ y) ∷ l) (minus-swap s t)

-- a row of zeros counts as the empty row
pub minus-zeros : (s : List ℤ) → minus s (zero_row (length s)) ≡ minus s []
minus-zeros [] = refl
minus-zeros (x ∷ s) = ap (λ (k : ℤ). k ∷ minus s (zero_row (length s))) (+ℤ_idr x) ∙ ap (λ (l : List ℤ). x ∷ l) (minus-zeros s)

-- ---- residue 0
-- two rows have equal residues exactly where their difference has residue 0
pub equal_by_minus : (n : ℕ) (z s t : List ℤ) → 0 < n → (residue_at n z s ≡ residue_at n z t) ↔ (residue_at n z (minus s t) ≡ 0)
equal_by_minus n z s t l = (
  (λ e. ap (residue n) (dot-minus s t z) ∙ difference_zero n (dot s z) (dot t z) l e),
  (λ e. zero_difference n (dot s z) (dot t z) l (ap (residue n) (sym (dot-minus s t z)) ∙ e)),
)

-- -h has residue 0 where h has
pub negative_zero : (n : ℕ) (z h : List ℤ) → 0 < n → residue_at n z h ≡ 0 → residue_at n z (negative h) ≡ 0
negative_zero n z h l e =
    ap (residue n) (dot-neg h z ∙ sym (+ℤ_idl (neg_ℤ (dot h z))))
    ∙ difference_zero n (pos 0) (dot h z) l (zero-mod n ∙ sym e)

-- -(-h) is h
pub negative-negative : (h : List ℤ) → negative (negative h) ≡ h
negative-negative [] = refl
negative-negative (x ∷ h) = ap (λ (y : ℤ). y ∷ negative (negative h)) (neg_ℤ-neg_ℤ x) ∙ ap (λ (l : List ℤ). x ∷ l) (negative-negative h)

-- so -h has it only there
pub zero_negative : (n : ℕ) (z h : List ℤ) → 0 < n → residue_at n z (negative h) ≡ 0 → residue_at n z h ≡ 0
zero_negative n z h l e = ap (residue_at n z) (sym (negative-negative h)) ∙ negative_zero n z (negative h) l e

-- ---- the rules
-- every plan's rule: no difference of a pair that it keeps apart has residue 0
pub by-differences :
    (plan : ℕ) (ks : List (List ℤ)) (n : ℕ) (z : List ℤ) → 0 < n
    → Admissible plan ks n z ↔ ((s t : List ℤ) → Apart plan ks s t → residue_at n z (minus s t) ≢ 0)
by-differences plan ks n z l = (
  (λ a s t p e. (one-rule ks n z plan).0 a s t p ((equal_by_minus n z s t l).1 e)),
  (λ f. (one-rule ks n z plan).1 (λ s t p e. f s t p ((equal_by_minus n z s t l).0 e))),
)

-- so these differences are avoided
pub difference_avoided : (plan : ℕ) (ks : List (List ℤ)) (s t : List ℤ) → Apart plan ks s t → Avoided (Admissible plan ks) (minus s t)
unfolding Avoided
difference_avoided plan ks s t p n z l a = (by-differences plan ks n z l).0 a s t p

-- and with a row its negative is
pub negative_avoided : (rule : Rule) (h : List ℤ) → Avoided rule h → Avoided rule (negative h)
unfolding Avoided
negative_avoided rule h v n z l a e = v n z l a (zero_negative n z h l e)

-- ---- striking
-- the row may be cut off where it is 0
pub dot-take : (j : ℕ) (h z : List ℤ) → ZeroFrom j h → dot (take j h) z ≡ dot h z
dot-take zero h z f = sym (dot_nothing h z f)
dot-take (suc j) [] z f = refl
dot-take (suc j) (x ∷ h) [] f = refl
dot-take (suc j) (x ∷ h) (a ∷ z) f = ap (λ (k : ℤ). x *ℤ a +ℤ k) (dot-take j h z (λ i m. f (suc i) (omega arith)))

-- one more axis
pub dot-more : (j : ℕ) (h z : List ℤ) → dot (take (suc j) h) z ≡ dot (take j h) z +ℤ get_or h j (pos 0) *ℤ get_or z j (pos 0)
dot-more zero [] z = sym (+ℤ_idl (pos 0 *ℤ get_or z 0 (pos 0)) ∙ zero-*ℤ (get_or z 0 (pos 0)))
dot-more (suc j) [] z = sym (+ℤ_idl (pos 0 *ℤ get_or z (suc j) (pos 0)) ∙ zero-*ℤ (get_or z (suc j) (pos 0)))
dot-more zero (x ∷ h) [] = sym (+ℤ_idl (x *ℤ pos 0) ∙ *ℤ-zero x)
dot-more (suc j) (x ∷ h) [] = sym (+ℤ_idl (get_or h j (pos 0) *ℤ pos 0) ∙ *ℤ-zero (get_or h j (pos 0)))
dot-more zero (x ∷ h) (a ∷ z) = +ℤ_idr (x *ℤ a) ∙ sym (+ℤ_idl (x *ℤ a))
dot-more (suc j) (x ∷ h) (a ∷ z) =
    ap (λ (k : ℤ). x *ℤ a +ℤ k) (dot-more j h z)
    ∙ sym (+ℤ_assoc (x *ℤ a) (dot (take j h) z) (get_or h j (pos 0) *ℤ get_or z j (pos 0)))

-- the same in residues: how the sum of a prefix takes the product of the next axis
pub residue-more :
    (n j : ℕ) (h z : List ℤ) → 0 < n
    → residue_at n z (take (suc j) h) ≡ (residue_at n z (take j h) + residue n (get_or h j (pos 0) *ℤ get_or z j (pos 0))) % n
residue-more n j h z l = ap (residue n) (dot-more j h z) ∙ residue-add n (dot (take j h) z) (get_or h j (pos 0) *ℤ get_or z j (pos 0)) l

-- behind its end a part is 0
take_zero : (j : ℕ) (h : List ℤ) → ZeroFrom j (take j h)
take_zero zero h i m = refl
take_zero (suc j) [] i m = refl
take_zero (suc j) (x ∷ h) zero m = absurd (omega arith)
take_zero (suc j) (x ∷ h) (suc i) m = take_zero j h i (omega arith)

-- the residue of the part before axis j hangs on the components before it alone
pub part_agrees : (n j : ℕ) (h y z : List ℤ) → AgreeWhole j y z → residue_at n y (take j h) ≡ residue_at n z (take j h)
part_agrees n j h y z g = ap (residue n) (dot_agrees j (take j h) y z (take_zero j h) g)

-- the residue of a row that ends at axis j: that of the part before it, and t v
pub end-residue :
    (n j t v : ℕ) (h y : List ℤ) → 0 < n → EndsAt j t h → get_or y j (pos 0) ≡ pos v
    → residue_at n y h ≡ (residue_at n y (take j h) + t * v) % n
end-residue n j t v h y l f e =
    ap (residue n) (sym (dot-take (suc j) h y f.behind))
    ∙ residue-more n j h y l
    ∙ ap (λ (x : ℤ). (residue_at n y (take j h) + residue n (x *ℤ get_or y j (pos 0))) % n) f.last
    ∙ ap (λ (x : ℤ). (residue_at n y (take j h) + residue n (pos t *ℤ x)) % n) e
    ∙ add-mod-mod (residue_at n y (take j h)) (t * v) n

-- a value v of component j that solves c + t v = 0, where c is the residue of the part before it, is struck out: no y that meets the
-- rule and agrees with z below j has it
pub struck-out :
    (rule : Rule) (n j t v : ℕ) (h y z : List ℤ) → 0 < n → Avoided rule h → EndsAt j t h → AgreeWhole j y z → get_or y j (pos 0) ≡ pos v
    → (residue_at n z (take j h) + t * v) % n ≡ 0 → rule n y → ⊥
unfolding Avoided
struck-out rule n j t v h y z l avoided f g e solved a =
    avoided n y l a (end-residue n j t v h y l f e ∙ ap (λ (c : ℕ). (c + t * v) % n) (part_agrees n j h y z g) ∙ solved)

-- ---- tables that have all differences
-- no row of D has residue 0
abbrev pub NoneZero : List (List ℤ) → ℕ → List ℤ → Type 0
NoneZero D n z = (h : List ℤ) → Memᴰ h D → residue_at n z h ≢ 0

-- nor has one whose negative is in D
pub has_nonzero : (D : List (List ℤ)) (n : ℕ) (z h : List ℤ) → 0 < n → NoneZero D n z → Has D h → residue_at n z h ≢ 0
has_nonzero D n z h l f (inl m) e = f h m e
has_nonzero D n z h l f (inr m) e = f (negative h) m (negative_zero n z h l e)

-- a sound and complete D decides the rule
pub decides :
    (plan : ℕ) (ks D : List (List ℤ)) (n : ℕ) (z : List ℤ) → 0 < n → Sound (Admissible plan ks) D → Complete plan ks D
    → NoneZero D n z ↔ Admissible plan ks n z
unfolding Avoided
decides plan ks D n z l sound complete = (
  (λ f. (by-differences plan ks n z l).1 (λ s t p. has_nonzero D n z (minus s t) l f (complete s t p))),
  (λ a h m. sound h m n z l a),
)

-- where D also stays itself when the sign of axis j changes, the rule passes to z with the other sign at component j
pub differences-flip :
    (plan : ℕ) (ks D : List (List ℤ)) (j : ℕ) → Sound (Admissible plan ks) D → Complete plan ks D → Closed j D → Flips j (Admissible plan ks)
differences-flip plan ks D j sound complete closed n z l a =
    (decides plan ks D n (flip j z) l sound complete).0
    (λ h m e. has_nonzero D n z (flip j h) l ((decides plan ks D n z l sound complete).1 a) (closed h m) (ap (residue n) (dot-flip j h z) ∙ e))
