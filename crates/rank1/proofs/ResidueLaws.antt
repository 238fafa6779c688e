-- The laws of residues.
use mathlib.Core.Path.{◌≡◌, refl, sym, ◌∙◌, ap, subst}
use mathlib.Core.Logic.{◌↔◌}
use mathlib.Core.Bool.{Bool, true, false, not, cond}
use Prim.Native.Nat.{ℕ, zero, suc, ◌+◌, ◌*◌, ◌-◌, ◌/◌, ◌%◌, ◌<◌, ◌≤◌}
use native.Mathlib.Nat.{add-zero, zero-add, zero-mul, mul-zero, one-mul, add-mul, add-mul-mod_self_left, mod-add-mod, add-mod-mod, add-mod, mod-lt, mod-mod, mod_self, mod-eq_of_lt, div-add-mod, mod-add-div', zero-mod, suc-mul}
use native.Mathlib.Omega.{arith}
use lib.Dec.{T, ltb, ltb→lt, nltb→le}
use lib.IntN.{ℤ, pos, negsuc, suc_ℤ, pred_ℤ, neg_ℤ, ◌+ℤ◌, ◌-ℤ◌, ◌*ℤ◌, +ℤ_idr, +ℤ_one, +ℤ_invr, zero-*ℤ, suc_ℤ-*ℤ, suc-pred, -ℤ-+ℤ_cancel}
use Rattle.rank1.specs.Residue.{residue}
use Rattle.rank1.proofs.Whole as W
use Rattle.rank1.proofs.Modulo.{mod-mul_left, cancel}

pub residue-lt : (n : ℕ) (x : ℤ) → 0 < n → residue n x < n
residue-lt n (pos a) h = mod-lt a h
residue-lt n (negsuc a) h = omega (arith, mod-lt a h)

-- a residue is its own remainder
pub residue-mod : (n : ℕ) (x : ℤ) → 0 < n → residue n x % n ≡ residue n x
residue-mod n x h = mod-eq_of_lt (residue-lt n x h)

-- the residue of a - b is the number below n that makes a up from b
cond_ind : (c : Bool) (x y : ℤ) (P : ℤ → Type 0) → (T c → P x) → (T (not c) → P y) → P (cond c x y)
cond_ind true x y P f g = f tt
cond_ind false x y P f g = g tt

difference : (n a b : ℕ) → 0 < n → (residue n (pos a -ℤ pos b) + b) % n ≡ a % n
difference n a zero h =
    ap (λ (x : ℕ). x % n) (add-zero ((a + zero) % n)) ∙ mod-mod (a + zero) n ∙ ap (λ (x : ℕ). x % n) (add-zero a)
difference n a (suc b) h =
    cond_ind (ltb a (suc b)) (negsuc (suc b - suc a)) (pos (a - suc b)) (λ z. (residue n z + suc b) % n ≡ a % n)
    (λ t. ap (λ (x : ℕ). x % n) (less (ltb→lt a (suc b) t)) ∙ add-mul-mod_self_left a n (suc ((suc b - suc a) / n)))
    (λ t. mod-add-mod (a - suc b) n (suc b) ∙ ap (λ (x : ℕ). x % n) (more (nltb→le a (suc b) t)))
  where
    less : a < suc b → n - suc ((suc b - suc a) % n) + suc b ≡ a + n * suc ((suc b - suc a) / n)
    less l = omega (arith, div-add-mod (suc b - suc a) n, mod-lt (suc b - suc a) h, native.Mathlib.Nat.mul-suc n ((suc b - suc a) / n))

    more : suc b ≤ a → a - suc b + suc b ≡ a
    more l = omega arith

-- the only number below n that does
pub residue_is : (n a b r : ℕ) (x : ℤ) → 0 < n → x ≡ pos a -ℤ pos b → (r + b) % n ≡ a % n → residue n x ≡ r % n
residue_is n a b r x h e f =
    sym (residue-mod n x h)
    ∙ cancel (residue n x) r b n h (ap (λ (z : ℤ). (residue n z + b) % n) e ∙ difference n a b h ∙ sym f)

pub residue-add : (n : ℕ) (x y : ℤ) → 0 < n → residue n (x +ℤ y) ≡ (residue n x + residue n y) % n
residue-add n x y h =
    residue_is n (W.above x + W.above y) (W.below x + W.below y) (residue n x + residue n y) (x +ℤ y) h
    (ap (λ (z : ℤ). z +ℤ y) (W.split x) ∙ ap (λ (z : ℤ). (pos (W.above x) -ℤ pos (W.below x)) +ℤ z) (W.split y) ∙ W.add_split (W.above x) (W.below x) (W.above y) (W.below y))
    (ap (λ (k : ℕ). k % n) regroup
    ∙ add-mod (residue n x + W.below x) (residue n y + W.below y) n
    ∙ ap (λ (k : ℕ). (k + (residue n y + W.below y) % n) % n) (of x)
    ∙ ap (λ (k : ℕ). (W.above x % n + k) % n) (of y)
    ∙ sym (add-mod (W.above x) (W.above y) n))
  where
    regroup : residue n x + residue n y + (W.below x + W.below y) ≡ (residue n x + W.below x) + (residue n y + W.below y)
    regroup = omega arith

    of : (z : ℤ) → (residue n z + W.below z) % n ≡ W.above z % n
    of z = ap (λ (k : ℤ). (residue n k + W.below z) % n) (W.split z) ∙ difference n (W.above z) (W.below z) h

-- one more
residue_suc : (n : ℕ) (x : ℤ) → 0 < n → residue n (suc_ℤ x) ≡ (residue n x + 1) % n
residue_suc n x h =
    ap (residue n) (sym (+ℤ_one x)) ∙ residue-add n x (pos 1) h ∙ add-mod-mod (residue n x) 1 n

module _ (n : ℕ) (y : ℤ) (h : 0 < n) where
  -- what one more in the first factor does on each side
  left : (x : ℤ) → residue n (suc_ℤ x *ℤ y) ≡ (residue n (x *ℤ y) + residue n y) % n
  left x = ap (residue n) (suc_ℤ-*ℤ x y) ∙ residue-add n (x *ℤ y) y h

  right : (x : ℤ) → (residue n (suc_ℤ x) * residue n y) % n ≡ (residue n x * residue n y + residue n y) % n
  right x =
      ap (λ (k : ℕ). (k * residue n y) % n) (residue_suc n x h)
      ∙ mod-mul_left (residue n x + 1) (residue n y) n
      ∙ ap (λ (k : ℕ). k % n) (add-mul (residue n x) 1 (residue n y) ∙ ap (λ (k : ℕ). residue n x * residue n y + k) (one-mul (residue n y)))

  Product : ℤ → Type 0
  Product x = residue n (x *ℤ y) ≡ (residue n x * residue n y) % n

  up : (x : ℤ) → Product x → Product (suc_ℤ x)
  unfolding Product
  up x p =
      left x
      ∙ ap (λ (k : ℕ). (k + residue n y) % n) p
      ∙ mod-add-mod (residue n x * residue n y) n (residue n y)
      ∙ sym (right x)

  down' : (x : ℤ) → Product (suc_ℤ x) → Product x
  unfolding Product
  down' x p =
      sym (residue-mod n (x *ℤ y) h)
      ∙ cancel (residue n (x *ℤ y)) (residue n x * residue n y) (residue n y) n h (sym (left x) ∙ p ∙ right x)

  down : (x : ℤ) → Product x → Product (pred_ℤ x)
  down x p = down' (pred_ℤ x) (subst Product (sym (suc-pred x)) p)

  base : Product (pos 0)
  unfolding Product
  base =
      ap (residue n) (zero-*ℤ y)
      ∙ sym (mod-mul_left 0 (residue n y) n ∙ ap (λ (k : ℕ). k % n) (zero-mul (residue n y)))

pub residue-mul : (n : ℕ) (x y : ℤ) → 0 < n → residue n (x *ℤ y) ≡ (residue n x * residue n y) % n
unfolding Product
residue-mul n x y h = W.steps (Product n y h) (base n y h) (up n y h) (down n y h) x

-- a number and its residue have the same residue
pub residue_idem : (n : ℕ) (x : ℤ) → 0 < n → residue n (pos (residue n x)) ≡ residue n x
residue_idem n x h = residue-mod n x h

-- ---- equal residues: the difference is a multiple of n
abbrev pub quotient : ℕ → ℤ → ℤ
quotient n (pos a) = pos (a / n)
quotient n (negsuc a) = negsuc (a / n)

pub euclid : (n : ℕ) (x : ℤ) → 0 < n → x ≡ pos (residue n x) +ℤ quotient n x *ℤ pos n
euclid n (pos a) h = ap pos (sym (mod-add-div' a n))
euclid n (negsuc a) h =
    sym (ap (λ (k : ℕ). pos (n - suc (a % n)) +ℤ neg_ℤ (pos k)) total ∙ W.under (n - suc (a % n)) (suc a))
  where
    total : suc (a / n) * n ≡ n - suc (a % n) + suc a
    total = omega (arith, mod-add-div' a n, mod-lt a h, suc-mul (a / n) n)

-- y ≡ r + q m says y + (p - q) m ≡ r + p m
shift : (y r p q m : ℤ) → y ≡ r +ℤ q *ℤ m → y +ℤ (p -ℤ q) *ℤ m ≡ r +ℤ p *ℤ m
shift y r p q m e =
    ap (λ (k : ℤ). y +ℤ k) (W.add-mul p (neg_ℤ q) m ∙ ap (λ (k : ℤ). p *ℤ m +ℤ k) (W.neg-mul q m))
    ∙ ap (λ (k : ℤ). k +ℤ (p *ℤ m +ℤ neg_ℤ (q *ℤ m))) e
    ∙ W.middle r (q *ℤ m) (p *ℤ m) (neg_ℤ (q *ℤ m))
    ∙ ap (λ (k : ℤ). (r +ℤ p *ℤ m) +ℤ k) (+ℤ_invr (q *ℤ m))
    ∙ +ℤ_idr (r +ℤ p *ℤ m)

pub record Congruent (n : ℕ) (x y : ℤ) : Type 0 where
  pub times : ℤ
  pub is : x ≡ y +ℤ times *ℤ pos n

pub equal_residues : (n : ℕ) (x y : ℤ) → 0 < n → residue n x ≡ residue n y → Congruent n x y
equal_residues n x y h e = record {
  times = quotient n x -ℤ quotient n y;
  is = euclid n x h ∙ ap (λ (k : ℕ). pos k +ℤ quotient n x *ℤ pos n) e ∙ sym (shift y (pos (residue n y)) (quotient n x) (quotient n y) (pos n) (euclid n y h));
}

pub congruent_residues : (n : ℕ) (x y : ℤ) → 0 < n → Congruent n x y → residue n x ≡ residue n y
congruent_residues n x y h c =
    ap (residue n) c.is
    ∙ residue-add n y (c.times *ℤ pos n) h
    ∙ ap (λ (k : ℕ). (residue n y + k) % n) multiple
    ∙ ap (λ (k : ℕ). k % n) (add-zero (residue n y))
    ∙ residue-mod n y h
  where
    multiple : residue n (c.times *ℤ pos n) ≡ 0
    multiple =
        residue-mul n c.times (pos n) h
        ∙ ap (λ (k : ℕ). (residue n c.times * k) % n) (mod_self n)
        ∙ ap (λ (k : ℕ). k % n) (mul-zero (residue n c.times))
        ∙ zero-mod n

-- the same by the difference
pub difference_zero : (n : ℕ) (x y : ℤ) → 0 < n → residue n x ≡ residue n y → residue n (x -ℤ y) ≡ 0
difference_zero n x y h e =
    sym (residue-mod n (x -ℤ y) h)
    ∙ cancel (residue n (x -ℤ y)) 0 (residue n y) n h
    (sym (residue-add n (x -ℤ y) y h) ∙ ap (residue n) (-ℤ-+ℤ_cancel x y) ∙ e ∙ sym (ap (λ (k : ℕ). k % n) (zero-add (residue n y)) ∙ residue-mod n y h))
    ∙ zero-mod n

pub zero_difference : (n : ℕ) (x y : ℤ) → 0 < n → residue n (x -ℤ y) ≡ 0 → residue n x ≡ residue n y
zero_difference n x y h e =
    ap (residue n) (sym (-ℤ-+ℤ_cancel x y))
    ∙ residue-add n (x -ℤ y) y h
    ∙ ap (λ (k : ℕ). (k + residue n y) % n) e
    ∙ ap (λ (k : ℕ). k % n) (zero-add (residue n y))
    ∙ residue-mod n y h

pub same_residue : (n : ℕ) (x y : ℤ) → 0 < n → (residue n x ≡ residue n y) ↔ Congruent n x y
same_residue n x y h = (equal_residues n x y h, congruent_residues n x y h)

-- the residue differs from x by a multiple of n, and no other number below n does
pub residue_congruent : (n : ℕ) (x : ℤ) → 0 < n → Congruent n x (pos (residue n x))
residue_congruent n x h = record { times = quotient n x; is = euclid n x h }

pub residue_unique : (n : ℕ) (x : ℤ) (r : ℕ) → r < n → Congruent n x (pos r) → residue n x ≡ r
residue_unique n x r l c = congruent_residues n x (pos r) (omega arith) c ∙ mod-eq_of_lt l

-- document 01's own example
pub minus_seven : residue 4 (negsuc 6) ≡ 1
minus_seven = refl
