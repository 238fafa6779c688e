-- Numbers without a common factor, by an inverse: laws, Euclid's algorithm, and a multiplier that takes v below itself modulo n.
use mathlib.Core.Path.{◌≡◌, refl, sym, ◌∙◌, ap, subst}
use mathlib.Core.Logic.{◌≢◌, ◌⊎◌, inl, inr}
use Prim.Native.Nat.{ℕ, zero, suc, ◌+◌, ◌*◌, ◌/◌, ◌%◌, ◌<◌, ◌≤◌}
use native.Mathlib.Nat.{mul-zero, mul-one, one-mul, mul-add, mul_assoc, mul_comm, suc-mul, mul_left_comm, mul-mul-mul_comm, mul-mod_right, mul-add-mod_self_left, add-mul-mod_self_left, add-mul-mod_self_right, div-add-mod, mod-lt, mod-eq_of_lt, mul-le-mul_right, le-mul_of_pos_right}
use native.Mathlib.Decide.{ℕ_discrete}
use native.Mathlib.Omega.{arith}
use Rattle.rank1.proofs.Modulo.{mod-mul_left, mul-mod, cancel}

-- a and n have no common factor above 1: a has an inverse modulo n
pub record Coprime (a n : ℕ) : Type 0 where
  pub inverse : ℕ
  pub is : (a * inverse) % n ≡ 1 % n

pub coprime_mul : (a b n : ℕ) → Coprime a n → Coprime b n → Coprime (a * b) n
coprime_mul a b n p q = record {
  inverse = p.inverse * q.inverse;
  is = ap (λ (k : ℕ). k % n) (mul-mul-mul_comm a b p.inverse q.inverse)
      ∙ mul-mod (a * p.inverse) (b * q.inverse) n
      ∙ ap (λ (k : ℕ). (k * ((b * q.inverse) % n)) % n) p.is
      ∙ ap (λ (k : ℕ). (1 % n * k) % n) q.is
      ∙ sym (mul-mod 1 1 n);
}

pub coprime_factor : (a b n : ℕ) → Coprime (a * b) n → Coprime a n
coprime_factor a b n p = record {
  inverse = b * p.inverse;
  is = ap (λ (k : ℕ). k % n) (sym (mul_assoc a b p.inverse)) ∙ p.is;
}

pub coprime_same : (a b n : ℕ) → a % n ≡ b % n → Coprime a n → Coprime b n
coprime_same a b n e p = record {
  inverse = p.inverse;
  is = sym (mod-mul_left b p.inverse n) ∙ ap (λ (k : ℕ). (k * p.inverse) % n) (sym e) ∙ mod-mul_left a p.inverse n ∙ p.is;
}

-- a factor of a number above 0 is above 0
pub pos_right : (g x y : ℕ) → y ≡ g * x → 0 < y → 0 < x
pos_right g zero y e h = absurd (omega (arith, mul-zero g))
pos_right g (suc x) y e h = omega arith

pub pos_left : (g x y : ℕ) → y ≡ g * x → 0 < y → 0 < g
pos_left g x y e h = pos_right x g y (e ∙ mul_comm g x) h

coprime_sym' : (p m : ℕ) → Coprime (suc p) (suc (suc m)) → Coprime (suc (suc m)) (suc p)
coprime_sym' p m c = record {
  inverse = p * q;
  is = ap (λ (k : ℕ). k % suc p) (mul_left_comm n p q)
      ∙ cancel (p * (n * q)) 1 (n * q) (suc p) (omega arith) (
      ap (λ (k : ℕ). k % suc p) (sym (suc-mul p (n * q)))
      ∙ mul-mod_right (suc p) (n * q)
      ∙ sym (ap (λ (k : ℕ). k % suc p) whole ∙ mul-mod_right (suc p) w));
}
  where
    n : ℕ
    n = suc (suc m)

    w : ℕ
    w = c.inverse

    q : ℕ
    q = suc p * w / n

    whole : 1 + n * q ≡ suc p * w
    whole = omega (arith, div-add-mod (suc p * w) n, c.is, mod-eq_of_lt {n = 1} {m = n} (omega arith))

pub coprime_sym : (a n : ℕ) → 0 < a → 0 < n → Coprime a n → Coprime n a
coprime_sym zero n h l c = absurd (omega arith)
coprime_sym (suc p) zero h l c = absurd (omega arith)
coprime_sym (suc p) (suc zero) h l c = record { inverse = 1; is = refl }
coprime_sym (suc p) (suc (suc m)) h l c = coprime_sym' p m c

-- ---- Euclid's algorithm
pub record Gcd (a n : ℕ) : Type 0 where
  pub common : ℕ
  pub left : ℕ
  pub right : ℕ
  pub left_is : a ≡ common * left
  pub right_is : n ≡ common * right
  pub apart : Coprime left right

euclid_step : (a n : ℕ) → 0 < a → 0 < n → Gcd (n % a) a → Gcd a n
euclid_step a n h l r = record {
  common = r.common;
  left = r.right;
  right = r.right * (n / a) + r.left;
  left_is = r.right_is;
  right_is = whole;
  apart = coprime_sym (r.right * (n / a) + r.left) r.right (pos_right r.common (r.right * (n / a) + r.left) n whole l) (pos_right r.common r.right a r.right_is h)
      (coprime_same r.left (r.right * (n / a) + r.left) r.right (sym (mul-add-mod_self_left r.right (n / a) r.left)) r.apart);
}
  where
    whole : n ≡ r.common * (r.right * (n / a) + r.left)
    whole =
        sym (div-add-mod n a)
        ∙ ap (λ (k : ℕ). k * (n / a) + n % a) r.right_is
        ∙ ap (λ (k : ℕ). r.common * r.right * (n / a) + k) r.left_is
        ∙ ap (λ (k : ℕ). k + r.common * r.left) (mul_assoc r.common r.right (n / a))
        ∙ sym (mul-add r.common (r.right * (n / a)) r.left)

euclid_fuel : (f a n : ℕ) → a < f → 0 < n → Gcd a n
euclid_fuel zero a n h l = absurd (omega arith)
euclid_fuel (suc f) zero n h l = record {
  common = n;
  left = 0;
  right = 1;
  left_is = sym (mul-zero n);
  right_is = sym (mul-one n);
  apart = record { inverse = 0; is = refl };
}
euclid_fuel (suc f) (suc a) n h l =
    euclid_step (suc a) n (omega arith) l (euclid_fuel f (n % suc a) (suc a) (omega (arith, mod-lt n {m = suc a} (omega arith))) (omega arith))

pub gcd : (a n : ℕ) → 0 < n → Gcd a n
gcd a n l = euclid_fuel (suc a) a n (omega arith) l

-- ---- m without its factors in common with b
pub record Cleared (m b : ℕ) : Type 0 where
  pub rest : ℕ
  pub above : 0 < rest
  pub apart : Coprime rest b
  pub enough : (u : ℕ) → Coprime rest u → Coprime b u → Coprime m u

clear_one : (m b : ℕ) → 0 < m → (r : Gcd m b) → r.common ≡ 1 → Cleared m b
clear_one m b h r e = record {
  rest = m;
  above = h;
  apart = subst (λ (k : ℕ). Coprime k b) (sym (one r.left m r.left_is)) (subst (λ (k : ℕ). Coprime r.left k) (sym (one r.right b r.right_is)) r.apart);
  enough = λ u p q. p;
}
  where
    one : (x y : ℕ) → y ≡ r.common * x → y ≡ x
    one x y i = i ∙ ap (λ (k : ℕ). k * x) e ∙ one-mul x

clear_more : (m b : ℕ) → (r : Gcd m b) → Cleared r.left b → Cleared m b
clear_more m b r c = record {
  rest = c.rest;
  above = c.above;
  apart = c.apart;
  enough = λ u p q. subst (λ (k : ℕ). Coprime k u) (sym r.left_is)
      (coprime_mul r.common r.left u (coprime_factor r.common r.right u (subst (λ (k : ℕ). Coprime k u) r.right_is q)) (c.enough u p q));
}

-- a factor of which another is at least 2 is smaller
smaller : (g x y : ℕ) → y ≡ g * x → 0 < y → g ≢ 1 → x < y
smaller g x y e h i = omega (arith, pos_left g x y e h, pos_right g x y e h, mul-le-mul_right {m = 2} {n = g} x (two g (pos_left g x y e h) i))
  where
    two : (k : ℕ) → 0 < k → k ≢ 1 → 2 ≤ k
    two k l j = omega arith

clear_fuel : (f m b : ℕ) → m < f → 0 < m → 0 < b → Cleared m b
clear_fuel zero m b h l i = absurd (omega arith)
clear_fuel (suc f) m b h l i = go (λ x j k. clear_fuel f x b j k i) (gcd m b i)
  where
    go : ((x : ℕ) → x < f → 0 < x → Cleared x b) → Gcd m b → Cleared m b
    go below r = elim (ℕ_discrete r.common 1) [
      | yes e ↦ clear_one m b l r e
      | no e ↦ clear_more m b r (below r.left (omega (arith, smaller r.common r.left m r.left_is l e)) (pos_right r.common r.left m r.left_is l))
    ]

pub clear : (m b : ℕ) → 0 < m → 0 < b → Cleared m b
clear m b h i = clear_fuel (suc m) m b (omega arith) h i

-- ---- an inverse modulo a factor, moved by multiples of the factor, is one modulo n
pub record Lifted (b m n : ℕ) : Type 0 where
  pub times : ℕ
  pub apart : Coprime (b + times * m) n

pub lift : (b m n : ℕ) → 0 < b → 0 < m → 0 < n → Coprime b m → Lifted b m n
lift b m n hb hm hn c = go (clear n b hn hb)
  where
    go : Cleared n b → Lifted b m n
    go r = record {
      times = t;
      apart = coprime_sym n u hn hu (r.enough u
          (coprime_sym u t hu r.above (coprime_same b u t (sym (add-mul-mod_self_left b t m)) (coprime_sym t b r.above hb r.apart)))
          (coprime_sym u b hu hb (coprime_same (t * m) u b (sym shifted) (coprime_mul t m b r.apart (coprime_sym b m hb hm c)))));
    }
      where
        t : ℕ
        t = r.rest

        u : ℕ
        u = b + t * m

        hu : 0 < u
        hu = omega arith

        shifted : u % b ≡ (t * m) % b
        shifted = ap (λ (k : ℕ). (k + t * m) % b) (sym (mul-one b)) ∙ mul-add-mod_self_left b 1 (t * m)

-- g x and g y modulo g n go as x and y modulo n
pub mod_common : (g n x y : ℕ) → 0 < n → x % n ≡ y % n → (g * x) % (g * n) ≡ (g * y) % (g * n)
mod_common g n x y h e = part x ∙ ap (λ (k : ℕ). (g * k) % (g * n)) e ∙ sym (part y)
  where
    part : (k : ℕ) → (g * k) % (g * n) ≡ (g * (k % n)) % (g * n)
    part k =
        ap (λ (j : ℕ). (g * j) % (g * n)) (sym (div-add-mod k n))
        ∙ ap (λ (j : ℕ). j % (g * n)) (mul-add g (n * (k / n)) (k % n) ∙ ap (λ (j : ℕ). j + g * (k % n)) (sym (mul_assoc g n (k / n))))
        ∙ mul-add-mod_self_left (g * n) (k / n) (g * (k % n))

-- ---- a v that does not divide n is taken below itself by a multiplier that has an inverse
pub record Lowered (n v : ℕ) : Type 0 where
  pub times : ℕ
  pub apart : Coprime times n
  pub less : (times * v) % n < v

pub lower : (n v : ℕ) → 0 < v → v < n → n % v ≢ 0 → Lowered n v
lower n v hv hn i = go (gcd v n (omega arith))
  where
    go : Gcd v n → Lowered n v
    go r = record { times = u; apart = l.apart; less = less }
      where
        g : ℕ
        g = r.common

        m : ℕ
        m = r.right

        hm : 0 < m
        hm = pos_right g m n r.right_is (omega arith)

        -- an inverse of v / g, above 0
        b : ℕ
        b = r.apart.inverse + m

        inverts : (r.left * b) % m ≡ 1 % m
        inverts =
            ap (λ (k : ℕ). k % m) (mul-add r.left r.apart.inverse m)
            ∙ add-mul-mod_self_right (r.left * r.apart.inverse) r.left m
            ∙ r.apart.is

        l : Lifted b m n
        l = lift b m n (omega (arith, hm)) hm (omega arith) (record { inverse = r.left; is = ap (λ (k : ℕ). k % m) (mul_comm b r.left) ∙ inverts })

        u : ℕ
        u = b + l.times * m

        unit : (r.left * u) % m ≡ 1 % m
        unit =
            ap (λ (k : ℕ). k % m) (mul-add r.left b (l.times * m) ∙ ap (λ (k : ℕ). r.left * b + k) (sym (mul_assoc r.left l.times m)))
            ∙ add-mul-mod_self_right (r.left * b) (r.left * l.times) m
            ∙ inverts

        small : g < v
        small = strict (le-mul_of_pos_right g (pos_right g r.left v r.left_is hv))
          where
            differ : g ≢ v
            differ e = i (ap (λ (k : ℕ). k % v) (r.right_is ∙ ap (λ (k : ℕ). k * m) e) ∙ mul-mod_right v m)

            strict : g ≤ g * r.left → g < v
            strict j = omega (arith, r.left_is, differ)

        is : (u * v) % n ≡ g % n
        is =
            ap (λ (k : ℕ). k % n) (ap (λ (k : ℕ). u * k) r.left_is ∙ mul_left_comm u g r.left ∙ ap (λ (k : ℕ). g * k) (mul_comm u r.left))
            ∙ ap (λ (k : ℕ). (g * (r.left * u)) % k) r.right_is
            ∙ mod_common g m (r.left * u) 1 hm unit
            ∙ ap (λ (k : ℕ). k % (g * m)) (mul-one g)
            ∙ ap (λ (k : ℕ). g % k) (sym r.right_is)

        less : (u * v) % n < v
        less = omega (arith, is, small, mod-eq_of_lt {n = g} {m = n} (omega (arith, small)))

-- ---- the inverse says what 'no common factor above 1' says
pub record Shared (a n : ℕ) : Type 0 where
  pub factor : ℕ
  pub above : 2 ≤ factor
  pub left : a % factor ≡ 0
  pub right : n % factor ≡ 0

-- one or the other
pub coprime_or_shared : (a n : ℕ) → 0 < n → Coprime a n ⊎ Shared a n
coprime_or_shared a n h = go (gcd a n h)
  where
    go : Gcd a n → Coprime a n ⊎ Shared a n
    go r = elim (ℕ_discrete r.common 1) [
      | yes e ↦ inl (subst (λ (k : ℕ). Coprime k n) (sym (one e r.left a r.left_is)) (subst (λ (k : ℕ). Coprime r.left k) (sym (one e r.right n r.right_is)) r.apart))
      | no e ↦ inr (record {
        factor = r.common;
        above = two r.common (pos_left r.common r.right n r.right_is h) e;
        left = ap (λ (k : ℕ). k % r.common) r.left_is ∙ mul-mod_right r.common r.left;
        right = ap (λ (k : ℕ). k % r.common) r.right_is ∙ mul-mod_right r.common r.right;
      })
    ]
      where
        one : r.common ≡ 1 → (x y : ℕ) → y ≡ r.common * x → y ≡ x
        one e x y i = i ∙ ap (λ (k : ℕ). k * x) e ∙ one-mul x

        two : (k : ℕ) → 0 < k → k ≢ 1 → 2 ≤ k
        two k l j = omega arith
