-- Rows from zero up to another row, and the dictionary order of rows without negative components.
use mathlib.Core.Path.{◌≡◌, refl, ◌∙◌, ap}
use mathlib.Core.Logic.{◌⊎◌, inl, inr, ◌≢◌}
use mathlib.Core.Bool.{false}
use mathlib.Core.List.{List, [], ◌∷◌, map}
use Prim.Native.Nat.{ℕ, zero, suc, ◌≤◌, ◌<◌}
use native.Mathlib.Omega.{arith}
use lib.Dec.{T, leb, leb→le, le→leb}
use lib.IntN.{ℤ, pos, negsuc, nat_abs}
use lib.ListN.{length}
use Rattle.rank1.specs.Index.{zero_row}
use Rattle.rank1.specs.Search.{Before}
use Rattle.rank1.specs.Valid.{Nonnegative}
use Rattle.rank1.proofs.TestLaws.{fails_false, both, joined, some_of, of_some}
use Rattle.rank1.proofs.Order.{compared, before_irrefl, before_trans}
use Rattle.rank1.specs.Corners.{from_zero, under, under_some, Earlier}

-- ---- a row and one up to it: their first components, and the rest
pub under-turn : (a : ℕ) (k : List ℤ) (b : ℕ) (c : List ℤ) → T (under (pos a ∷ k) (pos b ∷ c)) → (a ≤ b) × T (under k c)
under-turn a k b c t = let u = both (leb a b) (under k c) t in (leb→le a b u.0, u.1)

pub turn-under : (a : ℕ) (k : List ℤ) (b : ℕ) (c : List ℤ) → a ≤ b → T (under k c) → T (under (pos a ∷ k) (pos b ∷ c))
turn-under a k b c l t = joined (leb a b) (under k c) (le→leb a b l) t

-- ---- up to: no negative component, of one length, reflexive, transitive, antisymmetric
pub under-unsigned : (k c : List ℤ) → T (under k c) → Nonnegative k
under-unsigned [] [] t = tt
under-unsigned [] (y ∷ c) t = tt
under-unsigned (pos a ∷ k) [] t = absurd t
under-unsigned (negsuc a ∷ k) [] t = absurd t
under-unsigned (pos a ∷ k) (pos b ∷ c) t = under-unsigned k c (under-turn a k b c t).1
under-unsigned (pos a ∷ k) (negsuc b ∷ c) t = absurd t
under-unsigned (negsuc a ∷ k) (y ∷ c) t = absurd t

pub under-length : (k c : List ℤ) → T (under k c) → length k ≡ length c
under-length [] [] t = refl
under-length [] (y ∷ c) t = absurd t
under-length (x ∷ k) [] t = absurd t
under-length (x ∷ k) (y ∷ c) t = ap suc (under-length k c (both (from_zero x y) (under k c) t).1)

pub under_refl : (k : List ℤ) → Nonnegative k → T (under k k)
under_refl [] n = tt
under_refl (pos a ∷ k) n = turn-under a k a k (omega arith) (under_refl k n)
under_refl (negsuc a ∷ k) n = absurd n

pub under_trans : (h k c : List ℤ) → T (under h k) → T (under k c) → T (under h c)
under_trans [] [] c s t = t
under_trans [] (y ∷ k) c s t = absurd s
under_trans (x ∷ h) [] c s t = absurd s
under_trans (x ∷ h) (y ∷ k) [] s t = absurd t
under_trans (pos a ∷ h) (pos b ∷ k) (pos c ∷ cs) s t =
    let p = under-turn a h b k s in
    let q = under-turn b k c cs t in
    turn-under a h c cs (omega (arith, p.0, q.0)) (under_trans h k cs p.1 q.1)
under_trans (pos a ∷ h) (pos b ∷ k) (negsuc c ∷ cs) s t = absurd t
under_trans (pos a ∷ h) (negsuc b ∷ k) (z ∷ cs) s t = absurd s
under_trans (negsuc a ∷ h) (y ∷ k) (z ∷ cs) s t = absurd s

-- each up to the other: they are the same
pub under_same : (k c : List ℤ) → T (under k c) → T (under c k) → k ≡ c
under_same [] [] s t = refl
under_same [] (y ∷ c) s t = absurd s
under_same (x ∷ k) [] s t = absurd s
under_same (pos a ∷ k) (pos b ∷ c) s t =
    let p = under-turn a k b c s in
    let q = under-turn b c a k t in
    let e : a ≡ b = omega (arith, p.0, q.0) in
    ap (λ (x : ℕ). pos x ∷ k) e ∙ ap (λ (r : List ℤ). pos b ∷ r) (under_same k c p.1 q.1)
under_same (pos a ∷ k) (negsuc b ∷ c) s t = absurd s
under_same (negsuc a ∷ k) (y ∷ c) s t = absurd s

-- the row of zeros is up to every row without negative components
pub under_zero : (c : List ℤ) → Nonnegative c → T (under (zero_row (length c)) c)
under_zero [] n = tt
under_zero (pos b ∷ c) n = turn-under 0 (zero_row (length c)) b c (omega arith) (under_zero c n)
under_zero (negsuc b ∷ c) n = absurd n

-- ---- up to some corner
-- with a row, every row up to it is up to some corner
pub some_under : (cs : List (List ℤ)) (h k : List ℤ) → T (under h k) → T (under_some cs k) → T (under_some cs h)
some_under cs h k u t = let s = some_of (under k) cs t in of_some (under h) cs s.found s.listed (under_trans h k s.found u s.passes)

pub some_unsigned : (cs : List (List ℤ)) (k : List ℤ) → T (under_some cs k) → Nonnegative k
some_unsigned cs k t = let s = some_of (under k) cs t in under-unsigned k s.found s.passes

-- ---- the order
pub earlier_irrefl : (k : List ℤ) → Earlier k k → ⊥
earlier_irrefl k e = before_irrefl (map nat_abs k) e

pub earlier_trans : (k h r : List ℤ) → Earlier k h → Earlier h r → Earlier k r
earlier_trans k h r p q = before_trans (map nat_abs k) (map nat_abs h) (map nat_abs r) p q

-- never both ways
pub earlier_asym : (k h : List ℤ) → Earlier k h → Earlier h k → ⊥
earlier_asym k h p q = earlier_irrefl k (earlier_trans k h k p q)

-- a row up to another is the same or comes before it
pub under_earlier : (k h : List ℤ) → T (under k h) → (k ≡ h) ⊎ Earlier k h
unfolding Before
under_earlier [] [] t = inl refl
under_earlier [] (y ∷ h) t = absurd t
under_earlier (x ∷ k) [] t = absurd t
under_earlier (pos a ∷ k) (pos b ∷ h) t = go (compared a b) (under-turn a k b h t) (under_earlier k h (under-turn a k b h t).1)
  where
    go : (a < b) ⊎ ((a ≡ b) ⊎ (b < a)) → (a ≤ b) × T (under k h) → (k ≡ h) ⊎ Earlier k h → (pos a ∷ k ≡ pos b ∷ h) ⊎ Earlier (pos a ∷ k) (pos b ∷ h)
    go (inl l) u v = inr (inl l)
    go (inr (inl e)) u (inl p) = inl (ap (λ (c : ℕ). pos c ∷ k) e ∙ ap (λ (r : List ℤ). pos b ∷ r) p)
    go (inr (inl e)) u (inr p) = inr (inr (e, p))
    go (inr (inr l)) u v = absurd (omega (arith, u.0))
under_earlier (pos a ∷ k) (negsuc b ∷ h) t = absurd t
under_earlier (negsuc a ∷ k) (y ∷ h) t = absurd t

-- no row comes before the row of zeros
pub none_earlier : (d : ℕ) (k : List ℤ) → Earlier k (zero_row d) → ⊥
unfolding Before
none_earlier d [] e = e
none_earlier zero (x ∷ k) e = e
none_earlier (suc d) (x ∷ k) (inl l) = omega arith
none_earlier (suc d) (x ∷ k) (inr p) = none_earlier d k p.1

-- ---- a row that is not as long as another is not up to it
pub under_apart : (k c : List ℤ) → length k ≢ length c → under k c ≡ false
under_apart k c n = fails_false (under k c) (λ t. n (under-length k c t))
