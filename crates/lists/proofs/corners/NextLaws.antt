-- The next row: of the rows got from k by raising one component and zeroing those behind it, the one at the last component
-- where this is up to some corner. Every row after k has one of them below it.
use mathlib.Core.Path.{◌≡◌, refl, sym, ◌∙◌, ap, subst}
use mathlib.Core.Logic.{◌⊎◌, inl, inr, ⊎_elim}
use mathlib.Core.List.{List, [], ◌∷◌, Memᴰ}
use Prim.Native.Nat.{ℕ, zero, suc, ◌+◌, ◌-◌, ◌≤◌, ◌<◌}
use native.Mathlib.Omega.{arith}
use lib.Dec.{T}
use lib.IntN.{ℤ, pos, negsuc}
use lib.ListN.{length, get_or, set, replicate, length-replicate}
use Rattle.rank1.specs.Index.{zero_row}
use Rattle.rank1.specs.Search.{Before}
use Rattle.rank1.specs.Valid.{Nonnegative}
use Rattle.rank1.proofs.TestLaws.{both, some_of}
use Rattle.rank1.proofs.Order.{compared}
use Rattle.rank1.specs.Corners.{from_zero, under, under_some, Earlier}
use Rattle.lists.specs.Inner.{up, NextRow, LastRow}
use Rattle.rank1.proofs.UnderLaws.{turn-under, under_trans, under_zero, under-length, under-unsigned, under_earlier, some_under, earlier_trans}

-- k with component j raised, and zeros behind it
abbrev pub raised : ℕ → List ℤ → List ℤ
raised j [] = []
raised zero (x ∷ k) = up x ∷ zero_row (length k)
raised (suc j) (x ∷ k) = x ∷ raised j k

-- k with zeros from component j on
abbrev pub cleared : ℕ → List ℤ → List ℤ
cleared j [] = []
cleared zero (x ∷ k) = pos 0 ∷ cleared zero k
cleared (suc j) (x ∷ k) = x ∷ cleared j k

-- ---- from one to the other by one store
pub cleared_none : (k : List ℤ) → cleared (length k) k ≡ k
cleared_none [] = refl
cleared_none (x ∷ k) = ap (λ (r : List ℤ). x ∷ r) (cleared_none k)

cleared_all : (k : List ℤ) → cleared 0 k ≡ zero_row (length k)
cleared_all [] = refl
cleared_all (x ∷ k) = ap (λ (r : List ℤ). pos 0 ∷ r) (cleared_all k)

-- component j stands yet where those behind it are zeros
pub cleared_at : (j : ℕ) (k : List ℤ) → j < length k → get_or (cleared (suc j) k) j (pos 0) ≡ get_or k j (pos 0)
cleared_at j [] l = absurd (omega arith)
cleared_at zero (x ∷ k) l = refl
cleared_at (suc j) (x ∷ k) l = cleared_at j k (omega arith)

-- raising it
pub raise_at : (j : ℕ) (k : List ℤ) → j < length k → set (cleared (suc j) k) j (up (get_or k j (pos 0))) ≡ raised j k
raise_at j [] l = absurd (omega arith)
raise_at zero (x ∷ k) l = ap (λ (r : List ℤ). up x ∷ r) (cleared_all k)
raise_at (suc j) (x ∷ k) l = ap (λ (r : List ℤ). x ∷ r) (raise_at j k (omega arith))

-- the same where zeros stand from j on: what stands before them, and raising it
module _ (row k : List ℤ) (j : ℕ) (some : 0 < j) (l : j ≤ length k) (e : row ≡ cleared j k) where
  behind : row ≡ cleared (suc (j - 1)) k
  behind = let f : j ≡ suc (j - 1) = omega arith in e ∙ ap (λ (i : ℕ). cleared i k) f

  pub before-zeros : get_or row (j - 1) (pos 0) ≡ get_or k (j - 1) (pos 0)
  before-zeros = ap (λ (r : List ℤ). get_or r (j - 1) (pos 0)) behind ∙ cleared_at (j - 1) k (omega arith)

  pub raise_turn : set row (j - 1) (up (get_or row (j - 1) (pos 0))) ≡ raised (j - 1) k
  raise_turn =
      ap (λ (x : ℤ). set row (j - 1) (up x)) before-zeros
      ∙ ap (λ (r : List ℤ). set r (j - 1) (up (get_or k (j - 1) (pos 0)))) behind
      ∙ raise_at (j - 1) k (omega arith)

-- zeroing it
pub clear_at : (j : ℕ) (k : List ℤ) → j < length k → set (raised j k) j (pos 0) ≡ cleared j k
clear_at j [] l = absurd (omega arith)
clear_at zero (x ∷ k) l = ap (λ (r : List ℤ). pos 0 ∷ r) (sym (cleared_all k))
clear_at (suc j) (x ∷ k) l = ap (λ (r : List ℤ). x ∷ r) (clear_at j k (omega arith))

pub raised-length : (j : ℕ) (k : List ℤ) → length (raised j k) ≡ length k
raised-length j [] = refl
raised-length zero (x ∷ k) = ap suc (length-replicate (length k) (pos 0))
raised-length (suc j) (x ∷ k) = ap suc (raised-length j k)

-- ---- the order of the raised rows: after k, and the sooner the later the component
pub raised-later : (j : ℕ) (k : List ℤ) → Nonnegative k → j < length k → Earlier k (raised j k)
unfolding Before
raised-later j [] n l = absurd (omega arith)
raised-later zero (pos a ∷ k) n l = inl (omega arith)
raised-later (suc j) (pos a ∷ k) n l = inr (refl, raised-later j k n (omega arith))
raised-later zero (negsuc a ∷ k) n l = absurd n
raised-later (suc j) (negsuc a ∷ k) n l = absurd n

raised_order : (i j : ℕ) (k : List ℤ) → Nonnegative k → i < j → j < length k → Earlier (raised j k) (raised i k)
unfolding Before
raised_order i j [] n h l = absurd (omega arith)
raised_order i zero (x ∷ k) n h l = absurd (omega arith)
raised_order zero (suc j) (pos a ∷ k) n h l = inl (omega arith)
raised_order zero (suc j) (negsuc a ∷ k) n h l = absurd n
raised_order (suc i) (suc j) (pos a ∷ k) n h l = inr (refl, raised_order i j k n (omega arith) (omega arith))
raised_order (suc i) (suc j) (negsuc a ∷ k) n h l = absurd n

-- ---- a row after k has a raised row up to it
record Raise (k h : List ℤ) : Type 0 where
  index : ℕ
  inside : index < length k
  below : T (under (raised index k) h)

raise_under : (k h : List ℤ) → Nonnegative k → Nonnegative h → length k ≡ length h → Earlier k h → Raise k h
unfolding Before
raise_under [] h n o e b = absurd b
raise_under (x ∷ k) [] n o e b = absurd b
raise_under (pos a ∷ k) (pos b ∷ h) n o e (inl l) = record {
  index = 0;
  inside = omega arith;
  below = subst (λ (m : ℕ). T (under (pos (a + 1) ∷ zero_row m) (pos b ∷ h))) (let f : length h ≡ length k = omega arith in f) (turn-under (a + 1) (zero_row (length h)) b h (omega arith) (under_zero h o));
}
raise_under (pos a ∷ k) (pos b ∷ h) n o e (inr p) =
    let r = raise_under k h n o (omega arith) p.1 in
    record { index = suc r.index; inside = omega (arith, r.inside); below = turn-under a (raised r.index k) b h (omega (arith, p.0)) r.below }
raise_under (pos a ∷ k) (negsuc b ∷ h) n o e q = absurd o
raise_under (negsuc a ∷ k) (y ∷ h) n o e q = absurd n

-- ---- a row up to d times 255 has components from 0 to 255
pub component_small : (k : List ℤ) (d j : ℕ) → T (under k (replicate d (pos 255))) → j < length k → T (from_zero (get_or k j (pos 0)) (pos 255))
component_small [] d j t l = absurd (omega arith)
component_small (x ∷ k) zero j t l = absurd t
component_small (x ∷ k) (suc d) zero t l = (both (from_zero x (pos 255)) (under k (replicate d (pos 255))) t).0
component_small (x ∷ k) (suc d) (suc j) t l = component_small k d j (both (from_zero x (pos 255)) (under k (replicate d (pos 255))) t).1 (omega arith)

-- so has a row up to some of such corners
pub some_small : (cs : List (List ℤ)) (d : ℕ) → ((c : List ℤ) → Memᴰ c cs → T (under c (replicate d (pos 255)))) → (k : List ℤ) → T (under_some cs k) → T (under k (replicate d (pos 255)))
some_small cs d small k t = let s = some_of (under k) cs t in under_trans k s.found (replicate d (pos 255)) s.passes (small s.found s.listed)

-- ---- the next row
module _ (cs : List (List ℤ)) (k : List ℤ) (unsigned : Nonnegative k) (sizes : (c : List ℤ) → Memᴰ c cs → length c ≡ length k) where
  -- a row after k that is up to some corner has a raised row up to it, which is up to some corner too
  raise_of : (h : List ℤ) → T (under_some cs h) → Earlier k h → Raise k h
  raise_of h t e =
      let s = some_of (under h) cs t in
      raise_under k h unsigned (under-unsigned h s.found s.passes) (sym (under-length h s.found s.passes ∙ sizes s.found s.listed)) e

  -- no raised row is up to some corner: k is the last
  pub last_is : ((i : ℕ) → i < length k → T (under_some cs (raised i k)) → ⊥) → LastRow cs k
  last_is none h t e = let r = raise_of h t e in none r.index r.inside (some_under cs (raised r.index k) h r.below t)

  -- the raised row at j is, and at no later component
  pub next_is : (j : ℕ) → j < length k → T (under_some cs (raised j k)) → ((i : ℕ) → j < i → i < length k → T (under_some cs (raised i k)) → ⊥) → NextRow cs k (raised j k)
  next_is j l t none = record { within = t; later = raised-later j k unsigned l; first = λ h u e. reach h u (raise_of h u e) }
    where
      reach : (h : List ℤ) → T (under_some cs h) → Raise k h → (raised j k ≡ h) ⊎ Earlier (raised j k) h
      reach h u r = ⊎_elim sooner (⊎_elim same later) (compared r.index j)
        where
          from_zero : (raised r.index k ≡ h) ⊎ Earlier (raised r.index k) h
          from_zero = under_earlier (raised r.index k) h r.below

          sooner : r.index < j → (raised j k ≡ h) ⊎ Earlier (raised j k) h
          sooner i =
              let o = raised_order r.index j k unsigned i l in
              inr (⊎_elim (λ e. subst (Earlier (raised j k)) e o) (λ b. earlier_trans (raised j k) (raised r.index k) h o b) from_zero)

          same : r.index ≡ j → (raised j k ≡ h) ⊎ Earlier (raised j k) h
          same e = subst (λ (i : ℕ). (raised i k ≡ h) ⊎ Earlier (raised i k) h) e from_zero

          later : j < r.index → (raised j k ≡ h) ⊎ Earlier (raised j k) h
          later i = absurd (none r.index i r.inside (some_under cs (raised r.index k) h r.below u))
