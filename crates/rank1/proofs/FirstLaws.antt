-- What the first admissible vector in dictionary order looks like: its first component that is not 0 divides n. For a v that does not
-- divide n is taken below itself by a multiplier that has an inverse, and that multiple of the vector would be admissible and come
-- before. The multiple may have larger components, so this is said of all n values alone, not of a lower bound (`Trials`, scaling_fails).
use mathlib.Core.Path.{◌≡◌, sym, ◌∙◌, ap}
use mathlib.Core.Logic.{◌≢◌, ◌⊎◌, inl, inr}
use mathlib.Core.List.{List}
use Prim.Native.Nat.{ℕ, ◌*◌, ◌%◌, ◌<◌, ◌≤◌}
use native.Mathlib.Nat.{mul-zero, zero-mod}
use native.Mathlib.Decide.{ℕ_discrete}
use native.Mathlib.Omega.{arith}
use lib.ListN.{length, get_or, length-map, get_or-map}
use Rattle.rank1.specs.Rule.{Rule}
use Rattle.rank1.specs.Search.{Before}
use Rattle.rank1.specs.Below.{FirstBelow}
use Rattle.rank1.proofs.Order.{before_strict, before_at}
use Rattle.rank1.proofs.SearchLaws.{none_before}
use Rattle.rank1.proofs.Coprime.{Coprime, Lowered, lower}
use Rattle.rank1.proofs.VectorLaws.{times, times_ranged, Scales}

-- the components before j are 0
abbrev pub Leading : List ℕ → ℕ → Type 0
Leading z j = (i : ℕ) → i < j → get_or z i 0 ≡ 0

-- a multiple that is lower at the first component that is not 0 comes before
times-before : (n u : ℕ) (z : List ℕ) (j : ℕ) → j < length z → Leading z j → (u * get_or z j 0) % n < get_or z j 0 → Before (times n u z) z
times-before n u z j h o l =
    before_at j (times n u z) z (omega (arith, length-map z (λ (x : ℕ). (u * x) % n))) h
    (λ i k. at i ∙ ap (λ (x : ℕ). (u * x) % n) (o i k) ∙ nil ∙ sym (o i k)) (omega (arith, at j))
  where
    nil : (u * 0) % n ≡ 0
    nil = ap (λ (k : ℕ). k % n) (mul-zero u) ∙ zero-mod n

    -- its components are the multiples
    at : (i : ℕ) → get_or (times n u z) i 0 ≡ (u * get_or z i 0) % n
    at i = ap (get_or (times n u z) i) (sym nil) ∙ get_or-map (λ (x : ℕ). (u * x) % n) z i 0

module _ (rule : Rule) (scales : Scales rule) (d n : ℕ) (z : List ℕ) (h : 0 < n) (f : FirstBelow rule d n n z) (j : ℕ) (within : j < d) (o : Leading z j) where
  -- no multiple of the first vector by a number with an inverse comes before it
  no_lower : (u : ℕ) → Coprime u n → (u * get_or z j 0) % n < get_or z j 0 → ⊥
  no_lower u c l =
      none_before rule d Before before_strict n n z f (times n u z) (times_ranged n d u z h f.ranged.size)
      (scales n u z h c f.admissible)
      (times-before n u z j (omega (arith, f.ranged.size)) o l)

  -- after leading zeros comes 0 or a divisor of n
  pub first_divides : (get_or z j 0 ≡ 0) ⊎ (n % get_or z j 0 ≡ 0)
  first_divides = elim (ℕ_discrete (get_or z j 0) 0) [
    | yes e ↦ inl e
    | no e ↦ inr (second e (ℕ_discrete (n % get_or z j 0) 0))
  ]
    where
      second : get_or z j 0 ≢ 0 → Dec (n % get_or z j 0 ≡ 0) → n % get_or z j 0 ≡ 0
      second e (yes i) = i
      second e (no i) = absurd (contra (lower n (get_or z j 0) (omega arith) (f.ranged.below j within) i))
        where
          contra : Lowered n (get_or z j 0) → ⊥
          contra w = no_lower w.times w.apart w.less

-- in short: the first component is 0 or divides n
pub first_component : (rule : Rule) → Scales rule → (d n : ℕ) (z : List ℕ) → 0 < n → 1 ≤ d → FirstBelow rule d n n z → (get_or z 0 0 ≡ 0) ⊎ (n % get_or z 0 0 ≡ 0)
first_component rule scales d n z h l f = first_divides rule scales d n z h f 0 l (λ i k. absurd (omega arith))
