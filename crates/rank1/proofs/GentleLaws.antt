-- How the gentlest vector is found: the first one below a bound in dictionary order, then the first one below its largest component, and
-- so on. The bound falls each time (`descent_falls`), the first component does not (`descent_starts`), and where nothing more is found the
-- last one is the gentlest (`descent-ends`).
use mathlib.Core.Logic.{inl, inr, ⊎_elim}
use mathlib.Core.List.{List, map}
use Prim.Native.Nat.{ℕ, suc, ◌<◌, ◌≤◌}
use native.Mathlib.Decide.{dec_le}
use native.Mathlib.Omega.{arith}
use lib.IntN.{pos}
use lib.ListN.{get_or}
use Rattle.rank1.specs.Rule.{Rule}
use Rattle.rank1.specs.Search.{Before, largest, Gentler, InRange, Gentlest}
use Rattle.rank1.specs.Below.{FirstBelow}
use Rattle.rank1.proofs.Order.{compared, before_strict, before_at}
use Rattle.rank1.proofs.GentleOrder.{ranged_largest, largest_ranged, raise_bound, no_larger, gentler_strict}
use Rattle.rank1.proofs.SearchLaws.{none_before, first-of, no_first}

module _ (rule : Rule) (d n : ℕ) where
  -- z is first below b, and no admissible vector is below its largest component: it is the gentlest
  last-gentlest :
      (b : ℕ) (z : List ℕ) → b ≤ n → FirstBelow rule d n b z → ((y : List ℕ) → InRange (largest z) d y → rule n (map pos y) → ⊥)
      → Gentlest rule d n z
  unfolding Gentler
  last-gentlest b z l f none = record {
    ranged = raise_bound b n d z l f.ranged;
    admissible = f.admissible;
    others-after = λ y r a other.
        ⊎_elim (λ m. inl m)
        (⊎_elim
        (λ e. inr (e, f.others-after y (no_larger b d y z r.size (omega arith) f.ranged) a other))
        (λ m. absurd (none y (largest_ranged (largest z) d y r.size m) a)))
        (compared (largest z) (largest y));
  }

  -- the search below its largest component found nothing
  pub descent-ends :
      (b : ℕ) (z : List ℕ) → b ≤ n → FirstBelow rule d n b z → ((y : List ℕ) → FirstBelow rule d n (largest z) y → ⊥) → Gentlest rule d n z
  descent-ends b z l f none = last-gentlest b z l f (no_first rule d n (largest z) none)

  -- the bound falls with each vector that is found
  pub descent_falls : (b : ℕ) (z : List ℕ) → 1 ≤ d → FirstBelow rule d n b z → largest z < b
  descent_falls b z l f = ranged_largest b d z (omega (arith, f.ranged.below 0 l)) f.ranged

  -- the first components do not fall: a vector below a lower bound is one below b, and none of these comes before the first
  pub descent_starts : (b c : ℕ) (z : List ℕ) → 1 ≤ d → c ≤ b → FirstBelow rule d n b z → (y : List ℕ) → FirstBelow rule d n c y → get_or z 0 0 ≤ get_or y 0 0
  descent_starts b c z l h f y g = go (dec_le (get_or z 0 0) (get_or y 0 0))
    where
      go : Dec (get_or z 0 0 ≤ get_or y 0 0) → get_or z 0 0 ≤ get_or y 0 0
      go (yes r) = r
      go (no r) =
          absurd (none_before rule d Before before_strict n b z f y (raise_bound c b d y h g.ranged) g.admissible
          (before_at 0 y z (omega (arith, g.ranged.size)) (omega (arith, f.ranged.size)) (λ i k. absurd (omega arith)) (omega arith)))

  -- the gentlest vector is itself the first below one more than its largest component: so what is passed over there may be passed over
  pub gentlest_below : (z : List ℕ) → Gentlest rule d n z → FirstBelow rule d n (suc (largest z)) z
  unfolding Gentler
  gentlest_below z f =
      first-of rule d Before before_strict n (suc (largest z)) z (largest_ranged (suc (largest z)) d z f.ranged.size (omega arith)) f.admissible
      (λ y r a m.
      let smaller : largest y ≤ largest z = omega (arith, ranged_largest (suc (largest z)) d y (omega arith) r) in
      none_before rule d Gentler gentler_strict n n z f y (no_larger n d y z r.size smaller f.ranged) a
      (⊎_elim (λ l. inl l) (⊎_elim (λ e. inr (e, m)) (λ l. absurd (omega arith))) (compared (largest y) (largest z))))
