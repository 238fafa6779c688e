-- Which of two vectors wins: in the words of the request, case by case; and as a program finds it, where two numbers are compared, and
-- if they are equal it goes on with something else.
use mathlib.Core.Path.{◌≡◌, sym, ap, subst, ◌∙◌}
use mathlib.Core.Logic.{◌⊎◌, ◌≢◌, inl, inr, ⊎_elim}
use mathlib.Core.Bool.{Bool, not}
use mathlib.Core.List.{List, map}
use Prim.Native.Nat.{ℕ, ◌<◌}
use native.Mathlib.Omega.{arith}
use borrow.Author.Tests.{ltb-true, ltb-false, not-true, not-false}
use lib.Dec.{ltb}
use lib.IntN.{pos}
use lib.ListN.{length}
use Rattle.rank1.specs.Tests.{Decides}
use Rattle.rank1.specs.Rule.{Rule}
use Rattle.rank1.specs.Search.{Gentler, InRange, Gentlest}
use Rattle.rank1.specs.Winner.{LeftWins}
use Rattle.rank1.proofs.Order.{compared}
use Rattle.rank1.proofs.GentleOrder.{gentler_strict}
use Rattle.rank1.proofs.SearchLaws.{none_before}

-- ---- case by case
module _ (y z : List ℕ) where
  -- the shorter wins
  pub shorter_wins : length y < length z → LeftWins y z
  unfolding LeftWins
  shorter_wins l = inl l

  pub longer_loses : length z < length y → LeftWins y z → ⊥
  unfolding LeftWins
  longer_loses l w = ⊎_elim (λ m. omega arith) (λ p. omega (arith, p.0)) w

  -- at one length the gentler
  pub gentler_wins : length y ≡ length z → Gentler y z → LeftWins y z
  unfolding LeftWins
  gentler_wins e g = inr (e, (λ h. gentler_strict.irrefl y (gentler_strict.trans y z y g h)))

  pub rougher_loses : length y ≡ length z → Gentler z y → LeftWins y z → ⊥
  unfolding LeftWins
  rougher_loses e g w = ⊎_elim (λ l. omega arith) (λ p. p.1 g) w

  -- the left one on a full tie
  pub equal_wins : y ≡ z → LeftWins y z
  unfolding LeftWins
  equal_wins e = inr (ap length e, (λ g. gentler_strict.irrefl z (subst (Gentler z) e g)))

  -- so one of the two wins
  pub one_wins : LeftWins y z ⊎ (LeftWins y z → ⊥)
  one_wins =
      ⊎_elim (λ l. inl (shorter_wins l))
      (⊎_elim
      (λ e. ⊎_elim (λ g. inl (gentler_wins e g)) (⊎_elim (λ q. inl (equal_wins q)) (λ g. inr (rougher_loses e g))) (gentler_strict.total y z e))
      (λ l. inr (longer_loses l)))
      (compared (length y) (length z))

-- the gentlest vector wins against every other admissible one
pub gentlest_wins : (rule : Rule) (d n : ℕ) (z : List ℕ) → Gentlest rule d n z → (y : List ℕ) → InRange n d y → rule n (map pos y) → LeftWins z y
unfolding LeftWins
gentlest_wins rule d n z f y r a = inr (f.ranged.size ∙ sym r.size, none_before rule d Gentler gentler_strict n n z f y r a)

-- ---- as a program finds it
-- a is smaller than b, or they are equal and P holds
module _ (a b : ℕ) {P : Type 0} where
  -- it goes by the numbers
  by_numbers : a ≢ b → Decides (ltb a b) ((a < b) ⊎ ((a ≡ b) × P))
  by_numbers other = record {
    yes = λ e. inl (ltb-true a b e);
    no = λ e h. ⊎_elim (λ l. omega (arith, ltb-false a b e)) (λ p. other p.0) h;
  }

  -- or by P
  by_tie : a ≡ b → (r : Bool) → Decides r P → Decides r ((a < b) ⊎ ((a ≡ b) × P))
  by_tie same r d = record {
    yes = λ e. inr (same, d.yes e);
    no = λ e h. ⊎_elim (λ l. omega arith) (λ p. d.no e p.1) h;
  }

-- a test turned round
turned : (r : Bool) {P : Type 0} → Decides r P → Decides (not r) (P → ⊥)
turned r d = record { yes = λ e. d.no (not-true r e); no = λ e h. h (d.yes (not-false r e)) }

module _ (y z : List ℕ) where
  -- the winner
  pub by_length : length y ≢ length z → Decides (ltb (length y) (length z)) (LeftWins y z)
  unfolding LeftWins
  by_length = by_numbers (length y) (length z)

  pub by_order : length y ≡ length z → (r : Bool) → Decides r (Gentler z y) → Decides (not r) (LeftWins y z)
  unfolding LeftWins
  by_order e r d = by_tie (length y) (length z) e (not r) (turned r d)
