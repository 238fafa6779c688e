-- What tests say as equations: two tests joined, and a number from a low to a high one.
use mathlib.Core.Path.{◌≡◌, refl, sym, ◌∙◌, ap}
use mathlib.Core.Bool.{Bool, true≢false, true, false, ◌&&◌}
use Prim.Native.Nat.{ℕ, ◌≤◌, ◌<◌}
use borrow.Author.Tests.{leb-true, le-leb, lt-leb}
use lib.Dec.{leb}
use Rattle.std.proofs.lemmas.Bool.{and_left}
use Rattle.rank1.specs.Refusal.{within}

pub and_true : (a b : Bool) → a ≡ true → (a && b) ≡ b
and_true a b e = ap (λ (t : Bool). t && b) e

-- both are true
pub both_true : (a b : Bool) → (a && b) ≡ true → (a ≡ true) × (b ≡ true)
both_true true b h = (refl, h)
both_true false b h = absurd (true≢false (sym h))

-- a number from low to high
pub within_of : (low high x : ℕ) → within low high x ≡ true → (low ≤ x) × (x ≤ high)
within_of low high x e =
    let p = both_true (leb low x) (leb x high) e in
    (leb-true low x p.0, leb-true x high p.1)

pub within_is : (low high x : ℕ) → low ≤ x → x ≤ high → within low high x ≡ true
within_is low high x l h = and_true (leb low x) (leb x high) (le-leb low x l) ∙ le-leb x high h

pub not_within-below : (low high x : ℕ) → x < low → within low high x ≡ false
not_within-below low high x l = and_left (leb low x) (leb x high) (lt-leb low x l)

pub not_within-above : (low high x : ℕ) → low ≤ x → high < x → within low high x ≡ false
not_within-above low high x l h = and_true (leb low x) (leb x high) (le-leb low x l) ∙ lt-leb x high h
