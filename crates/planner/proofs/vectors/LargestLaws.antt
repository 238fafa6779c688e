-- The largest component of a vector is what `max` picks of its components, `<` of two vectors is dictionary order, and with their largest
-- components in front it is the order of gentler settings.
use Rattle.std.proofs.Common.{◌≡◌, ◌≢◌, refl, sym, ◌∙◌, List, [], ◌∷◌, length, ℕ, ◌<◌, ◌≤◌, max, arith, subst, Bool, true, false, cond, eqb, ltb, Some, inl, inr, ltb-true, ltb-false}
use mathlib.Core.Bool.{true≢false}
use mathlib.Core.Logic.{◌⊎◌, ⊎_elim}
use borrow.Author.Tests.{eq-eqb, ne_eqb}
use Rattle.std.specs.Ordering.{nat_cmp, is_lt, is_some_and}
use Rattle.std.specs.Cmp.Lexicographic.{slice_partial_cmp}
use Rattle.std.proofs.lemmas.Bool.Decides.{nat_tests}
use Rattle.std.proofs.lemmas.Cmp.{same_from_slice_cmp_tested}
use Rattle.std.specs.List.{fold, reduce}
use Rattle.std.specs.Option.{unwrap_or}
use Rattle.rank1.specs.Tests.{Decides}
use Rattle.rank1.specs.Search.{largest, Before, Gentler}
use Rattle.rank1.proofs.Order.{compared, before_irrefl}

-- with a first one a
fold_largest : (a : ℕ) (z : List ℕ) → fold max a z ≡ max a (largest z)
fold_largest a [] = omega arith
fold_largest a (b ∷ z) = fold_largest (max a b) z ∙ omega arith

pub largest_is : (z : List ℕ) → unwrap_or (reduce max z) 0 ≡ largest z
largest_is [] = refl
largest_is (a ∷ z) = fold_largest a z

-- the test of dictionary order
abbrev pub comes_before : List ℕ → List ℕ → Bool
comes_before [] [] = false
comes_before [] (b ∷ z) = true
comes_before (a ∷ y) [] = false
comes_before (a ∷ y) (b ∷ z) = cond (eqb a b) (comes_before y z) (ltb a b)

pub decides_before : (y z : List ℕ) → length y ≡ length z → Decides (comes_before y z) (Before y z)
unfolding Before
decides_before [] [] e = record { yes = λ t. absurd (true≢false (sym t)); no = λ _ b. b }
decides_before [] (b ∷ z) e = absurd (omega arith)
decides_before (a ∷ y) [] e = absurd (omega arith)
decides_before (a ∷ y) (b ∷ z) e =
    ⊎_elim
    (λ l. first (omega arith))
    (⊎_elim (λ same. tied same (decides_before y z (omega arith))) (λ l. first (omega arith)))
    (compared a b)
  where
    first : a ≢ b → Decides (comes_before (a ∷ y) (b ∷ z)) (Before (a ∷ y) (b ∷ z))
    first other = rw (ne_eqb a b other) (record {
      yes = λ t. inl (ltb-true a b t);
      no = λ f. ⊎_elim (λ l. omega (arith, ltb-false a b f)) (λ p. other p.0);
    })

    tied : a ≡ b → Decides (comes_before y z) (Before y z) → Decides (comes_before (a ∷ y) (b ∷ z)) (Before (a ∷ y) (b ∷ z))
    tied same rest =
        rw (eq-eqb a b same) (record { yes = λ t. inr (same, rest.yes t); no = λ f. ⊎_elim (λ l. omega arith) (λ p. rest.no f p.1) })

-- the vectors with their largest components in front
pub decides_gentler : (y z : List ℕ) (a b : ℕ) → length y ≡ length z → a ≡ largest y → b ≡ largest z → Decides (comes_before (a ∷ y) (b ∷ z)) (Gentler y z)
unfolding Gentler Before
decides_gentler y z a b e f g =
    subst (λ (m : ℕ). Decides (comes_before (a ∷ y) (b ∷ z)) ((m < largest z) ⊎ ((m ≡ largest z) × Before y z))) f
    (subst (λ (m : ℕ). Decides (comes_before (a ∷ y) (b ∷ z)) ((a < m) ⊎ ((a ≡ m) × Before y z))) g (decides_before (a ∷ y) (b ∷ z) (omega arith)))

-- what `<` of two vectors answers
pub less_is : (y z : List ℕ) (r : Bool) → r ≡ is_some_and is_lt (slice_partial_cmp (λ a b. Some (nat_cmp a b)) y z) → r ≡ comes_before y z
less_is = same_from_slice_cmp_tested nat_cmp is_lt comes_before refl (λ _ _. refl) (λ _ _. refl) (λ a b y z o h. grind (arith, nat_tests))

-- ---- two vectors of one length, component by component
-- what is left of two vectors, us and vs, comes in the order of the whole ones, y and z
pub record SameOrder (y z us vs : List ℕ) : Type 0 where
  pub size : length us ≡ length vs
  pub decides : (r : Bool) → Decides r (Before us vs) → Decides r (Before y z)

pub whole_order : (y z us vs : List ℕ) → us ≡ y → vs ≡ z → length y ≡ length z → SameOrder y z us vs
whole_order y z us vs e f same =
    subst (λ (t : List ℕ). SameOrder y z t vs) (sym e) (subst (λ (t : List ℕ). SameOrder y z y t) (sym f) (record { size = same; decides = λ r d. d }))

module _ (y z left right : List ℕ) (a b : ℕ) (us vs : List ℕ) (e : left ≡ a ∷ us) (f : right ≡ b ∷ vs) (order : SameOrder y z left right) where
  front : SameOrder y z (a ∷ us) (b ∷ vs)
  front = subst (λ (t : List ℕ). SameOrder y z (a ∷ us) t) f (subst (λ (t : List ℕ). SameOrder y z t right) e order)

  pub less_decides : a < b → Decides true (Before y z)
  unfolding Before
  less_decides l = front.decides true (record { yes = λ _. inl l; no = λ t. absurd (true≢false t) })

  pub more_decides : b < a → Decides false (Before y z)
  unfolding Before
  more_decides l =
      front.decides false (record { yes = λ t. absurd (true≢false (sym t)); no = λ _ h. ⊎_elim (λ m. omega arith) (λ p. omega (arith, p.0)) h })

  pub same_passed : (b ≤ a) → (a ≤ b) → SameOrder y z us vs
  unfolding Before
  same_passed h g = record {
    size = omega (arith, front.size);
    decides = λ r d. front.decides r (record { yes = λ t. inr (omega arith, d.yes t); no = λ t. ⊎_elim (λ m. omega arith) (λ p. d.no t p.1) });
  }

pub ended : (y z us vs : List ℕ) → us ≡ [] → SameOrder y z us vs → Decides false (Before y z)
ended y z us vs e order =
    order.decides false (record { yes = λ t. absurd (true≢false (sym t)); no = λ _ b. before_irrefl vs (subst (λ (t : List ℕ). Before t vs) (nothing vs (subst (λ (t : List ℕ). length t ≡ length vs) e order.size)) (subst (λ (t : List ℕ). Before t vs) e b)) })
  where
    nothing : (ws : List ℕ) → length {A = ℕ} [] ≡ length ws → [] ≡ ws
    nothing [] h = refl
    nothing (w ∷ ws) h = absurd (omega arith)

-- the largest components decide where they differ, else dictionary order
pub by_largest : (y z : List ℕ) (a b : ℕ) → length y ≡ length z → a ≡ largest y → b ≡ largest z → a ≢ b → Decides (ltb a b) (Gentler y z)
by_largest y z a b e f g other =
    subst (λ (t : Bool). Decides (cond t (comes_before y z) (ltb a b)) (Gentler y z)) (ne_eqb a b other) (decides_gentler y z a b e f g)

pub by_dictionary : (y z : List ℕ) (a b : ℕ) → a ≡ largest y → b ≡ largest z → a ≡ b → (r : Bool) → Decides r (Before y z) → Decides r (Gentler y z)
unfolding Gentler
by_dictionary y z a b f g same r d = record { yes = λ t. inr (sym f ∙ same ∙ g, d.yes t); no = λ t. ⊎_elim (λ l. omega arith) (λ p. d.no t p.1) }
