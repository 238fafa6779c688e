-- What the searches look for is there once at most, and a search that finds no first vector has shown that no vector of
-- whole numbers, of any sign and size, is admissible. No decision is needed: an admissible vector in range with none before
-- it is first. Of the first vector it is shown for any order and any bound of its components.
use mathlib.Core.Path.{◌≡◌, refl, sym, ◌∙◌, ap, subst}
use mathlib.Core.Logic.{◌↔◌, ⊎_elim}
use mathlib.Core.List.{List, [], ◌∷◌, map}
use Prim.Native.Nat.{ℕ, ◌<◌}
use native.Mathlib.Nat.{zero-mod}
use lib.IntN.{ℤ, pos}
use lib.ListN.{length, get_or, length-map, get_or-map}
use Rattle.rank1.specs.Residue.{residue}
use Rattle.rank1.proofs.ResidueLaws.{residue-lt}
use Rattle.rank1.proofs.DotLaws.{reduced}
use Rattle.rank1.specs.Rule.{Rule}
use Rattle.rank1.proofs.RuleLaws.{Reduces}
use Rattle.rank1.specs.Search.{Order, Before, Gentler, InRange, Hopeless, First, Gentlest, Smallest, NoPlan}
use Rattle.rank1.specs.Below.{FirstBelow}
use Rattle.rank1.proofs.Order.{compared, Strict, before_strict, before_trans, along}
use Rattle.rank1.proofs.GentleOrder.{gentler_strict}

-- ---- from whole numbers to a vector in range
-- the residues as whole numbers again
reduced_pos : (n : ℕ) (z : List ℤ) → reduced n z ≡ map pos (map (residue n) z)
reduced_pos n [] = refl
reduced_pos n (x ∷ z) = ap (λ (t : List ℤ). pos (residue n x) ∷ t) (reduced_pos n z)

-- component by component
pub residue_at_lem : (n : ℕ) (z : List ℤ) (a : ℕ) → get_or (map (residue n) z) a 0 ≡ residue n (get_or z a (pos 0))
residue_at_lem n z a = ap (get_or (map (residue n) z) a) (sym (zero-mod n)) ∙ get_or-map (residue n) z a (pos 0)

-- where the residues of d components are below b, they are a vector in range
pub residues-ranged :
    (n b d : ℕ) (z : List ℤ) → length z ≡ d → ((a : ℕ) → a < d → residue n (get_or z a (pos 0)) < b) → InRange b d (map (residue n) z)
residues-ranged n b d z e h = record {
  size = length-map z (residue n) ∙ e;
  below = λ a l. subst (λ (r : ℕ). r < b) (sym (residue_at_lem n z a)) (h a l);
}

module _ (rule : Rule) (d : ℕ) where
  -- ---- the first vector below b, in any strict total order
  module _ (order : Order) (strict : Strict order) (n b : ℕ) where
    -- every other one comes after it: none comes before it
    pub none_before : (z : List ℕ) → First rule d order n b z → (y : List ℕ) → InRange b d y → rule n (map pos y) → order y z → ⊥
    none_before z f y r a l =
        strict.irrefl z (strict.trans z y z (f.others-after y r a (λ e. strict.irrefl z (subst (λ (x : List ℕ). order x z) e l))) l)

    -- an admissible vector below b with none before it is first
    pub first-of :
        (z : List ℕ) → InRange b d z → rule n (map pos z) → ((y : List ℕ) → InRange b d y → rule n (map pos y) → order y z → ⊥)
        → First rule d order n b z
    first-of z r a least = record {
      ranged = r;
      admissible = a;
      others-after = λ y r' a' other.
          ⊎_elim (λ l. absurd (least y r' a' l)) (⊎_elim (λ e. absurd (other e)) (λ l. l)) (strict.total y z (r'.size ∙ sym r.size));
    }

    -- at most one vector is first below b
    pub first_unique : (y z : List ℕ) → First rule d order n b y → First rule d order n b z → y ≡ z
    first_unique y z f g =
        ⊎_elim (λ l. absurd (none_before z g y f.ranged f.admissible l))
        (⊎_elim (λ e. e) (λ l. absurd (none_before y f z g.ranged g.admissible l)))
        (strict.total y z (f.ranged.size ∙ sym g.ranged.size))

  -- ---- in dictionary order
  module _ (n b : ℕ) where
    -- where no vector is first below b, none below b is admissible
    pub no_first : ((z : List ℕ) → FirstBelow rule d n b z → ⊥) → (z : List ℕ) → InRange b d z → rule n (map pos z) → ⊥
    no_first h z r a =
        along d (λ x. InRange b d x → rule n (map pos x) → ⊥)
        (λ x l earlier ranged good. h x (first-of Before before_strict n b x ranged good (λ y r' a' m. earlier y r'.size m r' a')))
        z r.size r a

    -- an admissible vector below b with no first one before it is first
    pub is-first :
        (x : List ℕ) → InRange b d x → rule n (map pos x) → ((y : List ℕ) → FirstBelow rule d n b y → Before y x → ⊥)
        → FirstBelow rule d n b x
    is-first x r a h = first-of Before before_strict n b x r a (λ y r' a' l. earliest y r'.size r' a' l)
      where
        earliest : (y : List ℕ) → length y ≡ d → InRange b d y → rule n (map pos y) → Before y x → ⊥
        earliest = along d (λ y. InRange b d y → rule n (map pos y) → Before y x → ⊥)
            (λ y l earlier ranged good m.
            h y (first-of Before before_strict n b y ranged good (λ w r' a' m'. earlier w r'.size m' r' a' (before_trans w y x m' m))) m)

  -- ---- a hopeless modulus
  module _ (n : ℕ) where
    -- where no vector in range is admissible, none is
    pub hopeless_ranged : Reduces rule → 0 < n → ((z : List ℕ) → InRange n d z → rule n (map pos z) → ⊥) → Hopeless rule d n
    unfolding Hopeless
    hopeless_ranged passes l h z e r =
        h (map (residue n) z) (residues-ranged n n d z e (λ a k. residue-lt n (get_or z a (pos 0)) l))
        (subst (rule n) (reduced_pos n z) (passes n z l r))

    -- at a hopeless modulus no vector is first, in whatever order and below whatever bound
    pub hopeless_first : {order : Order} {b : ℕ} → Hopeless rule d n → (z : List ℕ) → First rule d order n b z → ⊥
    unfolding Hopeless
    hopeless_first h z f = h (map pos z) (length-map z pos ∙ f.ranged.size) f.admissible

    -- a modulus is hopeless just where no vector is first below it in dictionary order
    pub hopeless : Reduces rule → 0 < n → ((z : List ℕ) → FirstBelow rule d n n z → ⊥) ↔ Hopeless rule d n
    hopeless passes l = ((λ h. hopeless_ranged passes l (no_first n n h)), hopeless_first)

  -- ---- the smallest plan
  -- a smaller modulus is hopeless, so no other has the smallest plan
  modulus_unique : (c c' n n' : ℕ) (z z' : List ℕ) → Smallest rule d c n z → Smallest rule d c' n' z' → n ≡ n'
  modulus_unique c c' n n' z z' s s' =
      ⊎_elim (λ l. absurd (hopeless_first n (s'.smaller_fail n s.low l) z s.gentlest))
      (⊎_elim (λ e. e) (λ l. absurd (hopeless_first n' (s.smaller_fail n' s'.low l) z' s'.gentlest)))
      (compared n n')

  -- at most one n, z is the smallest plan, whatever the ceiling
  pub smallest_unique : (c c' n n' : ℕ) (z z' : List ℕ) → Smallest rule d c n z → Smallest rule d c' n' z' → (n ≡ n') × (z ≡ z')
  smallest_unique c c' n n' z z' s s' =
      let e : n ≡ n' = modulus_unique c c' n n' z z' s s' in
      (e, first_unique Gentler gentler_strict n' n' z z' (subst (λ (m : ℕ). Gentlest rule d m z) e s.gentlest) s'.gentlest)

  pub smallest_plan : (c n : ℕ) (z : List ℕ) → Smallest rule d c n z → NoPlan rule d c → ⊥
  unfolding NoPlan
  smallest_plan c n z s h = hopeless_first n (h n s.low s.high) z s.gentlest

-- ---- the answer is determined
pub data Outcome : Type 0 where
  plan_of : ℕ → List ℕ → Outcome
  none : Outcome

abbrev pub OutcomeIs : Rule → ℕ → ℕ → Outcome → Type 0
OutcomeIs rule d ceiling (plan_of n z) = Smallest rule d ceiling n z
OutcomeIs rule d ceiling none = NoPlan rule d ceiling

pub determined : (rule : Rule) (d ceiling : ℕ) (a b : Outcome) → OutcomeIs rule d ceiling a → OutcomeIs rule d ceiling b → a ≡ b
determined rule d c (plan_of n z) (plan_of n' z') p q =
    let e = smallest_unique rule d c c n n' z z' p q in
    ap (λ (m : ℕ). plan_of m z) e.0 ∙ ap (λ (y : List ℕ). plan_of n' y) e.1
determined rule d c (plan_of n z) none p q = absurd (smallest_plan rule d c n z p q)
determined rule d c none (plan_of n z) p q = absurd (smallest_plan rule d c n z q p)
determined rule d c none none p q = refl
