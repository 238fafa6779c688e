-- Tests that antt computes for what the searches look for: a hopeless modulus, the first vector at a modulus in an order, the
-- smallest plan, and that there is none. Each tries every vector in range, and where it holds, the definition does, for all inputs.
-- Only the trial tickets rest on these.
use mathlib.Core.Path.{◌≡◌, refl, subst}
use mathlib.Core.Logic.{◌↔◌, ◌⊎◌, ⊎_elim}
use mathlib.Core.Bool.{Bool, true, false, not, ◌&&◌, ◌||◌}
use mathlib.Core.List.{List, [], ◌∷◌, map, Memᴰ}
use Prim.Native.Nat.{ℕ, zero, suc, ◌+◌, ◌<◌, ◌≤◌}
use native.Mathlib.Omega.{arith}
use lib.Dec.{T, eqb, ltb, leb, eqb→eq, eqb_refl, lt→ltb, leb→le, T_not}
use lib.IntN.{ℤ, pos}
use Rattle.rank1.specs.Tests.{every, up_from, up_to}
use Rattle.rank1.specs.Index.{headed}
use Rattle.rank1.specs.Rule.{Rule, Admissible}
use Rattle.rank1.specs.RuleTest.{admissible}
use Rattle.rank1.specs.Search.{Order, Before, largest, Gentler, InRange, Hopeless, First, Smallest, NoPlan}
use Rattle.rank1.specs.Refusal.{bad_vector}
use Rattle.rank1.proofs.Order.{compared, Strict, before_strict}
use Rattle.rank1.proofs.GentleOrder.{gentler_strict}
use Rattle.rank1.proofs.Headed.{headed_in}
use Rattle.rank1.proofs.RuleLaws.{Reduces, plan_reduces}
use Rattle.rank1.proofs.SearchLaws.{first-of, hopeless_ranged}
use Rattle.rank1.proofs.TestLaws.{both, joined, decides_not, every_at}
use Rattle.rank1.proofs.RuleTestLaws.{decides_rule}
use Rattle.rank1.proofs.ValidLaws.{valid_vector}

-- ---- all vectors in range
counted_in : (i k a : ℕ) → i ≤ a → a < i + k → Memᴰ a (up_from i k)
counted_in i zero a l h = absurd (omega arith)
counted_in i (suc k) a l h =
    ⊎_elim (λ m. Memᴰ.tail (counted_in (suc i) k a (omega arith) (omega arith)))
    (⊎_elim (λ e. Memᴰ.head (omega arith)) (λ m. absurd (omega arith)))
    (compared i a)

pub up_to_in : (n a : ℕ) → a < n → Memᴰ a (up_to n)
up_to_in n a l = counted_in 0 n a (omega arith) (omega arith)

abbrev pub vectors : ℕ → ℕ → List (List ℕ)
vectors n zero = [] ∷ []
vectors n (suc d) = headed (up_to n) (vectors n d)

pub vectors_in : (n d : ℕ) (z : List ℕ) → InRange n d z → Memᴰ z (vectors n d)
vectors_in n zero [] r = Memᴰ.head refl
vectors_in n zero (a ∷ z) r = absurd (omega (arith, r.size))
vectors_in n (suc d) [] r = absurd (omega (arith, r.size))
vectors_in n (suc d) (a ∷ z) r =
    headed_in (up_to n) (vectors n d) a z (up_to_in n a (r.below 0 (omega arith)))
    (vectors_in n d z (record { size = omega (arith, r.size); below = λ j l. r.below (suc j) (omega arith) }))

-- ---- the orders
-- a is smaller than b, or they are equal and the rest says so
abbrev smaller_or : ℕ → ℕ → Bool → Bool
smaller_or a b rest = ltb a b || (eqb a b && rest)

abbrev precedes : List ℕ → List ℕ → Bool
precedes [] z = false
precedes (a ∷ y) [] = false
precedes (a ∷ y) (b ∷ z) = smaller_or a b (precedes y z)

left_holds : (a b : Bool) → T a → T (a || b)
left_holds true b t = tt
left_holds false b t = absurd t

right_holds : (a b : Bool) → T b → T (a || b)
right_holds true b t = tt
right_holds false b t = t

smaller_or_lem : (a c : ℕ) (rest : Bool) {P : Type 0} → (P → T rest) → (a < c) ⊎ ((a ≡ c) × P) → T (smaller_or a c rest)
smaller_or_lem a c rest holds h =
    ⊎_elim
    (λ l. left_holds (ltb a c) (eqb a c && rest) (lt→ltb a c l))
    (λ p. right_holds (ltb a c) (eqb a c && rest) (joined (eqb a c) rest (subst (λ (x : ℕ). T (eqb a x)) p.0 (eqb_refl a)) (holds p.1)))
    h

pub before-precedes : (y z : List ℕ) → Before y z → T (precedes y z)
unfolding Before
before-precedes [] z b = b
before-precedes (a ∷ y) [] b = b
before-precedes (a ∷ y) (c ∷ z) b = smaller_or_lem a c (precedes y z) (before-precedes y z) b

-- an order with a test that holds wherever the order does
pub record Ordered (order : Order) : Type 0 where
  pub strict : Strict order
  pub test : List ℕ → List ℕ → Bool
  pub holds : (y z : List ℕ) → order y z → T (test y z)

abbrev pub dictionary : Ordered Before
dictionary = record { strict = before_strict; test = precedes; holds = before-precedes }

pub gentler_holds : (y z : List ℕ) → Gentler y z → T (smaller_or (largest y) (largest z) (precedes y z))
unfolding Gentler
gentler_holds y z g = smaller_or_lem (largest y) (largest z) (precedes y z) (before-precedes y z) g

abbrev pub gentle : Ordered Gentler
gentle = record { strict = gentler_strict; test = λ y z. smaller_or (largest y) (largest z) (precedes y z); holds = gentler_holds }

-- ---- a rule with a test that decides it
pub record Tested (rule : Rule) : Type 0 where
  pub reduces : Reduces rule
  pub test : ℕ → List ℕ → Bool
  pub decides : (n : ℕ) (z : List ℕ) → T (test n z) ↔ rule n (map pos z)

-- the rules of the five plans
abbrev pub plan_tested : (plan : ℕ) (ks : List (List ℤ)) → Tested (Admissible plan ks)
plan_tested plan ks = record {
  reduces = plan_reduces plan ks;
  test = λ n z. admissible plan ks n (map pos z);
  decides = λ n z. decides_rule ks n (map pos z) plan;
}

-- ---- the searches
module _ {rule : Rule} (tested : Tested rule) (d : ℕ) where
  abbrev passes : ℕ → List ℕ → Bool
  passes = tested.test

  -- no vector in range passes
  abbrev pub hopeless_test : ℕ → Bool
  hopeless_test n = every (λ y. not (passes n y)) (vectors n d)

  pub hopeless_holds : (n : ℕ) → 0 < n → T (hopeless_test n) → Hopeless rule d n
  hopeless_holds n l t =
      hopeless_ranged rule d n tested.reduces l
      (λ y r. (decides_not (passes n y) (tested.decides n y)).0 (every_at (λ x. not (passes n x)) (vectors n d) t y (vectors_in n d y r)))

  -- every modulus from 1 to below the bound is hopeless
  abbrev pub none_below : ℕ → Bool
  none_below c = every hopeless_test (up_to c)

  none_holds : (c : ℕ) → T (none_below c) → (m : ℕ) → 1 ≤ m → m < c → Hopeless rule d m
  none_holds c t m l h = hopeless_holds m l (every_at hopeless_test (up_to c) t m (up_to_in c m h))

  pub no_plan_holds : (c : ℕ) → T (none_below (suc c)) → NoPlan rule d c
  unfolding NoPlan
  no_plan_holds c t = λ n l h. none_holds (suc c) t n l (omega arith)

  -- z is in range and passes, and no vector before it does
  module _ {order : Order} (ordered : Ordered order) where
    abbrev later : ℕ → List ℕ → List ℕ → Bool
    later n z y = not (passes n y && ordered.test y z)

    abbrev pub first_test : ℕ → List ℕ → Bool
    first_test n z = eqb (bad_vector d n z) 0 && (passes n z && every (later n z) (vectors n d))

    pub first_holds : (n : ℕ) (z : List ℕ) → T (first_test n z) → First rule d order n n z
    first_holds n z t =
        let u = both (eqb (bad_vector d n z) 0) (passes n z && every (later n z) (vectors n d)) t in
        let v = both (passes n z) (every (later n z) (vectors n d)) u.1 in
        first-of rule d order ordered.strict n n z
        ((valid_vector d n z).0 (eqb→eq (bad_vector d n z) 0 u.0))
        ((tested.decides n z).0 v.0)
        (λ y r a b. T_not (passes n y && ordered.test y z) (every_at (later n z) (vectors n d) v.1 y (vectors_in n d y r))
        (joined (passes n y) (ordered.test y z) ((tested.decides n y).1 a) (ordered.holds y z b)))

  -- z is the gentlest at n, and every smaller modulus is hopeless
  abbrev pub smallest_test : ℕ → List ℕ → Bool
  smallest_test n z = leb 1 n && (first_test gentle n z && none_below n)

  -- for every ceiling that lets n in
  pub smallest_holds : (n : ℕ) (z : List ℕ) → T (smallest_test n z) → (ceiling : ℕ) → n ≤ ceiling → Smallest rule d ceiling n z
  smallest_holds n z t ceiling h =
      let u = both (leb 1 n) (first_test gentle n z && none_below n) t in
      let v = both (first_test gentle n z) (none_below n) u.1 in
      record { low = leb→le 1 n u.0; high = h; gentlest = first_holds gentle n z v.0; smaller_fail = none_holds n v.1 }
