-- What the tests of specs/Tests.antt say: a test that is true is one that holds; every and some member of a list; equal rows, and
-- one among others; equal records; a list in which two rows are equal.
use mathlib.Core.Path.{◌≡◌, refl, sym, ◌∙◌, ap, subst}
use mathlib.Core.Logic.{◌↔◌, ◌≢◌, ⊎_elim}
use mathlib.Core.Bool.{Bool, true, false, not, ◌&&◌, ◌||◌, beq}
use mathlib.Core.List.Memᴰ
use mathlib.Core.List.{List, [], ◌∷◌, Memᴰ}
use Prim.Native.Nat.{ℕ, suc, ◌<◌}
use native.Mathlib.Omega.{arith}
use lib.Dec.{T, eqb, eqb→eq, eqb_refl, T_not, not_T}
use lib.IntN.{ℤ, pos, negsuc}
use lib.ListN.{length, get_or}
use Rattle.std.specs.Cmp.Lexicographic.{pointwise}
use Rattle.std.specs.Cmp.Rules.{signed_items}
use Rattle.std.specs.Ordering.{int_eq}
use Rattle.std.specs.Bool.{one_answer}
use Rattle.rank1.specs.declared.Tally.{Tally}
use Rattle.rank1.specs.Tests.{every, any, same_number, same_row}
use Rattle.rank1.specs.Tally.{same_flag, same_tally}
use Rattle.rank1.specs.Refusal.{repeats}
use Rattle.rank1.specs.Valid.{Distinct}
use Rattle.rank1.proofs.Distinct.{Place, place_of}

-- ---- a test holds (T b) just where it is true
pub true_holds : (b : Bool) → b ≡ true → T b
true_holds b e = subst T (sym e) tt

pub holds_true : (b : Bool) → T b → b ≡ true
holds_true true t = refl
holds_true false t = absurd t

pub false_fails : (b : Bool) → b ≡ false → T b → ⊥
false_fails b e t = subst T e t

pub fails_false : (b : Bool) → (T b → ⊥) → b ≡ false
fails_false true f = absurd (f tt)
fails_false false f = refl

-- where a test decides P: it is true just where P holds, false just where it does not
pub decided_true : {P : Type 0} (b : Bool) → T b ↔ P → (b ≡ true) ↔ P
decided_true b p = ((λ e. p.0 (true_holds b e)), (λ q. holds_true b (p.1 q)))

pub decided_false : {P : Type 0} (b : Bool) → T b ↔ P → (b ≡ false) ↔ (P → ⊥)
decided_false b p = ((λ e q. false_fails b e (p.1 q)), (λ f. fails_false b (λ t. f (p.0 t))))

-- and another that decides P is the same
pub decided_is : {P : Type 0} (a b : Bool) → T b ↔ P → (a ≡ true → P) → (a ≡ false → P → ⊥) → a ≡ b
decided_is true b p f g = sym ((decided_true b p).1 (f refl))
decided_is false b p f g = sym ((decided_false b p).1 (g refl))

-- ---- both, not, and else
pub both : (a b : Bool) → T (a && b) → T a × T b
both true b t = (tt, t)
both false b t = absurd t

pub joined : (a b : Bool) → T a → T b → T (a && b)
joined true b t u = u
joined false b t u = absurd t

pub either_false : (a b : Bool) → (a || b) ≡ false → (a ≡ false) × (b ≡ false)
either_false true b e = absurd (false_fails true e tt)
either_false false b e = (refl, e)

pub neither : (a b : Bool) → a ≡ false → b ≡ false → (a || b) ≡ false
neither a b p q = ap (λ (c : Bool). c || b) p ∙ q

-- it does not hold
pub decides_not : {P : Type 0} (b : Bool) → T b ↔ P → T (not b) ↔ (P → ⊥)
decides_not b p = ((λ t q. T_not b t (p.1 q)), (λ f. not_T b (λ t. f (p.0 t))))

-- both hold
pub decides_both : {P Q : Type 0} (a b : Bool) → T a ↔ P → T b ↔ Q → T (a && b) ↔ (P × Q)
decides_both a b p q = ((λ t. let u = both a b t in (p.0 u.0, q.0 u.1)), (λ r. joined a b (p.1 r.0) (q.1 r.1)))

-- the one holds, or else the other
pub decides_else : {P Q : Type 0} (a b : Bool) → T a ↔ P → T b ↔ Q → T (a || b) ↔ ((P → ⊥) → Q)
decides_else true b p q = ((λ t f. absurd (f (p.0 tt))), (λ f. tt))
decides_else false b p q = ((λ t f. q.0 t), (λ f. q.1 (f p.1)))

-- ---- every member, some member
module _ {A : Type 0} where
  pub every_at : (f : A → Bool) (xs : List A) → T (every f xs) → (x : A) → Memᴰ x xs → T (f x)
  every_at f [] t x m = absurd (Memᴰ.not-nil m)
  every_at f (y ∷ xs) t x m =
      let u = both (f y) (every f xs) t in
      ⊎_elim (λ e. subst (λ (w : A). T (f w)) (sym e) u.0) (every_at f xs u.1 x) (Memᴰ.cases_cons m)

  pub all_every : (f : A → Bool) (xs : List A) → ((x : A) → Memᴰ x xs → T (f x)) → T (every f xs)
  all_every f [] h = tt
  all_every f (x ∷ xs) h = joined (f x) (every f xs) (h x (Memᴰ.head refl)) (all_every f xs (λ y m. h y (Memᴰ.tail m)))

  pub decides_every : (f : A → Bool) {P : A → Type 0} (xs : List A) → ((x : A) → T (f x) ↔ P x) → T (every f xs) ↔ ((x : A) → Memᴰ x xs → P x)
  decides_every f xs g = ((λ t x m. (g x).0 (every_at f xs t x m)), (λ h. all_every f xs (λ x m. (g x).1 (h x m))))

  -- in equations: every member passes
  pub every_true : (f : A → Bool) (xs : List A) → every f xs ≡ true → (x : A) → Memᴰ x xs → f x ≡ true
  every_true f xs e x m = holds_true (f x) (every_at f xs (true_holds (every f xs) e) x m)

  pub true_every : (f : A → Bool) (xs : List A) → ((x : A) → Memᴰ x xs → f x ≡ true) → every f xs ≡ true
  true_every f xs h = holds_true (every f xs) (all_every f xs (λ x m. true_holds (f x) (h x m)))

  -- no member passes
  pub any_false : (f : A → Bool) (xs : List A) → any f xs ≡ false → (x : A) → Memᴰ x xs → f x ≡ false
  any_false f [] e x m = absurd (Memᴰ.not-nil m)
  any_false f (y ∷ xs) e x m =
      let u = either_false (f y) (any f xs) e in
      ⊎_elim (λ p. ap f p ∙ u.0) (any_false f xs u.1 x) (Memᴰ.cases_cons m)

  pub false_any : (f : A → Bool) (xs : List A) → ((x : A) → Memᴰ x xs → f x ≡ false) → any f xs ≡ false
  false_any f [] h = refl
  false_any f (x ∷ xs) h = neither (f x) (any f xs) (h x (Memᴰ.head refl)) (false_any f xs (λ y m. h y (Memᴰ.tail m)))

  -- some member passes
  pub record Some (f : A → Bool) (xs : List A) : Type 0 where
    pub found : A
    pub listed : Memᴰ found xs
    pub passes : T (f found)

  pub some_of : (f : A → Bool) (xs : List A) → T (any f xs) → Some f xs
  some_of f [] t = absurd t
  some_of f (x ∷ xs) t = go (f x) refl t (some_of f xs)
    where
      go : (b : Bool) → f x ≡ b → T (b || any f xs) → (T (any f xs) → Some f xs) → Some f (x ∷ xs)
      go true e u rest = record { found = x; listed = Memᴰ.head refl; passes = true_holds (f x) e }
      go false e u rest = let s = rest u in record { found = s.found; listed = Memᴰ.tail s.listed; passes = s.passes }

  pub of_some : (f : A → Bool) (xs : List A) (x : A) → Memᴰ x xs → T (f x) → T (any f xs)
  of_some f xs x m t = go (any f xs) refl
    where
      go : (b : Bool) → any f xs ≡ b → T b
      go true e = tt
      go false e = false_fails (f x) (any_false f xs e x m) t

  -- none passes, by the places
  pub any_nowhere : (f : A → Bool) (w : A) (xs : List A) → ((k : ℕ) → k < length xs → f (get_or xs k w) ≡ false) → any f xs ≡ false
  any_nowhere f w xs h = false_any f xs (λ x m. at x (place_of xs x w m))
    where
      at : (x : A) → Place xs x w → f x ≡ false
      at x p = sym (ap f p.is) ∙ h p.index p.inside

-- ---- equal numbers and equal rows
pub decides_eqb : (a b : ℕ) → T (eqb a b) ↔ (a ≡ b)
decides_eqb a b = (eqb→eq a b, λ e. subst (λ (c : ℕ). T (eqb a c)) e (eqb_refl a))

number_yes : (x y : ℤ) → T (same_number x y) → x ≡ y
number_yes (pos a) (pos b) t = ap pos (eqb→eq a b t)
number_yes (pos a) (negsuc b) t = absurd t
number_yes (negsuc a) (pos b) t = absurd t
number_yes (negsuc a) (negsuc b) t = ap negsuc (eqb→eq a b t)

number_refl : (x : ℤ) → T (same_number x x)
number_refl (pos a) = eqb_refl a
number_refl (negsuc a) = eqb_refl a

pub decides_number : (x y : ℤ) → T (same_number x y) ↔ (x ≡ y)
decides_number x y = (number_yes x y, λ e. subst (λ (w : ℤ). T (same_number x w)) e (number_refl x))

row_yes : (s t : List ℤ) → T (same_row s t) → s ≡ t
row_yes [] [] h = refl
row_yes [] (y ∷ t) h = absurd h
row_yes (x ∷ s) [] h = absurd h
row_yes (x ∷ s) (y ∷ t) h =
    let u = both (same_number x y) (same_row s t) h in
    ap (λ (w : ℤ). w ∷ s) (number_yes x y u.0) ∙ ap (λ (w : List ℤ). y ∷ w) (row_yes s t u.1)

row_refl : (s : List ℤ) → T (same_row s s)
row_refl [] = tt
row_refl (x ∷ s) = joined (same_number x x) (same_row s s) (number_refl x) (row_refl s)

pub decides_row : (s t : List ℤ) → T (same_row s t) ↔ (s ≡ t)
decides_row s t = (row_yes s t, λ e. subst (λ (r : List ℤ). T (same_row s r)) e (row_refl s))

pub row_true : (s t : List ℤ) → (same_row s t ≡ true) ↔ (s ≡ t)
row_true s t = decided_true (same_row s t) (decides_row s t)

pub row_false : (s t : List ℤ) → (same_row s t ≡ false) ↔ (s ≢ t)
row_false s t = decided_false (same_row s t) (decides_row s t)

-- the library's test for equal slices is the same
pub slices_same : (s t : List ℤ) → pointwise int_eq s t ≡ same_row s t
slices_same s t = one_answer (pointwise int_eq s t) (same_row s t) (signed_items s t) ((row_true s t).0, (row_true s t).1)

-- a row is one of a list
among_yes : (k : List ℤ) (ks : List (List ℤ)) → T (any (same_row k) ks) → Memᴰ k ks
among_yes k ks h = let s = some_of (same_row k) ks h in Memᴰ.cast (row_yes k s.found s.passes) s.listed

among_no : (k : List ℤ) (ks : List (List ℤ)) → Memᴰ k ks → T (any (same_row k) ks)
among_no k ks m = of_some (same_row k) ks k m (row_refl k)

pub decides_among : (k : List ℤ) (ks : List (List ℤ)) → T (any (same_row k) ks) ↔ Memᴰ k ks
decides_among k ks = (among_yes k ks, among_no k ks)

-- ---- equal records
flag_yes : (a b : Bool) → T (same_flag a b) → a ≡ b
flag_yes true true h = refl
flag_yes true false h = absurd h
flag_yes false true h = absurd h
flag_yes false false h = refl

flag_refl : (a : Bool) → T (same_flag a a)
flag_refl true = tt
flag_refl false = tt

pub decides_tally : (t u : Tally) → T (same_tally t u) ↔ (t ≡ u)
decides_tally t u = (yes, (λ e. subst (λ (w : Tally). T (same_tally t w)) e same))
  where
    tally : ℕ → ℕ → Bool → Tally
    tally m size zero = record { m = m; size = size; zero = zero }

    same : T (same_tally t t)
    same =
        joined (eqb t.m t.m) (eqb t.size t.size && same_flag t.zero t.zero) (eqb_refl t.m)
        (joined (eqb t.size t.size) (same_flag t.zero t.zero) (eqb_refl t.size) (flag_refl t.zero))

    yes : T (same_tally t u) → t ≡ u
    yes h =
        let a = both (eqb t.m u.m) (eqb t.size u.size && same_flag t.zero u.zero) h in
        let b = both (eqb t.size u.size) (same_flag t.zero u.zero) a.1 in
        ap (λ (k : ℕ). tally k t.size t.zero) (eqb→eq t.m u.m a.0)
        ∙ ap (λ (k : ℕ). tally u.m k t.zero) (eqb→eq t.size u.size b.0)
        ∙ ap (tally u.m u.size) (flag_yes t.zero u.zero b.1)

-- the derived test for equal records is the same
flags_same : (a b : Bool) → beq a b ≡ same_flag a b
flags_same true true = refl
flags_same true false = refl
flags_same false true = refl
flags_same false false = refl

pub tallies_same : (t u : Tally) → (eqb t.m u.m && (eqb t.size u.size && beq t.zero u.zero)) ≡ same_tally t u
tallies_same t u = ap (λ (b : Bool). eqb t.m u.m && (eqb t.size u.size && b)) (flags_same t.zero u.zero)

-- ---- no two rows are equal
pub repeats_distinct : (ks : List (List ℤ)) → repeats ks ≡ false → Distinct ks
repeats_distinct [] e = tt
repeats_distinct (k ∷ ks) e =
    let u = either_false (any (same_row k) ks) (repeats ks) e in
    ((λ m. (row_false k k).0 (any_false (same_row k) ks u.0 k m) refl), repeats_distinct ks u.1)

pub distinct_repeats : (ks : List (List ℤ)) → Distinct ks → repeats ks ≡ false
distinct_repeats [] d = refl
distinct_repeats (k ∷ ks) d =
    neither (any (same_row k) ks) (repeats ks)
    (false_any (same_row k) ks (λ x m. (row_false k x).1 (λ e. d.0 (subst (λ (w : List ℤ). Memᴰ w ks) (sym e) m))))
    (distinct_repeats ks d.1)

pub places_distinct : {A : Type 0} (w : A) (xs : List A) → ((i j : ℕ) → i < j → j < length xs → get_or xs i w ≢ get_or xs j w) → Distinct xs
places_distinct w [] h = tt
places_distinct {A} w (x ∷ xs) h = ((λ m. apart (place_of xs x w m)), places_distinct w xs (λ i j l b. h (suc i) (suc j) (omega arith) (omega arith)))
  where
    apart : Place xs x w → ⊥
    apart p = h 0 (suc p.index) (omega arith) (omega (arith, p.inside)) (sym p.is)
