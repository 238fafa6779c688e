-- A table of owners, emptied, filled a row at a time, and looked into. f is the residue of each row.
use mathlib.Core.Path.{◌≡◌, refl, sym, ap, ◌∙◌}
use mathlib.Core.Bool.{Bool, true, false, not, ◌||◌, true≢false}
use mathlib.Core.Logic.{◌≢◌}
use mathlib.Core.List.{List}
use Prim.Native.Nat.{ℕ, ◌+◌, ◌≤◌, ◌<◌}
use native.Mathlib.Decide.{ℕ_discrete}
use native.Mathlib.Omega.{arith}
use borrow.Author.Count.{below_more}
use borrow.Author.Tests.{eqb-true, eqb-false}
use lib.Dec.{eqb}
use lib.ListN.{length, get_or, set}
use lib.Seq.{get_or-set_same, get_or-set_other}
use Rattle.std.proofs.Math.Logic.{by_cases}
use Rattle.std.specs.Prelude.{Option, Some, None}
use Rattle.std.specs.Option.{is_some}
use Rattle.rank1.specs.Tests.{Decides}
use Rattle.planner.specs.Inner.{Owners, clash}

-- an answer that is known decides
pub decides_yes : {P : Type 0} → P → Decides true P
decides_yes p = record { yes = λ e. p; no = λ e q. true≢false e }

pub decides_no : {P : Type 0} → (P → ⊥) → Decides false P
decides_no {P} f = record { yes = λ e. absurd {A = P} (true≢false (sym e)); no = λ e. f }

-- two numbers are equal or not
pub by_equal : (P : Type 0) (a b : ℕ) → (a ≡ b → P) → (a ≢ b → P) → P
by_equal P a b f g = by_cases (ℕ_discrete a b) f g

-- ---- which owners forbid a residue
-- where the test fails of an owner, it is row i itself, under plan C
pub clash_false : (plan i o : ℕ) → clash plan i (Some o) ≡ false → (plan ≢ 3) × (o ≡ i)
clash_false plan i o e = go (eqb plan 3) (eqb o i) refl refl e
  where
    go : (b c : Bool) → eqb plan 3 ≡ b → eqb o i ≡ c → (b || not c) ≡ false → (plan ≢ 3) × (o ≡ i)
    go true c q r h = absurd (true≢false h)
    go false true q r h = (eqb-false plan 3 q, eqb-true o i r)
    go false false q r h = absurd (true≢false h)

-- where it holds, there is an owner, and under plan C it is another row
pub record Forbids (plan i : ℕ) (o : Option ℕ) : Type 0 where
  pub row : ℕ
  pub is : o ≡ Some row
  pub other : plan ≢ 3 → row ≢ i

pub clash_true : (plan i : ℕ) (o : Option ℕ) → clash plan i o ≡ true → Forbids plan i o
clash_true plan i None e = absurd (true≢false (sym e))
clash_true plan i (Some o) e = record { row = o; is = refl; other = go (eqb plan 3) (eqb o i) refl refl e }
  where
    go : (b c : Bool) → eqb plan 3 ≡ b → eqb o i ≡ c → (b || not c) ≡ true → plan ≢ 3 → o ≢ i
    go true c q r h = λ no. absurd (no (eqb-true plan 3 q))
    go false true q r h = absurd (true≢false (sym h))
    go false false q r h = λ _. eqb-false o i r

module _ (f : ℕ → ℕ) where
  -- x is the residue of no row of the first m that the plan keeps apart from row i: of none under plan B, of no other under plan C
  abbrev pub Unowned : (plan m i x : ℕ) → Type 0
  Unowned plan m i x = (a : ℕ) → a < m → (plan ≢ 3 → a ≢ i) → x ≢ f a

  -- no two of the first m rows have one residue
  abbrev pub AllApart : ℕ → Type 0
  AllApart m = (a b : ℕ) → a < m → b < m → a ≢ b → f a ≢ f b

module _ (f : ℕ → ℕ) (n : ℕ) where
  -- row i takes the residue r, which had no owner
  pub owners_more : (i r : ℕ) (table : List (Option ℕ)) → n ≤ length table → r ≡ f i → r < n → is_some (get_or table r None) ≡ false → Owners f n i table → Owners f n (i + 1) (set table r (Some i))
  owners_more i r table room e l free o = record {
    told = below_more (λ (a : ℕ). get_or (set table r (Some i)) (f a) None ≡ Some a) i
        (λ a la. get_or-set_other table r (f a) (Some i) None (λ same. true≢false (ap is_some (sym (o.told a la) ∙ ap (λ (x : ℕ). get_or table x None) same) ∙ free)) ∙ o.told a la)
        (rw (← e) (get_or-set_same table r (Some i) None (omega arith)));
    owns = λ x a lx h.
        by_equal ((a < i + 1) × (f a ≡ x)) x r
        (λ same.
        let here = get_or-set_same table r (Some i) None (omega arith) in
        let a-is : a ≡ i = cc in
        (omega arith, ap f a-is ∙ sym e ∙ sym same))
        (λ other.
        let old = o.owns x a lx (sym (get_or-set_other table r x (Some i) None other) ∙ h) in
        (omega (arith, old.0), old.1));
  }

  -- where row i finds an owner, two rows have one residue
  pub owners_clash : (i r m : ℕ) (table : List (Option ℕ)) → i < m → r ≡ f i → r < n → is_some (get_or table r None) ≡ true → Owners f n i table → AllApart f m → ⊥
  owners_clash i r m table li e l taken o rule = go (get_or table r None) refl taken
    where
      go : (w : Option ℕ) → get_or table r None ≡ w → is_some w ≡ true → ⊥
      go None is some = true≢false (sym some)
      go (Some a) is some =
          let old = o.owns r a l is in
          rule a i (omega (arith, old.0)) li (λ same. omega (arith, old.0)) (old.1 ∙ e)

  -- rows that are all recorded have different residues
  pub owners_apart : (m : ℕ) (table : List (Option ℕ)) → Owners f n m table → AllApart f m
  owners_apart m table o a b la lb other e =
      let same = sym (o.told a la) ∙ ap (λ (x : ℕ). get_or table x None) e ∙ o.told b lb in
      other cc

  -- what the owner of x says, where all rows are recorded: x is free, or it is not
  pub owner_free : (plan m i x : ℕ) (table : List (Option ℕ)) → Owners f n m table → clash plan i (get_or table x None) ≡ false → Unowned f plan m i x
  owner_free plan m i x table o none a l apart e =
      let t : get_or table x None ≡ Some a = rw e (o.told a l) in
      let c = clash_false plan i a (ap (clash plan i) (sym t) ∙ none) in
      apart c.0 c.1

  pub owner_forbids : (plan m i x : ℕ) (table : List (Option ℕ)) → Owners f n m table → x < n → clash plan i (get_or table x None) ≡ true → Unowned f plan m i x → ⊥
  owner_forbids plan m i x table o l some free =
      let c = clash_true plan i (get_or table x None) some in
      let old = o.owns x c.row l c.is in
      free c.row old.0 c.other (sym old.1)
