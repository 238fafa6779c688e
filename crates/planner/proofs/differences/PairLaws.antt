-- Collecting differences: what one pair gives (`grown_same`, `grown-added`), and one turn more of a loop (`grown-more`).
use mathlib.Core.Path.{◌≡◌, refl, sym, ◌∙◌, subst}
use mathlib.Core.Logic.{◌≢◌, inl, inr, ⊎_elim}
use mathlib.Core.Bool.{Bool, true}
use mathlib.Core.List.Memᴰ
use mathlib.Core.List.{List, Memᴰ}
use Prim.Native.Nat.{ℕ, ◌+◌, ◌≤◌}
use native.Mathlib.Decide.{ℕ_discrete}
use native.Mathlib.Omega.{arith}
use lib.IntN.{ℤ}
use Rattle.rank1.specs.Differences.{minus, negative, Has}
use Rattle.planner.specs.Table.{rows_found, EitherSign, Added, Pairs, OnePair, Turns, Made, Grown, GrownTo}
use Rattle.planner.specs.declared.table.Differences.{Differences}
use Rattle.planner.proofs.table.TableLaws.{added-axes, added-stays, added-only, added-was}

-- ---- what a table has
-- a table that has h, which is g or -g, has g in that sense
pub either_has : (D : List (List ℤ)) (g h : List ℤ) → EitherSign g h → Memᴰ h D → Has D g
either_has D g h (inl e) m = inl (Memᴰ.cast (sym e) m)
either_has D g h (inr e) m = inr (Memᴰ.cast (sym e) m)

-- and what is had stays
pub has_stays : (D D' : List (List ℤ)) (h : List ℤ) → ((k : List ℤ) → Memᴰ k D → Memᴰ k D') → Has D h → Has D' h
has_stays D D' h f (inl m) = inl (f h m)
has_stays D D' h f (inr m) = inr (f (negative h) m)

-- a row with itself: nothing changes
pub grown_same : {t : Differences} {a b : List ℤ} → a ≡ b → GrownTo (OnePair a b) t t
grown_same e = record {
  axes = refl;
  grown = record { stays = λ h m. m; only = λ h m. inl m; was = λ w. w; all = λ w x y p n. absurd (n (p.0 ∙ e ∙ sym p.1)) };
}

-- ---- turns
module _ (pairs : ℕ → Pairs) (from : ℕ) where
  -- more turns have the pairs of fewer
  turns_more : (i j : ℕ) (s t : List ℤ) → i ≤ j → Turns from i pairs s t → Turns from j pairs s t
  turns_more i j s t l p = record { turn = p.turn; low = p.low; high = omega (arith, p.high); pair = p.pair }

  made_more : (i j : ℕ) (h : List ℤ) → i ≤ j → Made (Turns from i pairs) h → Made (Turns from j pairs) h
  made_more i j h l a = record { s = a.s; t = a.t; pair = turns_more i j a.s a.t l a.pair; differ = a.differ; which = a.which }

  -- one more turn
  pub grown-more :
      (i : ℕ) (D D₁ D₂ : List (List ℤ)) (w w₁ w₂ : Bool) → from ≤ i → Grown (Turns from i pairs) D D₁ w w₁ → Grown (pairs i) D₁ D₂ w₁ w₂
      → Grown (Turns from (i + 1) pairs) D D₂ w w₂
  grown-more i D D₁ D₂ w w₁ w₂ l r q = record {
    stays = λ h m. q.stays h (r.stays h m);
    only = λ h m. ⊎_elim (λ n. ⊎_elim inl (λ a. inr (made_more i (i + 1) h (omega arith) a)) (r.only h n)) (λ a. inr (here h a)) (q.only h m);
    was = λ e. r.was (q.was e);
    all = λ e s t p n. go e s t p n (ℕ_discrete p.turn i);
  }
    where
      here : (h : List ℤ) → Made (pairs i) h → Made (Turns from (i + 1) pairs) h
      here h a = record { s = a.s; t = a.t; pair = record { turn = i; low = l; high = omega arith; pair = a.pair }; differ = a.differ; which = a.which }

      go : w₂ ≡ true → (s t : List ℤ) (p : Turns from (i + 1) pairs s t) → s ≢ t → Dec (p.turn ≡ i) → Has D₂ (minus s t)
      go e s t p n (yes f) = q.all e s t (subst (λ (k : ℕ). pairs k s t) f p.pair) n
      go e s t p n (no f) =
          has_stays D₁ D₂ (minus s t) q.stays
          (r.all (q.was e) s t (record { turn = p.turn; low = p.low; high = omega (arith, p.high); pair = p.pair }) n)

-- ---- adding one difference to the table
pub grown-added :
    {h : List ℤ} {t t' : Differences} {a b : List ℤ} → a ≢ b → EitherSign (minus a b) h → Added h t t' → GrownTo (OnePair a b) t t'
grown-added {h} {t} {t'} {a} {b} n e r = record {
  axes = added-axes h t t' r;
  grown = record {
    stays = added-stays h t t' r;
    only = λ k m. ⊎_elim inl
        (λ q. inr (record { s = a; t = b; pair = (refl, refl); differ = n; which = subst (EitherSign (minus a b)) (sym q) e }))
        (added-only h t t' r k m);
    was = λ w. (added-was h t t' r w).0;
    all = λ w x y p _.
        subst (λ (v : List ℤ). Has (rows_found t') (minus v y)) (sym p.0)
        (subst (λ (v : List ℤ). Has (rows_found t') (minus a v)) (sym p.1)
        (either_has (rows_found t') (minus a b) h e (added-was h t t' r w).1));
  };
}

-- ---- one turn more of a loop that adds to the table
pub grown-turn :
    {pairs : ℕ → Pairs} {from i : ℕ} {t t₁ t₂ : Differences} → from ≤ i → GrownTo (Turns from i pairs) t t₁ → GrownTo (pairs i) t₁ t₂
    → GrownTo (Turns from (i + 1) pairs) t t₂
grown-turn {pairs} {from} {i} {t} {t₁} {t₂} l g h = record {
  axes = h.axes ∙ g.axes;
  grown = grown-more pairs from i (rows_found t) (rows_found t₁) (rows_found t₂) t.whole t₁.whole t₂.whole l g.grown h.grown;
}
