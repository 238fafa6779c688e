-- The steps of the search at one component. Its values are tried from the lowest up: what is passed over begins no first vector, what
-- is found has none before it, and what belongs to the axes before the component stays.
use mathlib.Core.Path.{◌≡◌, refl, sym, ap, ◌∙◌, subst}
use mathlib.Core.Logic.{⊎_elim}
use mathlib.Core.Bool.{Bool, true, false, true≢false, false≢true}
use mathlib.Core.List.{List, map}
use Prim.Native.Nat.{ℕ, suc, ◌+◌, ◌*◌, ◌<◌, ◌≤◌}
use native.Mathlib.Decide.{dec_lt}
use native.Mathlib.Numerals.{add-one}
use native.Mathlib.Omega.{arith}
use borrow.Author.Count.{below_more}
use lib.IntN.{pos}
use lib.ListN.{length, get_or, set, take, drop, get_or-map}
use lib.Seq.{get_or-set_same}
use Rattle.std.proofs.lemmas.List.{get_or-take, get_or-drop}
use Rattle.planner.specs.declared.search.Search.{Search}
use Rattle.planner.specs.declared.tables.Work.{Work}
use Rattle.rank1.specs.Tests.{Decides}
use Rattle.rank1.specs.Search.{Before}
use Rattle.rank1.specs.Rule.{Rule}
use Rattle.rank1.specs.Below.{FirstBelow}
use Rattle.rank1.specs.Axes.{Agree}
use Rattle.rank1.proofs.Order.{compared, before_irrefl, not_before_at}
use Rattle.planner.specs.Sizes.{room, largest_modulus}
use Rattle.planner.specs.Inner.{KeptBelow}
use Rattle.planner.specs.Stage.{rule_of, FirstOf, NoFirstFrom, NoFirstOf, Fixed, Stage, KeptBefore, Lowest, ValueEnd, Ruled, at_first, behind, Sifted, SumsTo, SumsAdded, Tried, Completed, CompletedOf}
use Rattle.planner.proofs.search.PrefixLaws.{agree_all, agree_more, agree_set, agree_begins}
use Rattle.planner.proofs.search.ValueLaws.{low-passed, high_passed}
use Rattle.planner.proofs.search.ForbidLaws.{forbidden-none, first_none}
use Rattle.planner.proofs.search.StageLaws.{kept_none, kept_more, stage_kept, sums_kept, sums_more, kept-marks, kept-sums, stage_tried, kept_tried}

-- ---- component at: the values below v are passed; z and w are what stood there as the first was tried, z' and w' what stands there now
pub record Passed (rule : Rule) (d n b at : ℕ) (z : List ℕ) (w : Work) (z' : List ℕ) (w' : Work) (v : ℕ) : Type 0 where
  pub kept : KeptBefore at z w z' w'
  pub marks : KeptBelow false ((at + 1) * largest_modulus) w.struck w'.struck
  pub sums : KeptBelow 0 ((at + 1) * room) w.sums w'.sums
  pub none : (y : List ℕ) → FirstBelow rule d n b y → Agree at y z → get_or y at 0 < v → ⊥

-- the same of what a search is after
abbrev pub PassedOf : Search → ℕ → List ℕ → Work → List ℕ → Work → ℕ → Type 0
PassedOf s at z w z' w' v = Passed (rule_of s.task.rows) s.task.rows.d s.n s.values at z w z' w' v

-- the marks of component at are set: `sieved` is what stands there then
module _ (s : Search) (at : ℕ) (z : List ℕ) (sieved : Work) (stage : Stage s at z sieved) (within : at < s.task.rows.d) where
  -- the lowest value is the first that is tried
  pub passed_low : (r : ℕ) → Lowest s at z r → PassedOf s at z sieved z sieved r
  passed_low r low = record {
    kept = kept_none at z sieved;
    marks = λ i l. refl;
    sums = λ i l. refl;
    none = λ y f same l.
        omega (
          arith,
          low-passed s at stage.fixed.tabled stage.fixed.prefix.modulus.low stage.fixed.few_values within z y r (stage.fixed.begins y f) low f same,
        );
  }

  -- a value that is struck is not the component of a first vector
  struck-passed :
      (unmarked : Work) → Sifted s at unmarked sieved
      → (y : List ℕ) → FirstOf s y → Agree at y z
      → get_or sieved.struck (at * largest_modulus + get_or y at 0) false ≡ true → ⊥
  struck-passed unmarked sifted y f same marked =
      go (subst (λ (w : Work). Ruled s at w (get_or y at 0)) (sym sifted.only) (anew (sifted.reason (get_or y at 0) (omega (arith, f.ranged.below at within, stage.fixed.few_values)) marked)))
    where
      -- the reason does not hang on the marks
      anew : Ruled s at unmarked (get_or y at 0) → Ruled s at (record unmarked { struck = sieved.struck }) (get_or y at 0)
      anew (at_first e r) = at_first e r
      anew (behind before e r) = behind before e r

      -- its component as a whole number
      here : (k : ℕ) → at ≡ k → get_or (map pos y) k (pos 0) ≡ pos (get_or y at 0)
      here k e = ap (λ (i : ℕ). get_or (map pos y) i (pos 0)) (sym e) ∙ get_or-map pos y at 0

      go : Ruled s at sieved (get_or y at 0) → ⊥
      go (at_first e r) = first_none s z stage.fixed.tabled stage.fixed.prefix.modulus.low (get_or y at 0) r (map pos y) (here 0 e) f.admissible
      go (behind before e r) =
          forbidden-none s before z sieved.sums sieved.products
          (subst (λ (k : ℕ). Fixed s k z sieved.products) (e ∙ sym (add-one before)) stage.fixed) (omega arith)
          (subst (λ (k : ℕ). SumsTo s k z sieved.sums) (omega arith) stage.sums)
          (get_or y at 0) r (map pos y) (agree_begins (suc before) y z (λ i l. same i (omega arith))) (here (suc before) e) f.admissible

  -- values that are struck; the marks are as they were when the first value was tried
  pub passed-free :
      (unmarked w : Work) (z' : List ℕ) (w' : Work) (v r : ℕ) → w.struck ≡ sieved.struck → Sifted s at unmarked sieved
      → ((u : ℕ) → v ≤ u → u < r → get_or w'.struck (at * largest_modulus + u) false ≡ true) → PassedOf s at z w z' w' v
      → PassedOf s at z w z' w' r
  passed-free unmarked w z' w' v r em sifted marks passed = record {
    kept = passed.kept;
    marks = passed.marks;
    sums = passed.sums;
    none = λ y f same l. go y f same l (dec_lt (get_or y at 0) v);
  }
    where
      go : (y : List ℕ) → FirstOf s y → Agree at y z → get_or y at 0 < r → Dec (get_or y at 0 < v) → ⊥
      go y f same l (yes h) = passed.none y f same h
      go y f same l (no h) =
          struck-passed unmarked sifted y f same
          (sym
          (passed.marks (at * largest_modulus + get_or y at 0)
          (omega (arith, f.ranged.below at within, stage.fixed.few_values, stage.fixed.prefix.modulus.high))
          ∙ ap (λ (m : List Bool). get_or m (at * largest_modulus + get_or y at 0) false) em)
          ∙ marks (get_or y at 0) (omega arith) l)

  -- every value was tried
  pub ended :
      (w : Work) (z' : List ℕ) (w' : Work) (v end : ℕ) → ValueEnd s at end → end ≤ v → PassedOf s at z w z' w' v
      → (x : List ℕ) → CompletedOf s at z x false
  unfolding NoFirstFrom
  ended w z' w' v end high done passed x = record {
    ranged = λ e. absurd (false≢true e);
    admissible = λ e. absurd (false≢true e);
    least = λ e. absurd (false≢true e);
    none = λ _ y f same.
        passed.none y f same
        (omega (arith, high_passed s at stage.fixed.tabled stage.fixed.prefix.modulus.low stage.fixed.few_values within y end high f));
  }

-- the first value is tried with other sums: what is passed stays passed
pub passed-anew :
    (s : Search) (at v : ℕ) (z : List ℕ) (w : Work) (z' : List ℕ) (w' w'' : Work) → PassedOf s at z w z' w' v → PassedOf s at z w'' z w'' v
passed-anew s at v z w z' w' w'' passed = record {
  kept = kept_none at z w'';
  marks = λ i l. refl;
  sums = λ i l. refl;
  none = passed.none;
}

module _
    (rule : Rule) (d n b at v : ℕ) (z : List ℕ) (w : Work) (z' : List ℕ) (w' : Work) (passed : Passed rule d n b at z w z' w' v) (inside : at < length z)
    (x : List ℕ) (stored : x ≡ set z' at v)
  where
    -- v is set: the components before it stay
    set_below : (i : ℕ) → i < at → get_or x i 0 ≡ get_or z i 0
    set_below i l = ap (λ (y : List ℕ). get_or y i 0) stored ∙ agree_set at v z' i l ∙ passed.kept.begins i l

    -- v stands there
    set_here : get_or x at 0 ≡ v
    set_here = ap (λ (y : List ℕ). get_or y at 0) stored ∙ get_or-set_same z' at v 0 (omega (arith, passed.kept.size))

    -- a vector that begins as at the start and has v there begins as what is stored
    begins : (y : List ℕ) → Agree at y z → get_or y at 0 ≡ v → Agree (at + 1) y x
    begins y same e = agree_more at y x (λ i l. same i l ∙ sym (set_below i l)) (e ∙ sym set_here)

    -- v is passed
    pub passed_more :
        (z'' : List ℕ) (w'' : Work) → KeptBefore at z' w' z'' w'' → KeptBelow false ((at + 1) * largest_modulus) w'.struck w''.struck → KeptBelow 0 ((at + 1) * room) w'.sums w''.sums
        → NoFirstFrom rule d n b (at + 1) x → Passed rule d n b at z w z'' w'' (v + 1)
    unfolding NoFirstFrom
    passed_more z'' w'' kept marks sums none = record {
      kept = kept_more at at z w z' w' z'' w'' (omega arith) passed.kept kept;
      marks = λ i l. marks i l ∙ passed.marks i l;
      sums = λ i l. sums i l ∙ passed.sums i l;
      none = λ y f same l.
          below_more (λ j. get_or y at 0 ≡ j → ⊥) v (λ j m e. passed.none y f same (omega arith)) (λ e. none y f (begins y same e)) (get_or y at 0) l refl;
    }

    -- the call found one
    pub found : (y : List ℕ) → Agree (at + 1) y x → Completed rule d n b (at + 1) x y true → Completed rule d n b at z y true
    found y kept done = record {
      ranged = done.ranged;
      admissible = done.admissible;
      least = λ e a f same before.
          let y-here : get_or y at 0 ≡ v = kept at (omega arith) ∙ set_here in
          let y_below : Agree at a y = λ i l. same i l ∙ sym (kept i (omega arith) ∙ set_below i l) in
          ⊎_elim
          (λ low. passed.none a f same low)
          (⊎_elim
          (λ here. done.least e a f (begins a same here) before)
          (λ high. not_before_at at a y y_below (omega arith) before))
          (compared (get_or a at 0) v);
      none = λ e. absurd (true≢false e);
    }

-- where two branches meet
pub passed-same :
    (s : Search) (at v : ℕ) (z : List ℕ) (w : Work) (z' z'' : List ℕ) (w' w'' : Work) → z'' ≡ z' → w'' ≡ w' → PassedOf s at z w z' w' v → PassedOf s at z w z'' w'' v
passed-same s at v z w z' z'' w' w'' ez ew passed =
    subst (λ (x : List ℕ). PassedOf s at z w x w'' v) (sym ez) (subst (λ (x : Work). PassedOf s at z w z' x v) (sym ew) passed)

-- ---- the steps of a call, one after the other: z and w are what it was given
module _
    (s : Search) (at : ℕ) (z : List ℕ) (w : Work) (stage : Stage s at z w) (within : at < s.task.rows.d)
    (w₁ : Work) (sifted : Sifted s at w w₁)
  where
    -- the marks of component at are set
    pub marked : Stage s at z w₁
    marked = stage_kept s at z w z w₁ (kept-marks s at z w w₁ sifted) stage

    -- the values before the first that is left are passed: their marks stand behind those of the axes before
    pub passed_first :
        (low r k : ℕ) → r ≤ k → Lowest s at z low → ((v : ℕ) → low ≤ v → v < r → get_or (take k (drop (at * largest_modulus) w₁.struck)) v false ≡ true)
        → PassedOf s at z w₁ z w₁ r
    passed_first low r k few lowest struck =
        passed-free s at z w₁ marked within w w₁ z w₁ low r refl sifted
        (λ v l h. sym (get_or-take k (drop (at * largest_modulus) w₁.struck) v false (omega arith) ∙ get_or-drop (at * largest_modulus) w₁.struck v false) ∙ struck v l h)
        (passed_low s at z w₁ marked within low lowest)

    module _ (w₂ : Work) (added : SumsAdded s at w₁ w₂) where
      -- the sums are set; those up to section at are known
      summed : Stage s at z w₂
      summed = stage_kept s at z w₁ z w₂ (kept-sums s at z w₁ w₂ added) marked

      sums-known : SumsTo s at z w₂.sums
      sums-known = sums_more s at z w₁ w₂ marked within added

      module _ (z' : List ℕ) (w' : Work) (v : ℕ) (passed : PassedOf s at z w₂ z' w' v) where
        -- before each value the stage is as it was, and what belongs to the axes before too
        pub looped : Stage s at z' w'
        looped = stage_kept s at z w₂ z' w' passed.kept summed

        pub kept-looped : KeptBefore at z w z' w'
        kept-looped =
            kept_more at at z w z w₁ z' w' (omega arith) (kept-marks s at z w w₁ sifted)
            (kept_more at at z w₁ z w₂ z' w' (omega arith) (kept-sums s at z w₁ w₂ added) passed.kept)

        -- v is struck, and so it is passed
        pub passed_struck : get_or w'.struck (at * largest_modulus + v) false ≡ true → PassedOf s at z w₂ z' w' (v + 1)
        passed_struck marked-v =
            passed-free s at z w₁ marked within w w₂ z' w' v (v + 1) (ap (λ (x : Work). x.struck) added.only) sifted
            (λ u low high. subst (λ (k : ℕ). get_or w'.struck (at * largest_modulus + k) false ≡ true) (omega arith) marked-v) passed

        module _ (less : v < s.values) (x : List ℕ) (w₃ : Work) (r : Bool) (tried : Tried s at v z' w' x w₃ r) where
          -- v is tried: the next stage
          pub stage_next : r ≡ true → Stage s (at + 1) x w₃
          stage_next =
              stage_tried s at v z' w' looped within less x w₃ r tried
              (sums_kept s at z z' w₂.sums w'.sums passed.kept.begins passed.sums sums-known)

          kept-tried : KeptBefore at z' w' x w₃
          kept-tried = kept_tried s at v z' w' looped within less x w₃ r tried

          place : at < length z
          place = omega (arith, within, stage.fixed.prefix.size)

          -- v is passed without a call
          pub passed-alone : r ≡ false → PassedOf s at z w₂ x w₃ (v + 1)
          passed-alone none =
              passed_more (rule_of s.task.rows) s.task.rows.d s.n s.values at v z w₂ z' w' passed place x tried.stored x w₃ kept-tried
              (λ i l. ap (λ (y : Work). get_or y.struck i false) tried.only) (λ i l. ap (λ (y : Work). get_or y.sums i 0) tried.only) (tried.none none)

          module _ (z'' : List ℕ) (w'' : Work) (kept : KeptBefore (at + 1) x w₃ z'' w'') where
            -- v is passed by a call
            pub passed-call : NoFirstOf s (at + 1) x → PassedOf s at z w₂ z'' w'' (v + 1)
            passed-call =
                passed_more (rule_of s.task.rows) s.task.rows.d s.n s.values at v z w₂ z' w' passed place x tried.stored z'' w''
                (kept_more at (at + 1) z' w' x w₃ z'' w'' (omega arith) kept-tried kept)
                (λ i l. kept.struck i l ∙ ap (λ (y : Work). get_or y.struck i false) tried.only)
                (λ i l. kept.sums i (omega arith) ∙ ap (λ (y : Work). get_or y.sums i 0) tried.only)

            -- a call found a vector
            pub found-call : CompletedOf s (at + 1) x z'' true → CompletedOf s at z z'' true
            found-call = found (rule_of s.task.rows) s.task.rows.d s.n s.values at v z w₂ z' w' passed place x tried.stored z'' kept.begins

            pub kept-call : KeptBefore at z w z'' w''
            kept-call = kept_more at at z w z' w' z'' w'' (omega arith) kept-looped (kept_more at (at + 1) z' w' x w₃ z'' w'' (omega arith) kept-tried kept)

-- ---- all components are fixed: z is the only vector that begins so
pub whole :
    (s : Search) (z : List ℕ) (r : Bool) → length z ≡ s.task.rows.d → ((j : ℕ) → j < s.task.rows.d → get_or z j 0 < s.values) → Decides r (rule_of s.task.rows s.n (map pos z))
    → CompletedOf s s.task.rows.d z z r
unfolding NoFirstFrom
whole s z r size below decides = record {
  ranged = λ _. record { size = size; below = below };
  admissible = decides.yes;
  least = λ _ y f same before. before_irrefl z (subst (λ (x : List ℕ). Before x z) (is y f same) before);
  none = λ e y f same. decides.no e (subst (λ (x : List ℕ). rule_of s.task.rows s.n (map pos x)) (is y f same) f.admissible);
}
  where
    is : (y : List ℕ) → FirstOf s y → Agree s.task.rows.d y z → y ≡ z
    is y f same = agree_all y z (f.ranged.size ∙ sym size) (λ i l. same i (omega arith))
