-- The stages of the search: what is fixed stays where only what belongs to later axes moves, one component more, and what the rule
-- asks of the rows that end by an axis.
use mathlib.Core.Path.{◌≡◌, refl, sym, ap, ◌∙◌, subst}
use mathlib.Core.Bool.{Bool, true, false}
use mathlib.Core.List.{List, map}
use Prim.Native.Nat.{ℕ, zero, suc, ◌+◌, ◌-◌, ◌*◌, ◌<◌, ◌≤◌}
use native.Mathlib.Decide.{ℕ_discrete}
use native.Mathlib.Numerals.{add-one}
use native.Mathlib.Omega.{arith}
use borrow.Author.Count.{below_more}
use lib.IntN.{ℤ, pos, ◌*ℤ◌}
use lib.ListN.{length, get_or, set, take, length-set, get_or-map}
use lib.Seq.{get_or-set_same, get_or-set_other}
use Rattle.planner.specs.declared.search.Search.{Search}
use Rattle.planner.specs.declared.tables.Work.{Work}
use Rattle.rank1.specs.Residue.{residue, dot, residue_at}
use Rattle.rank1.specs.Axes.{Agree}
use Rattle.rank1.proofs.ResidueLaws.{residue-lt}
use Rattle.rank1.proofs.DifferenceLaws.{part_agrees}
use Rattle.planner.specs.Sizes.{axes, lasts, room, places, largest_size}
use Rattle.planner.specs.Inner.{place, KeptBelow, Covered, AxisSet}
use Rattle.planner.specs.Runs.{column}
use Rattle.planner.specs.Sieve.{Readable}
use Rattle.planner.specs.Stage.{Tabled, Prefixed, SumsTo, Summable, SumsAdded, Siftable, Sifted, Triable, Tried, Stage, KeptBefore}
use Rattle.planner.proofs.products.ProductLaws.{place-lt, covered_wider}
use Rattle.planner.proofs.runs.RunLaws.{bounds_rise}
use Rattle.planner.proofs.search.PrefixLaws.{agree_set}
use Rattle.planner.proofs.search.ForbidLaws.{product_at, part-is}

-- ---- what stays
-- the residue of a part hangs on the components before its end
part_kept : (n k i : ℕ) (h : List ℤ) (y z : List ℕ) → i ≤ k → Agree k y z → residue_at n (map pos y) (take i h) ≡ residue_at n (map pos z) (take i h)
part_kept n k i h y z l same =
    part_agrees n i h (map pos y) (map pos z) (λ a m. get_or-map pos y a 0 ∙ ap pos (same a (omega arith)) ∙ sym (get_or-map pos z a 0))

-- what is set stays with another vector that begins so, and products that are the same for the axes before
prefixed-kept :
    (s : Search) (at : ℕ) (z₀ p₀ z p : List ℕ) → s.task.listing.top ≤ largest_size → length z ≡ length z₀ → Agree at z z₀ → KeptBelow 0 (at * places) p₀ p
    → Prefixed s at z₀ p₀ → Prefixed s at z p
prefixed-kept s at z₀ p₀ z p narrow lz same kept f = record {
  modulus = f.modulus;
  within = f.within;
  size = lz ∙ f.size;
  entries = λ j x l b.
      kept (j * places + place x) (omega (arith, place-lt x (omega arith)))
      ∙ f.entries j x l b
      ∙ ap (λ (c : ℕ). residue s.n (x *ℤ pos c)) (sym (same j l));
}

-- the sums up to section k stay
pub sums_kept :
    (s : Search) (k : ℕ) (z₀ z old new : List ℕ) → Agree k z z₀ → KeptBelow 0 ((k + 1) * room) old new → SumsTo s k z₀ old → SumsTo s k z new
sums_kept s k z₀ z old new same kept known i a l h from to =
    kept (i * room + a) (omega (arith, s.task.list.now.bounded.few (s.task.rows.d * lasts)))
    ∙ known i a l h from to
    ∙ sym (part_kept s.n k i (column s.task.rows.d s.task.list.now.components a) z z₀ l same)

-- the stage stays
pub stage_kept :
    (s : Search) (at : ℕ) (z : List ℕ) (w : Work) (z' : List ℕ) (w' : Work)
    → KeptBefore at z w z' w' → Stage s at z w → Stage s at z' w'
stage_kept s at z w z' w' k g = record {
  fixed = record {
    tabled = tabled;
    prefix =
        prefixed-kept s at z w.products z' w'.products tabled.listed.covers.narrow k.size k.begins k.products g.fixed.prefix;
    few_values = g.fixed.few_values;
    begins = g.fixed.begins;
    below = λ j l. omega (arith, k.begins j l, g.fixed.below j l);
  };
  sums =
      sums_kept s (at - 1) z z' w.sums w'.sums (λ i l. k.begins i (omega arith)) k.sums g.sums;
  solutions = g.solutions;
}
  where
    tabled : Tabled s.task
    tabled = g.fixed.tabled

-- nothing moved
pub kept_none : (at : ℕ) (z : List ℕ) (w : Work) → KeptBefore at z w z w
kept_none at z w = record {
  size = refl;
  begins = λ i l. refl;
  sums = λ i l. refl;
  products = λ i l. refl;
  struck = λ i l. refl;
}

-- one move after another, of which the second may be of a later axis
pub kept_more :
    (at later : ℕ) (z : List ℕ) (w : Work) (z' : List ℕ) (w' : Work) (z'' : List ℕ) (w'' : Work)
    → at ≤ later → KeptBefore at z w z' w' → KeptBefore later z' w' z'' w'' → KeptBefore at z w z'' w''
kept_more at later z w z' w' z'' w'' l k h = record {
  size = h.size ∙ k.size;
  begins = λ i m. h.begins i (omega arith) ∙ k.begins i m;
  sums = λ i m. h.sums i (omega arith) ∙ k.sums i m;
  products = λ i m. h.products i (omega arith) ∙ k.products i m;
  struck = λ i m. h.struck i (omega arith) ∙ k.struck i m;
}

-- ---- one component more
module _ (s : Search) (at v : ℕ) (z : List ℕ) (within : at < s.task.rows.d) where
  -- v is stored, and the products of its axis are set
  pub prefixed_more :
      (p p' : List ℕ) → s.task.listing.top ≤ largest_size → Prefixed s at z p → AxisSet s.n v at s.task.listing.top p p' → Prefixed s (at + 1) (set z at v) p'
  prefixed_more p p' narrow f anew = record {
    modulus = f.modulus;
    within = omega arith;
    size = length-set z at v ∙ f.size;
    entries = λ j x l b.
        below_more (λ i. get_or p' (i * places + place x) 0 ≡ residue s.n (x *ℤ pos (get_or (set z at v) i 0))) at
        (λ i h.
        anew.kept (i * places + place x) (omega (arith, place-lt x (omega arith)))
        ∙ f.entries i x h b
        ∙ ap (λ (c : ℕ). residue s.n (x *ℤ pos c)) (sym (get_or-set_other z at i v 0 (omega arith))))
        (anew.entry x b ∙ ap (λ (c : ℕ). residue s.n (x *ℤ pos c)) (sym (get_or-set_same z at v 0 (omega (arith, f.size)))))
        j l;
  }

  -- v is below the number of values
  pub below_stored : length z ≡ s.task.rows.d → v < s.values → ((j : ℕ) → j < at → get_or z j 0 < s.values) → (j : ℕ) → j < at + 1 → get_or (set z at v) j 0 < s.values
  below_stored size less below =
      below_more (λ j. get_or (set z at v) j 0 < s.values) at (λ j l. omega (arith, get_or-set_other z at j v 0 (omega arith), below j l))
      (omega (arith, get_or-set_same z at v 0 (omega arith)))

-- ---- what the sums and the sieve read
-- differences whose sums up to axis j are known
pub readable :
    (s : Search) (j : ℕ) (z : List ℕ) (w : Work) (from to : ℕ) → Prefixed s (j + 1) z w.products → Covered s.task.listing.top s.task.list.now.components
    → j + 1 < axes → to ≤ room → ((e : ℕ) → from ≤ e → e < to → get_or w.sums (j * room + e) 0 < s.n) → Readable s.n j s.task.list.now.components w.products w.sums from to
readable s j z w from to f small inner within below = record {
  modulus = f.modulus;
  inner = omega arith;
  small = covered_wider s.task.listing.top largest_size s.task.list.now.components small.narrow (omega arith) small;
  within = within;
  sums_below = below;
  products_below = λ e l h.
      omega (
        arith,
        product_at s (j + 1) z w.products f j (get_or s.task.list.now.components (j * room + e) (pos 0)) (omega arith) (small.covered (j * room + e)),
        residue-lt s.n (get_or s.task.list.now.components (j * room + e) (pos 0) *ℤ get_or (map pos z) j (pos 0)) f.modulus.low,
      );
}

-- a known sum is below n
pub sum_below :
    (s : Search) (at i e : ℕ) (z sums : List ℕ) → 0 < s.n → SumsTo s at z sums → i ≤ at → i < s.task.rows.d
    → get_or s.task.list.now.bounds ((i + 1) * lasts) 0 ≤ e → e < get_or s.task.list.now.bounds (s.task.rows.d * lasts) 0 → get_or sums (i * room + e) 0 < s.n
sum_below s at i e z sums some known l h from to =
    omega (arith, known i e l h from to, residue-lt s.n (dot (take i (column s.task.rows.d s.task.list.now.components e)) (map pos z)) some)

-- what setting a section of the sums asks
pub summable :
    (s : Search) (at : ℕ) (z : List ℕ) (w : Work) → Stage s at z w → at < s.task.rows.d → Summable s at w
summable s at z w g within = record {
  within = within;
  few_axes = s.task.rows.valid.few_axes;
  readable = λ before e l.
      readable s before z w (get_or s.task.list.now.bounds ((at + 1) * lasts) 0) (get_or s.task.list.now.bounds (s.task.rows.d * lasts) 0)
      (subst (λ (k : ℕ). Prefixed s k z w.products) (e ∙ sym (add-one before)) g.fixed.prefix) tabled.differenced.small
      (omega (arith, s.task.rows.valid.few_axes)) (s.task.list.now.bounded.few (s.task.rows.d * lasts))
      (λ a from to.
      sum_below s (at - 1) before a z w.sums g.fixed.prefix.modulus.low g.sums (omega arith) (omega arith)
      (omega (arith, bounds_rise s.task.list.now.bounds s.task.list.now.bounded ((before + 1) * lasts) ((at + 1) * lasts) (omega arith) (omega (arith, s.task.rows.valid.few_axes)))) to);
}
  where
    tabled : Tabled s.task
    tabled = g.fixed.tabled

-- section at is set: the sums up to it are known
pub sums_more :
    (s : Search) (at : ℕ) (z : List ℕ) (w w' : Work) → Stage s at z w → at < s.task.rows.d
    → SumsAdded s at w w' → SumsTo s at z w'.sums
sums_more s at z w w' g within added = go at refl
  where
    few : s.task.rows.d ≤ axes
    few = s.task.rows.valid.few_axes

    kept : SumsTo s (at - 1) z w'.sums
    kept = sums_kept s (at - 1) z z w.sums w'.sums (λ i l. refl) added.kept g.sums

    -- behind the first axis the last section is new
    last :
        (before a : ℕ) → at ≡ suc before → get_or s.task.list.now.bounds ((at + 1) * lasts) 0 ≤ a → a < get_or s.task.list.now.bounds (s.task.rows.d * lasts) 0
        → get_or w'.sums (at * room + a) 0 ≡ residue_at s.n (map pos z) (take at (column s.task.rows.d s.task.list.now.components a))
    last before a e from to =
        added.added before a e from to
        ∙ part-is s before z w.sums w.products (subst (λ (k : ℕ). Prefixed s k z w.products) (e ∙ sym (add-one before)) g.fixed.prefix) g.fixed.tabled.differenced.small (omega arith) a
        (g.sums before a (omega arith) (omega arith) (omega (arith, bounds_rise s.task.list.now.bounds s.task.list.now.bounded ((before + 1) * lasts) ((at + 1) * lasts) (omega arith) (omega arith))) to)
        ∙ ap (λ (k : ℕ). residue_at s.n (map pos z) (take k (column s.task.rows.d s.task.list.now.components a))) (sym e)

    go : (k : ℕ) → at ≡ k → SumsTo s at z w'.sums
    go zero e i a l h from to = kept i a (omega arith) h from to
    go (suc before) e i a l h from to = cases i a l h from to (ℕ_discrete i at)
      where
        cases :
            (i a : ℕ) → i ≤ at → i < s.task.rows.d → get_or s.task.list.now.bounds ((i + 1) * lasts) 0 ≤ a → a < get_or s.task.list.now.bounds (s.task.rows.d * lasts) 0 → Dec (i ≡ at)
            → get_or w'.sums (i * room + a) 0 ≡ residue_at s.n (map pos z) (take i (column s.task.rows.d s.task.list.now.components a))
        cases i a l h from to (yes q) =
            subst (λ (k : ℕ). get_or s.task.list.now.bounds ((k + 1) * lasts) 0 ≤ a → get_or w'.sums (k * room + a) 0 ≡ residue_at s.n (map pos z) (take k (column s.task.rows.d s.task.list.now.components a))) (sym q)
            (λ from'. last before a e from' to) from
        cases i a l h from to (no q) = kept i a (omega arith) h from to

-- ---- the moves of the recursion
-- the marks of component at are set
pub kept-marks : (s : Search) (at : ℕ) (z : List ℕ) (w w' : Work) → Sifted s at w w' → KeptBefore at z w z w'
kept-marks s at z w w' sifted = record {
  size = refl;
  begins = λ i l. refl;
  sums = λ i l. ap (λ (x : Work). get_or x.sums i 0) sifted.only;
  products = λ i l. ap (λ (x : Work). get_or x.products i 0) sifted.only;
  struck = sifted.kept;
}

-- section at of the sums is set
pub kept-sums : (s : Search) (at : ℕ) (z : List ℕ) (w w' : Work) → SumsAdded s at w w' → KeptBefore at z w z w'
kept-sums s at z w w' added = record {
  size = refl;
  begins = λ i l. refl;
  sums = added.kept;
  products = λ i l. ap (λ (x : Work). get_or x.products i 0) added.only;
  struck = λ i l. ap (λ (x : Work). get_or x.struck i false) added.only;
}

-- what the sieve asks
pub siftable :
    (s : Search) (at : ℕ) (z : List ℕ) (w : Work) → Stage s at z w → at < s.task.rows.d → Siftable s at w
siftable s at z w g within = record {
  modulus = g.fixed.prefix.modulus;
  short = tabled.differenced.tails;
  solved = g.solutions;
  sievable = λ before e. record {
    solved = g.solutions;
    readable =
        readable s before z w (get_or s.task.list.now.bounds (suc before * lasts) 0) (get_or s.task.list.now.bounds (suc (suc before) * lasts) 0)
        (subst (λ (k : ℕ). Prefixed s k z w.products) (e ∙ sym (add-one before)) g.fixed.prefix) tabled.differenced.small
        (omega (arith, few)) (s.task.list.now.bounded.few (suc (suc before) * lasts))
        (λ a from to.
        sum_below s (at - 1) before a z w.sums g.fixed.prefix.modulus.low g.sums (omega arith) (omega arith)
        (omega (arith, ap (λ (k : ℕ). get_or s.task.list.now.bounds (k * lasts) 0) (add-one before)))
        (omega (arith, bounds_rise s.task.list.now.bounds s.task.list.now.bounded (suc (suc before) * lasts) (s.task.rows.d * lasts) (omega arith) (omega (arith, few)))));
  };
}
  where
    tabled : Tabled s.task
    tabled = g.fixed.tabled

    few : s.task.rows.d ≤ axes
    few = s.task.rows.valid.few_axes

module _ (s : Search) (at v : ℕ) (z : List ℕ) (w : Work) (g : Stage s at z w) (within : at < s.task.rows.d) (less : v < s.values) where
  -- what trying v asks
  pub triable : Triable s at v z w
  triable = record {
    listed = g.fixed.tabled.listed;
    prefix = g.fixed.prefix;
    few_values = g.fixed.few_values;
    within = within;
    less = less;
  }

  module _ (z' : List ℕ) (w' : Work) (r : Bool) (t : Tried s at v z w z' w' r) where
    -- the vector agrees with what stood there before component at
    begins : Agree at z' z
    begins i l = ap (λ (y : List ℕ). get_or y i 0) t.stored ∙ agree_set at v z i l

    -- the next stage, where section at of the sums is set
    pub stage_tried : SumsTo s at z w.sums → r ≡ true → Stage s (at + 1) z' w'
    stage_tried summed e = record {
      fixed = record {
        tabled = g.fixed.tabled;
        prefix = t.prefix e;
        few_values = g.fixed.few_values;
        begins = g.fixed.begins;
        below =
            subst (λ (y : List ℕ). (j : ℕ) → j < at + 1 → get_or y j 0 < s.values) (sym t.stored)
            (below_stored s at v z within g.fixed.prefix.size less g.fixed.below);
      };
      sums =
          subst (λ (k : ℕ). SumsTo s k z' w'.sums) before
          (subst (λ (x : List ℕ). SumsTo s at z' x) (sym (ap (λ (x : Work). x.sums) t.only))
          (sums_kept s at z z' w.sums w.sums begins (λ i l. refl) summed));
      solutions = g.solutions;
    }
      where
        before : at ≡ at + 1 - 1
        before = omega arith

    -- what belongs to the axes before stays
    pub kept_tried : KeptBefore at z w z' w'
    kept_tried = record {
      size = ap length t.stored ∙ length-set z at v;
      begins = begins;
      sums = λ i l. ap (λ (x : Work). get_or x.sums i 0) t.only;
      products = t.kept_products;
      struck = λ i l. ap (λ (x : Work). get_or x.struck i false) t.only;
    }
