-- What the sieve's code leans on: the sums of an axis set one by one, marks and why they stand, and a run as a part of the tables.
use mathlib.Core.Path.{◌≡◌, refl, sym, ◌∙◌, ap, subst}
use mathlib.Core.Logic.{◌⊎◌, inl, inr, ⊎_elim}
use mathlib.Core.Bool.{Bool, true, false}
use mathlib.Core.List.{List}
use Prim.Native.Nat.{ℕ, suc, ◌+◌, ◌*◌, ◌-◌, ◌%◌, ◌<◌, ◌≤◌}
use native.Mathlib.Nat.{eq-or-lt_of_le}
use native.Mathlib.Decide.{ℕ_discrete}
use native.Mathlib.Omega.{arith}
use lib.IntN.{ℤ, pos, nat_abs}
use lib.ListN.{length, get_or, set, drop, length-set}
use lib.Seq.{get_or-take, get_or-set_same, get_or-set_other}
use mir.Syntax.{w16}
use mir.Val.{to_z, of_z}
use Rattle.std.specs.Iterator.{Yields}
use Rattle.std.specs.Iterator.Adapters.{zip_first, zip_second}
use Rattle.std.specs.Slice.Iter.{iter_rest}
use Rattle.std.specs.declared.iter.Zip.{Zip}
use Rattle.std.proofs.Common.{Bor, Iter, Some}
use Rattle.std.proofs.lemmas.Fn.{fronts}
use Rattle.std.proofs.lemmas.Iterator.{zips}
use Rattle.std.proofs.lemmas.Slice.Zip.{zip_turn}
use Rattle.planner.specs.Inner.{place, KeptBelow}
use Rattle.planner.specs.Sizes.{axes, largest_modulus, lasts, places, product_room, room, largest_size}
use Rattle.planner.specs.declared.sieve.Run.{Run}
use Rattle.planner.specs.declared.tables.ListTables.{ListTables}
use Rattle.planner.specs.declared.tables.ModulusTables.{ModulusTables}
use Rattle.planner.specs.declared.tables.Solved.{Solved}
use Rattle.planner.specs.Sieve.{Marked, Steps, Marking, Solutions, SolutionsSet, TableAt, product, part, PartsReady, Solves, Struck, product_at, part_at, SumsSet, Strikable, RunStart, MarkedFor, Sievable, Forbidden, Sieved}
use Rattle.planner.proofs.products.ProductLaws.{read_back, place-lt}
use Rattle.planner.proofs.runs.RunLaws.{bounds_rise}
use Rattle.planner.proofs.sieve.Parts.{cut, cut-size, cut_at, pasted, pasted-size, pasted-before, pasted_at}
use Rattle.planner.proofs.sieve.SolutionLaws.{steps_solve, table_same}

-- ---- the sums of the next axis
module _ (n j : ℕ) (components : List ℤ) (products sums : List ℕ) (from : ℕ) where
  -- one more is set
  pub sums_more : (e v : ℕ) (new : List ℕ) → from ≤ e → e < room → suc j < axes → length sums ≡ axes * room → v ≡ part_at n j components products sums e → v < n → SumsSet n j components products sums from e new → SumsSet n j components products sums from (e + 1) (set new (j * room + room + e) v)
  sums_more e v new l m a size is under s = record {
    size = length-set new (j * room + room + e) v ∙ s.size;
    set = λ k h b. (good k h (cases k b)).0;
    below = λ k h b. (good k h (cases k b)).1;
    kept = λ i h. get_or-set_other new (j * room + room + e) i v 0 (λ q. omega arith) ∙ s.kept i h;
  }
    where
      cases : (k : ℕ) → k < e + 1 → (k ≡ e) ⊎ (k < e)
      cases k b = eq-or-lt_of_le (omega arith)

      Good : ℕ → ℕ → Type 0
      Good k x = (x ≡ part_at n j components products sums k) × (x < n)

      good : (k : ℕ) → from ≤ k → (k ≡ e) ⊎ (k < e) → Good k (get_or (set new (j * room + room + e) v) (suc j * room + k) 0)
      good k h (inl q) =
          subst (Good k) (sym (ap (λ (i : ℕ). get_or (set new (j * room + room + e) v) i 0) here ∙ get_or-set_same new (j * room + room + e) v 0 (omega (arith, s.size))))
          (is ∙ ap (part_at n j components products sums) (sym q), under)
        where
          here : suc j * room + k ≡ j * room + room + e
          here = omega arith
      good k h (inr q) =
          subst (Good k) (sym (get_or-set_other new (j * room + room + e) (suc j * room + k) v 0 (λ w. omega arith)))
          (s.set k h q, s.below k h q)

-- ---- marks
-- a value is marked after a mark at v if it was before or is v
pub mark_cases : (marks : List Bool) (v w : ℕ) → Marked (set marks v true) w → (w ≡ v) ⊎ Marked marks w
mark_cases marks v w m = go (ℕ_discrete w v)
  where
    go : Dec (w ≡ v) → (w ≡ v) ⊎ Marked marks w
    go (yes e) = inl e
    go (no d) = inr (sym (get_or-set_other marks v w true false d) ∙ m)

-- a mark at a number of steps behind v
pub marking_more : (v step : ℕ) (old new : List Bool) (w : ℕ) → Steps v step w → Marking v step old new → Marking v step old (set new w true)
marking_more v step old new w why s = record { size = length-set new w true ∙ s.size; reason = λ x m. go x (mark_cases new w x m) }
  where
    go : (x : ℕ) → (x ≡ w) ⊎ Marked new x → Marked old x ⊎ Steps v step x
    go x (inl e) = inr (subst (Steps v step) (sym e) why)
    go x (inr m) = s.reason x m

-- a mark at v alone
pub marked_alone : (v step : ℕ) (old : List Bool) → Marking v step old (set old v true)
marked_alone v step old = marking_more v step old old v (0, omega arith) (record { size = refl; reason = λ w m. inl m })

-- ---- the values that a run strikes
module _ (r : Run) where
  -- the solution v for the part of difference i is right
  solution_right : (c i v : ℕ) → Solutions r.n r.t r.solutions.now → c ≡ part r i → c < r.n → v ≡ get_or r.solutions.now c 0 → v < r.n → (part r i + r.t * v) % r.n ≡ 0
  solution_right c i v s e b f o =
      ap (λ (x : ℕ). (x + r.t * v) % r.n) (sym e) ∙ ap (λ (x : ℕ). (c + r.t * x) % r.n) f ∙ s.right c b (subst (λ (x : ℕ). x < r.n) f o)

  -- the marks of all solutions for the part of difference i
  pub struck_more : (old new newer : List Bool) (c i v : ℕ) → SolutionsSet r.n r.t r.step r.solutions.now → i < length r.sums.now → c ≡ part r i → c < r.n → v ≡ get_or r.solutions.now c 0 → Marking v r.step new newer → Struck r old new → Struck r old newer
  struck_more old new newer c i v set l e b f m s = record { size = m.size ∙ s.size; reason = λ w o q. go w o (m.reason w q) }
    where
      go : (w : ℕ) → w < r.n → Marked new w ⊎ Steps v r.step w → Marked old w ⊎ Solves r w
      go w o (inl q) = s.reason w o q
      go w o (inr q) = inr record {
        which = i;
        inside = l;
        solved = steps_solve r.n r.t (part r i) v r.step w set.period q (solution_right c i v set.table e b f (omega (arith, q.1)));
      }

  -- one turn more of a loop over the sums and the components side by side: behind the pairs xs stands p, that of a difference of the run. So c, which the
  -- code finds from p, is the part of this difference, and the marks made are its solutions
  pub struck_turn :
      (xs : List (Bor ℕ × Bor ℤ)) (s t u : Zip (Iter ℕ) (Iter ℤ)) (p : Bor ℕ × Bor ℤ) {old new newer : List Bool} {c k v : ℕ}
      → Yields (zips fronts fronts) s xs t → zips fronts fronts t (Some p) u → (iter_rest (zip_first s) ≡ r.sums.now) × (iter_rest (zip_second s) ≡ r.components.now)
      → Strikable r old → (c ≡ (p.0.now + get_or r.products.now (place (to_z w16 (of_z w16 p.1.now))) 0) % r.n) × (c < r.n)
      → k ≡ c → v ≡ get_or r.solutions.now k 0 → Marking v r.step new newer → Struck r old new → Struck r old newer
  struck_turn xs s t u p {old} {new} {newer} {c} {k} {v} y steps whole ready found e f =
      let turn = zip_turn r.sums.now r.components.now xs s t u (Some p) whole.0 whole.1 y p refl steps in
      let back = read_back p.1.now (rw (turn.3 (pos 0)) (ready.parts.small (length xs) turn.0)) in
      let same : c ≡ part r (length xs) = cc (turn.2 0, turn.3 (pos 0)) in
      struck_more old new newer c (length xs) v ready.solved turn.0 same found.1 (cc)

-- ---- the run of the differences that end with component t at the axis behind axis j, as a part of the tables
module _
    (r : Run) (j : ℕ) (T : ListTables) (products sums : List ℕ) (M : ModulusTables)
    (s : Sievable r.n j T products sums M) (wide : length T.components ≡ axes * room) (tabled : length products ≡ product_room) (summed : length sums ≡ axes * room)
    (short : r.t < lasts)
    (begin end : ℕ) (b : RunStart T.bounds j r.t begin) (e : RunStart T.bounds j (r.t + 1) end)
    (sums_cut : r.sums.now ≡ cut begin end sums) (components_cut : r.components.now ≡ cut begin end T.components)
    (products_cut : r.products.now ≡ cut (j * places) (j * places + places) products)
  where
    -- the number of its difference i among all
    abbrev number : ℕ → ℕ
    number i = get_or T.bounds (suc j * lasts + r.t) 0 + i

    -- where it stands in the tables
    numbered : (i : ℕ) → begin + i ≡ j * room + number i
    numbered i = omega (arith, b.is)

    -- the next bound, as the code and as the tables have it
    next : get_or T.bounds (suc j * lasts + (r.t + 1)) 0 ≡ get_or T.bounds (suc (suc j * lasts + r.t)) 0
    next = ap (λ (c : ℕ). get_or T.bounds c 0) (omega arith)

    -- its differences are among those of the axis
    low : (i : ℕ) → get_or T.bounds (suc j * lasts) 0 ≤ number i
    low i = omega (arith, bounds_rise T.bounds T.bounded (suc j * lasts) (suc j * lasts + r.t) (omega arith) (omega (arith, short, s.readable.inner)))

    inside : (i : ℕ) → i < end - begin → number i < get_or T.bounds (suc (suc j * lasts + r.t)) 0
    inside i l = omega (arith, b.is, e.is, next)

    high : (i : ℕ) → i < end - begin → number i < get_or T.bounds (suc (suc j) * lasts) 0
    high i l =
        omega (
          arith,
          short,
          inside i l,
          bounds_rise T.bounds T.bounded (suc (suc j * lasts + r.t)) (suc (suc j) * lasts) (omega (arith, short)) (omega (arith, s.readable.inner)),
        )

    -- its components and sums are those of its differences
    same_component : (i : ℕ) → i < end - begin → get_or r.components.now i (pos 0) ≡ get_or T.components (j * room + number i) (pos 0)
    same_component i l =
        ap (λ (xs : List ℤ). get_or xs i (pos 0)) components_cut
        ∙ cut_at begin end T.components (pos 0) i l
        ∙ ap (λ (k : ℕ). get_or T.components k (pos 0)) (numbered i)

    same_sum : (i : ℕ) → i < end - begin → get_or r.sums.now i 0 ≡ get_or sums (j * room + number i) 0
    same_sum i l = ap (λ (xs : List ℕ). get_or xs i 0) sums_cut ∙ cut_at begin end sums 0 i l ∙ ap (λ (k : ℕ). get_or sums k 0) (numbered i)

    -- so are the products
    same_product : (i : ℕ) → i < end - begin → product r i ≡ product_at r.n j T.components products sums (number i)
    same_product i l =
        ap (λ (y : ℤ). get_or r.products.now (place y) 0) (same_component i l)
        ∙ ap (λ (xs : List ℕ). get_or xs (place x) 0) products_cut
        ∙ cut_at (j * places) (j * places + places) products 0 (place x) (omega (arith, place-lt x (s.readable.small.covered (j * room + number i))))
      where
        x : ℤ
        x = get_or T.components (j * room + number i) (pos 0)

    -- and the parts
    same_part : (i : ℕ) → i < end - begin → part r i ≡ part_at r.n j T.components products sums (number i)
    same_part i l =
        ap (λ (x : ℕ). (x + product r i) % r.n) (same_sum i l)
        ∙ ap (λ (x : ℕ). (get_or sums (j * room + number i) 0 + x) % r.n) (same_product i l)

    -- so many differences
    run-size : length r.sums.now ≡ end - begin
    run-size = ap length sums_cut ∙ cut-size begin end sums (omega (arith, e.inside, summed))

    -- it is ready to be struck by
    pub run-ready : PartsReady r
    run-ready = record {
      modulus = s.readable.modulus;
      paired = ap length components_cut ∙ cut-size begin end T.components (omega (arith, e.inside, wide)) ∙ sym run-size;
      table = ap length products_cut ∙ cut-size (j * places) (j * places + places) products (omega (arith, tabled, s.readable.inner)) ∙ omega arith;
      small = λ i l. subst (λ (x : ℤ). nat_abs x ≤ largest_size) (sym (same_component i (inner i l))) (s.readable.small.covered (j * room + number i));
      sums_below = λ i l. subst (λ (x : ℕ). x < r.n) (sym (same_sum i (inner i l))) (s.readable.sums_below (number i) (low i) (high i (inner i l)));
      products_below = λ i l. subst (λ (x : ℕ). x < r.n) (sym (same_product i (inner i l))) (s.readable.products_below (number i) (low i) (high i (inner i l)));
    }
      where
        inner : (i : ℕ) → i < length r.sums.now → i < end - begin
        inner i l = omega (arith, run-size)

    -- what it strikes is forbidden
    pub run_bars : (old new : List Bool) → Struck r old new → MarkedFor r.n (Forbidden r.n j T products sums) old new
    run_bars old new k = record { size = k.size; reason = λ v l m. go v (k.reason v l m) }
      where
        go : (v : ℕ) → Marked old v ⊎ Solves r v → Marked old v ⊎ Forbidden r.n j T products sums v
        go v (inl m) = inl m
        go v (inr w) = inr record {
          last = r.t;
          which = number w.which;
          small = short;
          from = omega arith;
          to = inside w.which (omega (arith, run-size, w.inside));
          solved = ap (λ (c : ℕ). (c + r.t * v) % r.n) (sym (same_part w.which (omega (arith, run-size, w.inside)))) ∙ w.solved;
        }

-- ---- all runs of an axis
-- the table of t is the part of n numbers from its start on
pub table-cut : (n t r : ℕ) (u : Solved) (solutions : List ℕ) → r ≡ n → TableAt n t u solutions → SolutionsSet n t u.step (cut u.start (u.start + r) solutions)
table-cut n t r u solutions e s =
    table_same n t u.step (drop u.start solutions) (cut u.start (u.start + r) solutions)
    (omega (arith, cut-size u.start (u.start + r) solutions (omega (arith, s.inside))))
    (λ c b. get_or-take (u.start + r - u.start) (drop u.start solutions) c 0 (omega arith))
    s.right

-- one run after others
pub barred_more : (n : ℕ) (X : ℕ → Type 0) (old new newer : List Bool) → MarkedFor n X old new → MarkedFor n X new newer → MarkedFor n X old newer
barred_more n X old new newer s k = record { size = k.size ∙ s.size; reason = λ v l m. ⊎_elim (s.reason v l) inr (k.reason v l m) }

-- ---- the marks of an axis
-- This is of any lists: nothing asks that the bounds rise, as they do in the tables of a list. The words are those of specs/Sieve, which say the same of
-- such tables (`table_sieved`)
module _ (n j : ℕ) (components : List ℤ) (bounds products sums : List ℕ) where
  -- v is forbidden by a difference that ends there
  pub record ForbiddenIn (v : ℕ) : Type 0 where
    pub last : ℕ
    pub which : ℕ
    pub small : last < lasts
    pub from : get_or bounds (suc j * lasts + last) 0 ≤ which
    pub to : which < get_or bounds (suc (suc j * lasts + last)) 0
    pub solved : (part_at n j components products sums which + last * v) % n ≡ 0

  -- each mark of the axis is forbidden; the marks of the axes before it stay
  pub record SievedIn (old new : List Bool) : Type 0 where
    pub size : length new ≡ length old
    pub kept : KeptBelow false (suc j * largest_modulus) old new
    pub reason : (v : ℕ) → v < n → Marked new (suc j * largest_modulus + v) → ForbiddenIn v

  -- the marks of one axis put back among all marks
  pub sieved : (old marks : List Bool) (k : ℕ) → suc j < axes → k ≡ suc n → n ≤ largest_modulus → length old ≡ suc (axes * largest_modulus) → length marks ≡ k → ((v : ℕ) → v < n → Marked marks v → ForbiddenIn v) → SievedIn old (pasted ((j + 1) * largest_modulus) k old marks)
  sieved old marks k a e h size same s = record {
    size = pasted-size ((j + 1) * largest_modulus) k old marks fits same;
    kept = λ i l. pasted-before ((j + 1) * largest_modulus) k old marks fits same false i (omega arith);
    reason = λ v l m. s v l (sym (stands v l) ∙ m);
  }
    where
      fits : (j + 1) * largest_modulus + k ≤ length old
      fits = omega arith

      stands : (v : ℕ) → v < n → get_or (pasted ((j + 1) * largest_modulus) k old marks) (suc j * largest_modulus + v) false ≡ get_or marks v false
      stands v l =
          ap (λ (i : ℕ). get_or (pasted ((j + 1) * largest_modulus) k old marks) (i + v) false) (omega arith)
          ∙ pasted_at ((j + 1) * largest_modulus) k old marks fits same false v (omega arith)

-- of the tables of a list
module _ (n j : ℕ) (T : ListTables) (products sums : List ℕ) where
  forbidden-in : (v : ℕ) → Forbidden n j T products sums v → ForbiddenIn n j T.components T.bounds products sums v
  forbidden-in v f = record { last = f.last; which = f.which; small = f.small; from = f.from; to = f.to; solved = f.solved }

  forbidden-out : (v : ℕ) → ForbiddenIn n j T.components T.bounds products sums v → Forbidden n j T products sums v
  forbidden-out v f = record { last = f.last; which = f.which; small = f.small; from = f.from; to = f.to; solved = f.solved }

  pub table_sieved : (old marks : List Bool) (k : ℕ) → suc j < axes → k ≡ suc n → n ≤ largest_modulus → length old ≡ suc (axes * largest_modulus) → length marks ≡ k → ((v : ℕ) → v < n → Marked marks v → Forbidden n j T products sums v) → Sieved n j T products sums old (pasted ((j + 1) * largest_modulus) k old marks)
  table_sieved old marks k a e h size same s = record { size = all.size; kept = all.kept; reason = λ v l m. forbidden-out v (all.reason v l m) }
    where
      all : SievedIn n j T.components T.bounds products sums old (pasted ((j + 1) * largest_modulus) k old marks)
      all = sieved n j T.components T.bounds products sums old marks k a e h size same (λ v l m. forbidden-in v (s v l m))
