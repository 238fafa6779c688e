-- Solutions of c + t v = 0 modulo n: the walk that sets their table, and the steps between them.
use mathlib.Core.Path.{◌≡◌, sym, ◌∙◌, ap, subst}
use mathlib.Core.List.{List, ◌++◌}
use Rattle.std.proofs.Common.{Some, None}
use Rattle.std.proofs.lemmas.Option.{same_Some}
use Prim.Native.Nat.{ℕ, suc, ◌+◌, ◌*◌, ◌-◌, ◌%◌, ◌<◌, ◌≤◌}
use native.Mathlib.Nat.{zero-add, zero-mul, zero-mod, mul-one, mul-add, mul_assoc, add-mod, add-mod-mod, mod-add-mod, add_assoc, mul-zero, mul-suc, mod_self}
use native.Mathlib.Decide.{ℕ_discrete}
use native.Mathlib.Omega.{arith}
use lib.ListN.{length, get_or, set, drop, length-set, length-drop, length-append, get_or-append}
use lib.Seq.{get_or-drop, get_or-set_same, get_or-set_other}
use Rattle.rank1.proofs.Modulo.{mod-mul_left}
use Rattle.planner.specs.declared.tables.ModulusTables.{ModulusTables}
use Rattle.planner.specs.declared.tables.Solved.{Solved}
use Rattle.planner.specs.Sieve.{Steps, Solutions, SolutionsSet, TableAt, TablesTo}
use Rattle.planner.specs.Sizes.{lasts, solution_room}
use Rattle.planner.proofs.sieve.Parts.{pasted, pasted-size, pasted-before, pasted_at}

-- ---- steps
-- one step more
pub steps-more : (v step w : ℕ) → Steps v step w → Steps v step (w + step)
steps-more v step w s =
    (suc s.0, ap (λ (x : ℕ). x + step) s.1 ∙ add_assoc v (step * s.0) step ∙ ap (λ (x : ℕ). v + x) (sym (mul-suc step s.0)))

-- a number of periods behind a solution is a solution
pub steps_solve : (n t c v step w : ℕ) → (t * step) % n ≡ 0 → Steps v step w → (c + t * v) % n ≡ 0 → (c + t * w) % n ≡ 0
steps_solve n t c v step w p s e =
    ap (λ (x : ℕ). (c + t * x) % n) s.1
    ∙ ap (λ (x : ℕ). x % n) regroup
    ∙ add-mod (c + t * v) (t * step * s.0) n
    ∙ ap (λ (x : ℕ). (x + (t * step * s.0) % n) % n) e
    ∙ ap (λ (x : ℕ). (0 + x) % n) periods
    ∙ zero-mod n
  where
    regroup : c + t * (v + step * s.0) ≡ (c + t * v) + t * step * s.0
    regroup = omega (arith, mul-add t v (step * s.0), mul_assoc t step s.0)

    periods : (t * step * s.0) % n ≡ 0
    periods =
        sym (mod-mul_left (t * step) s.0 n)
        ∙ ap (λ (x : ℕ). (x * s.0) % n) p
        ∙ ap (λ (x : ℕ). x % n) (zero-mul s.0)
        ∙ zero-mod n

-- ---- the walk
-- p and the residue of its negative
pub negative_sum : (n p r : ℕ) → p ≤ n → r ≡ (n - p) % n → (r + p) % n ≡ 0
negative_sum n p r l e = ap (λ (x : ℕ). (x + p) % n) e ∙ mod-add-mod (n - p) n p ∙ ap (λ (x : ℕ). x % n) whole ∙ mod_self n
  where
    whole : n - p + p ≡ n
    whole = omega arith

-- with no solution set: the first n places hold n
pub solutions_none : (n t : ℕ) (xs rest : List ℕ) → length xs ≡ n → ((c : ℕ) → c < n → get_or xs c 0 ≡ n) → Solutions n t (xs ++ rest)
solutions_none n t xs rest l f = record {
  size = omega (arith, length-append xs rest);
  high = λ c h. omega (arith, get_or-append xs rest 0 c (omega arith), f c h);
  right = λ c h o. absurd (omega (arith, get_or-append xs rest 0 c (omega arith), f c h));
}

-- one solution more
pub solutions_more : (n t : ℕ) (xs : List ℕ) (c v : ℕ) → c < n → v ≤ n → (c + t * v) % n ≡ 0 → Solutions n t xs → Solutions n t (set xs c v)
solutions_more n t xs c v l m e s = record {
  size = omega (arith, length-set xs c v, s.size);
  high = λ a b. high a b (ℕ_discrete a c);
  right = λ a b. go a b (ℕ_discrete a c);
}
  where
    new : get_or (set xs c v) c 0 ≡ v
    new = get_or-set_same xs c v 0 (omega (arith, s.size))

    high : (a : ℕ) → a < n → Dec (a ≡ c) → get_or (set xs c v) a 0 ≤ n
    high a b (yes q) = omega (arith, ap (λ (i : ℕ). get_or (set xs c v) i 0) q, new)
    high a b (no q) = omega (arith, get_or-set_other xs c a v 0 q, s.high a b)

    go : (a : ℕ) → a < n → Dec (a ≡ c) → get_or (set xs c v) a 0 < n → (a + t * get_or (set xs c v) a 0) % n ≡ 0
    go a b (yes q) = λ _.
        ap (λ (i : ℕ). (i + t * get_or (set xs c v) i 0) % n) q
        ∙ ap (λ (x : ℕ). (c + t * x) % n) new
        ∙ e
    go a b (no q) = subst (λ (x : ℕ). x < n → (a + t * x) % n ≡ 0) (sym (get_or-set_other xs c a v 0 q)) (s.right a b)

-- 0 solves for 0
pub zero_solves : (n t : ℕ) → (0 + t * 0) % n ≡ 0
zero_solves n t = ap (λ (x : ℕ). (0 + x) % n) (mul-zero t) ∙ zero-mod n

-- from the c of v to that of v + 1, by what t lacks
pub next_solves : (n t c v down : ℕ) → (c + t * v) % n ≡ 0 → (down + t % n) % n ≡ 0 → ((c + down) % n + t * (v + 1)) % n ≡ 0
next_solves n t c v down e f =
    mod-add-mod (c + down) n (t * (v + 1))
    ∙ ap (λ (x : ℕ). x % n) regroup
    ∙ add-mod (c + t * v) (down + t) n
    ∙ ap (λ (x : ℕ). (x + (down + t) % n) % n) e
    ∙ ap (λ (x : ℕ). (0 + x) % n) (sym (add-mod-mod down t n) ∙ f)
    ∙ zero-mod n
  where
    regroup : c + down + t * (v + 1) ≡ (c + t * v) + (down + t)
    regroup = omega (arith, mul-add t v 1, mul-one t)

-- a v whose c is 0 is a period
pub period : (n t c v : ℕ) → c ≡ 0 → (c + t * v) % n ≡ 0 → (t * v) % n ≡ 0
period n t c v e f = ap (λ (x : ℕ). x % n) (sym (zero-add (t * v)) ∙ ap (λ (x : ℕ). x + t * v) (sym e)) ∙ f

-- ---- tables
-- a table is known by its first n numbers
pub table_same : (n t step : ℕ) (xs ys : List ℕ) → n ≤ length ys → ((c : ℕ) → c < n → get_or ys c 0 ≡ get_or xs c 0) → SolutionsSet n t step xs → SolutionsSet n t step ys
table_same n t step xs ys l same s = record {
  table = record {
    size = l;
    high = λ c b. omega (arith, same c b, s.table.high c b);
    right = λ c b. subst (λ (x : ℕ). x < n → (c + t * x) % n ≡ 0) (sym (same c b)) (s.table.right c b);
  };
  some = s.some;
  few = s.few;
  period = s.period;
}

-- the table of t, where a part that holds it was put in place
pub table-pasted : (n t at k step : ℕ) (xs part : List ℕ) → k ≡ n → at + k ≤ length xs → length part ≡ k → SolutionsSet n t step part → TableAt n t (record { start = at; step = step }) (pasted at k xs part)
table-pasted n t at k step xs part e within size s = record {
  inside = inner;
  right =
      table_same n t step part (drop at (pasted at k xs part)) (simp length-drop (omega (arith, inner)))
      (λ c b. get_or-drop at (pasted at k xs part) c 0 ∙ pasted_at at k xs part within size 0 c (omega arith)) s;
}
  where
    inner : at + n ≤ length (pasted at k xs part)
    inner = omega (arith, pasted-size at k xs part within size)

-- a table that stands before the part
pub table_kept : (n t at k : ℕ) (u : Solved) (xs part : List ℕ) → u.start + n ≤ at → at + k ≤ length xs → length part ≡ k → TableAt n t u xs → TableAt n t u (pasted at k xs part)
table_kept n t at k u xs part l within size s = record {
  inside = inner;
  right =
      table_same n t u.step (drop u.start xs) (drop u.start (pasted at k xs part)) (simp length-drop (omega (arith, inner)))
      (λ c b. get_or-drop u.start (pasted at k xs part) c 0 ∙ pasted-before at k xs part within size 0 (u.start + c) (omega arith) ∙ sym (get_or-drop u.start xs c 0))
      s.right;
}
  where
    inner : u.start + n ≤ length (pasted at k xs part)
    inner = omega (arith, pasted-size at k xs part within size)

-- one more table, of t, behind the others
pub tables_more :
    (n t at k r : ℕ) (M : ModulusTables) (part : List ℕ) → length M.solutions ≡ solution_room → length M.solved ≡ lasts → t < lasts → k ≡ n → at + n ≤ solution_room → length part ≡ k → SolutionsSet n t r part
    → TablesTo n at M → TablesTo n (at + n) (record { solutions = pasted at k M.solutions part; solved = set M.solved t (Some record { start = at; step = r }) })
tables_more n t at k r M part wide places low e fits size new s = record {
  solved = λ i u l m. (all i u l m (ℕ_discrete i t)).0;
  high = fits;
  before = λ i u l m. (all i u l m (ℕ_discrete i t)).1;
}
  where
    within : at + k ≤ length M.solutions
    within = omega (arith, wide)

    added : Solved
    added = record { start = at; step = r }

    -- each stands, and before the new end: that of t is the new one, and the others are as they were
    all : (i : ℕ) (u : Solved) → i < lasts → get_or (set M.solved t (Some added)) i None ≡ Some u → Dec (i ≡ t) → TableAt n i u (pasted at k M.solutions part) × (u.start + n ≤ at + n)
    all i u l m (yes q) =
        subst (λ (w : Solved). TableAt n i w (pasted at k M.solutions part) × (w.start + n ≤ at + n)) same
        (subst (λ (w : ℕ). TableAt n w added (pasted at k M.solutions part)) (sym q) (table-pasted n t at k r M.solutions part e within size new), omega arith)
      where
        same : added ≡ u
        same = same_Some added u (sym (get_or-set_same M.solved t (Some added) None (omega (arith, places))) ∙ ap (λ (w : ℕ). get_or (set M.solved t (Some added)) w None) (sym q) ∙ m)
    all i u l m (no q) =
        (table_kept n i at k u M.solutions part (s.before i u l old) within size (s.solved i u l old), omega (arith, s.before i u l old))
      where
        old : get_or M.solved i None ≡ Some u
        old = sym (get_or-set_other M.solved t i (Some added) None q) ∙ m
