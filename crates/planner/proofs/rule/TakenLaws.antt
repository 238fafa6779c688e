-- Plan A by a table of taken residues. The rule holds just where the residues left to pass are different and free in the table
-- (Untaken): so it is at the start, with all residues of M left; one more taken residue keeps it; a residue found taken refutes the
-- rule; and where none is left the rule holds. Behind that: what is left, row by row and mirror by mirror.
use mathlib.Core.Path.{◌≡◌, refl, sym, ◌∙◌, ap, subst}
use mathlib.Core.Bool.{Bool, true, false, true≢false}
use mathlib.Core.Logic.Iff
use mathlib.Core.Logic.{◌↔◌, ◌≢◌, ⊎_elim}
use mathlib.Core.List.Memᴰ
use mathlib.Core.List.{List, [], ◌∷◌, ◌++◌, map, map-append, Memᴰ}
use Prim.Native.Nat.{ℕ, ◌+◌, ◌<◌, ◌≤◌}
use native.Mathlib.Numerals.{add-one}
use lib.IntN.{ℤ, pos}
use lib.ListN.{length, get_or, drop, set}
use lib.Seq.{drop-cons, get_or-set_same, get_or-set_other}
use Rattle.std.specs.Slice.Iter.{chunks_exact_rest}
use Rattle.std.specs.declared.slice.ChunksExact.{ChunksExact}
use Rattle.rank1.specs.Residue.{dot, residue_at}
use Rattle.rank1.specs.Index.{mirrors, mirrored, index_list}
use Rattle.rank1.specs.Named.{plan_number}
use Rattle.rank1.specs.Rule.{PlanA}
use Rattle.rank1.specs.Valid.{Distinct}
use Rattle.rank1.proofs.ResidueLaws.{residue-lt}
use Rattle.rank1.proofs.Distinct.{distinct_map, map_distinct, member_at}
use Rattle.rank1.proofs.MirrorLaws.{mirrored_distinct}
use Rattle.planner.specs.Inner.{Clear}
use Rattle.planner.specs.Lists.{rows_in, residue_by}
use Rattle.planner.specs.declared.lattice.Lattice.{Lattice}

-- ---- numbers that are different and free: none of them is taken in the table
pub record Untaken (table : List Bool) (xs : List ℕ) : Type 0 where
  pub different : Distinct xs
  pub free : (x : ℕ) → Memᴰ x xs → get_or table x false ≡ false

-- where nothing is taken, different numbers are free
free_all : (n : ℕ) (table : List Bool) (xs : List ℕ) → Clear n table → ((x : ℕ) → Memᴰ x xs → x < n) → Distinct xs ↔ Untaken table xs
free_all n table xs e below = ((λ h. record { different = h; free = λ x m. e x (below x m) }), (λ h. h.different))

-- once a free number is taken, those behind it are free just where it and they were before
free_more : (table : List Bool) (xs : List ℕ) (r : ℕ) → r < length table → get_or table r false ≡ false → Untaken table (r ∷ xs) ↔ Untaken (set table r true) xs
free_more table xs r l e = (after, before)
  where
    after : Untaken table (r ∷ xs) → Untaken (set table r true) xs
    after h = record {
      different = h.different.1;
      free = λ x m. get_or-set_other table r x true false (λ p. h.different.0 (Memᴰ.cast (sym p) m)) ∙ h.free x (Memᴰ.tail m);
    }

    other : Untaken (set table r true) xs → (x : ℕ) → Memᴰ x xs → x ≢ r
    other h x m p =
        true≢false (sym (get_or-set_same table r true false l) ∙ ap (λ (k : ℕ). get_or (set table r true) k false) (sym p) ∙ h.free x m)

    before : Untaken (set table r true) xs → Untaken table (r ∷ xs)
    before h = record {
      different = ((λ m. other h r m refl), h.different);
      free = λ x m.
          ⊎_elim
          (λ p. ap (λ (k : ℕ). get_or table k false) p ∙ e)
          (λ i. sym (get_or-set_other table r x true false (other h x i)) ∙ h.free x i)
          (Memᴰ.cases_cons m);
    }

-- ---- a rule that holds just where the numbers left are different and free
module _ {rule : Type 0} (table : List Bool) (left : List ℕ) (same : rule ↔ Untaken table left) where
  -- the next number r is free and is taken
  pub taken_more : {xs : List ℕ} {r : ℕ} → left ≡ r ∷ xs → r < length table → get_or table r false ≡ false → rule ↔ Untaken (set table r true) xs
  taken_more {xs} {r} e l f = Iff.trans (rw e at same) (free_more table xs r l f)

  -- the next number r is taken already: the rule does not hold
  pub taken_clash : {xs : List ℕ} {r : ℕ} → left ≡ r ∷ xs → get_or table r false ≡ true → rule → ⊥
  taken_clash {xs} {r} e t h = true≢false (sym t ∙ (same.0 h).free r (rw e (Memᴰ.head refl)))

  -- no number is left: the rule holds
  pub taken_all : left ≡ [] → rule
  taken_all e = same.1 (rw e (record { different = tt; free = λ x m. absurd (Memᴰ.not-nil m) }))

-- different rows of M: the rule of plan A is that their residues are different
plan_a : (ks : List (List ℤ)) (n : ℕ) (z : List ℤ) → Distinct (mirrored ks) → PlanA ks n z ↔ Distinct (map (residue_at n z) (mirrored ks))
unfolding PlanA
plan_a ks n z d = (distinct_map (residue_at n z) (mirrored ks) d, map_distinct (residue_at n z) (mirrored ks))

-- ---- the residues of a lattice's rows that are left to pass
module _ (lattice : Lattice) where
  -- the rows that an iterator still gives
  abbrev pub ahead : ChunksExact ℤ → List (List ℤ)
  ahead s = index_list lattice.rows.d (chunks_exact_rest s)

  -- the residues of the mirrors of the rows that are left
  abbrev pub rows_left : List (List ℤ) → List ℕ
  rows_left ks = map (residue_by lattice) (mirrored ks)

  -- those of `out`, the mirrors of a row, from t on, and of the rows behind it
  abbrev pub mirrors_left : List ℕ → ℕ → List (List ℤ) → List ℕ
  mirrors_left out t ks = drop t out ++ rows_left ks

  residues_below : (ss : List (List ℤ)) (x : ℕ) → Memᴰ x (map (residue_by lattice) ss) → x < lattice.n
  residues_below ss x m =
      let r = Memᴰ.of_map (residue_by lattice) ss m in
      subst (λ (k : ℕ). k < lattice.n) r.2 (residue-lt lattice.n (dot r.0 (map pos lattice.z.now)) lattice.ready.modulus.low)

  -- at the start, with no residue taken: the rule holds just where all residues are different and free
  pub rows_start : {table : List Bool} → 2 ≤ plan_number lattice.rows.plan → Clear lattice.n table → PlanA (rows_in lattice.rows) lattice.n (map pos lattice.z.now) ↔ Untaken table (rows_left (rows_in lattice.rows))
  rows_start {table} low e =
      let rows = lattice.rows in
      Iff.trans
      (plan_a (rows_in rows) lattice.n (map pos lattice.z.now) (mirrored_distinct (rows_in rows) rows.valid.different (rows.valid.unsigned low)))
      (free_all lattice.n table (rows_left (rows_in rows)) e (residues_below (mirrored (rows_in rows))))

  -- the next residue to pass is r
  pub record Next (out : List ℕ) (ks : List (List ℤ)) (t r : ℕ) : Type 0 where
    pub below : r < lattice.n
    pub next : mirrors_left out t ks ≡ r ∷ mirrors_left out (t + 1) ks

  module _ (k : List ℤ) (ks : List (List ℤ)) {out : List ℕ} (h : out ≡ map (residue_by lattice) (mirrors k)) where
    -- a row begins: its mirrors come first
    pub row_begins : rows_left (k ∷ ks) ≡ mirrors_left out 0 ks
    row_begins = map-append (residue_by lattice) (mirrors k) (mirrored ks) ∙ ap (λ (ys : List ℕ). ys ++ rows_left ks) (sym h)

    -- the next one stands at place t
    pub mirror-next : {r : ℕ} (t : ℕ) → t < length out → r ≡ get_or out t 0 → Next out ks t r
    mirror-next t l is = subst (Next out ks t) (sym is) (record {
      below = residues_below (mirrors k) (get_or out t 0) (subst (Memᴰ (get_or out t 0)) h (member_at out 0 t l));
      next = ap (λ (ys : List ℕ). ys ++ rows_left ks) (drop-cons out t 0 l) ∙ ap (λ (u : ℕ). get_or out t 0 ∷ mirrors_left out u ks) (sym (add-one t));
    })
