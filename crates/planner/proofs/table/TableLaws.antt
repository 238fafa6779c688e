-- The laws of the table: which rows it has, and what `each` gives of them (`found_yielded`); and what adding a row gives (`rows-joined`,
-- then `added-stays`, `added-only`, `added-was`).
use mathlib.Core.Path.{◌≡◌, refl, sym, ◌∙◌, ap, subst}
use mathlib.Core.Logic.{◌⊎◌, ◌≢◌, inl, inr, ⊎_elim}
use mathlib.Core.Bool.{true, true≢false}
use mathlib.Core.List.Memᴰ
use mathlib.Core.List.{List, [], ◌∷◌, ◌++◌, Memᴰ}
use Prim.Native.Nat.{ℕ, suc, ◌+◌, ◌*◌, ◌<◌, ◌≤◌}
use native.Mathlib.Nat.{suc-mul, mul-le-mul_right}
use native.Mathlib.Omega.{arith}
use lib.IntN.{ℤ}
use lib.ListN.{length, take, drop}
use lib.Seq.{paste}
use Rattle.std.specs.declared.iter.Enumerate.{Enumerate}
use Rattle.std.specs.Prelude.{Option, Some, None}
use Rattle.std.specs.Iterator.{Yields}
use denote.Ref.{Bor}
use Rattle.std.specs.Iterator.Adapters.{enumerate_source, enumerate_count}
use Rattle.std.specs.declared.slice.ChunksExact.{ChunksExact}
use Rattle.rank1.specs.Index.{rows_of}
use Rattle.rank1.proofs.IndexLaws.{row_in, row_out, rows-length, member_length}
use Rattle.planner.specs.Sizes.{axes, room, largest_size}
use Rattle.planner.specs.Inner.{Covered, row_at}
use Rattle.planner.specs.Table.{rows_found, Storable, Added, stood, joined, full}
use Rattle.planner.specs.declared.table.Differences.{Differences}
use Rattle.planner.proofs.products.ProductLaws.{covered_take, covered_drop}
use Rattle.planner.proofs.RowLaws.{rows_alone, row_joined, Gives, Begins, run_yielded, NextOf, next_of, numbering, number-turn, number-end}

module _ (t : Differences) (long : length t.rows ≡ room * axes) where
  -- all rows fit in
  pub rows-inside : t.count * t.d ≤ length t.rows
  rows-inside = omega (arith, mul-le-mul_right {m = t.count} {n = room} t.d t.few, t.few_axes)

  -- each has d components, for which there are places in the product tables
  pub row-storable : {k : List ℤ} → Memᴰ k (rows_found t) → Storable t.d k
  row-storable {k} m =
      let p = row_out t.d t.count t.rows k m in
      record {
        size = member_length t.d t.count t.rows k rows-inside m;
        small = subst (Covered largest_size) (sym p.is)
            (covered_take largest_size t.d (drop (p.index * t.d) t.rows) (covered_drop largest_size (p.index * t.d) t.rows t.small));
      }

  -- what `each` lends gives them
  pub found_yielded : {s : ChunksExact ℤ} → Begins t.d (take (t.count * t.d) t.rows) s → Gives s (rows_found t)
  found_yielded {s} begins = subst (Gives s) (rows_alone t.d t.count t.rows t.some_axes rows-inside) (run_yielded s t.some_axes begins)

  -- a loop that numbers them
  module _ (s : Enumerate (ChunksExact ℤ)) (begins : Begins t.d (take (t.count * t.d) t.rows) (enumerate_source s) × (enumerate_count s ≡ 0)) (ys : List (ℕ × Bor (List ℤ)))
      (v u : Enumerate (ChunksExact ℤ)) (y : Yields numbering s ys v) {r : Option (ℕ × Bor (List ℤ))} where
    pub next-found : {i : ℕ} {x : Bor (List ℤ)} → r ≡ Some (i, x) → numbering v r u → NextOf t.d t.count t.rows (length ys) i x.now
    next-found is e = next_of rows-inside (number-turn s (found_yielded begins.0) begins.1 ys v u y is e)

    pub no-found : r ≡ None → numbering v r u → length ys ≡ t.count
    no-found is e = number-end s (found_yielded begins.0) begins.1 ys v u y is e ∙ rows-length t.d t.count t.rows

  -- there is room for one more row
  pub next-room : t.count ≢ room → t.count * t.d + t.d ≤ length t.rows
  next-room z = omega (arith, suc-mul t.count t.d, mul-le-mul_right {m = suc t.count} {n = room} t.d (omega (arith, t.few)), t.few_axes)

  -- a row that is copied behind the others is the next one
  pub rows-joined :
      (h rows : List ℤ) → length h ≡ t.d → t.count ≢ room → rows ≡ paste t.rows (t.count * t.d) h t.d
      → rows_of t.d (t.count + 1) rows ≡ rows_found t ++ (h ∷ [])
  rows-joined h rows size few e = ap (rows_of t.d (t.count + 1)) e ∙ row_joined t.d t.count t.rows h size (next-room few)

-- where row i is h, h stands in the table
pub row-found : (t : Differences) (i : ℕ) (h : List ℤ) → i < t.count → row_at t.d t.rows i ≡ h → Memᴰ h (rows_found t)
row-found t i h l e = Memᴰ.cast (sym e) (row_in t.d t.count t.rows i l)

module _ (h : List ℤ) (t t' : Differences) where
  -- the rows have as many numbers as before
  pub added-axes : Added h t t' → t'.d ≡ t.d
  added-axes (stood e m) = ap (λ (u : Differences). u.d) e
  added-axes (joined a e w) = a
  added-axes (full a e w) = a

  -- every row stays in it
  pub added-stays : Added h t t' → (k : List ℤ) → Memᴰ k (rows_found t) → Memᴰ k (rows_found t')
  added-stays (stood e m) k n = subst (λ (u : Differences). Memᴰ k (rows_found u)) (sym e) n
  added-stays (joined a e w) k n = subst (Memᴰ k) (sym e) (Memᴰ.append_left (h ∷ []) n)
  added-stays (full a e w) k n = subst (Memᴰ k) (sym e) n

  -- and no other is but h
  pub added-only : Added h t t' → (k : List ℤ) → Memᴰ k (rows_found t') → Memᴰ k (rows_found t) ⊎ (k ≡ h)
  added-only (stood e m) k n = inl (subst (λ (u : Differences). Memᴰ k (rows_found u)) e n)
  added-only (joined a e w) k n =
      ⊎_elim inl (λ o. inr (Memᴰ.eq_of_singleton o)) (Memᴰ.append_cases (rows_found t) (subst (Memᴰ k) e n))
  added-only (full a e w) k n = inl (subst (Memᴰ k) e n)

  -- it is whole only where it was, and has h then
  pub added-was : Added h t t' → t'.whole ≡ true → (t.whole ≡ true) × Memᴰ h (rows_found t')
  added-was (stood e m) w = (ap (λ (u : Differences). u.whole) (sym e) ∙ w, subst (λ (u : Differences). Memᴰ h (rows_found u)) (sym e) m)
  added-was (joined a e v) w = (sym v ∙ w, subst (Memᴰ h) (sym e) (Memᴰ.append_right (rows_found t) (Memᴰ.head refl)))
  added-was (full a e v) w = absurd (true≢false (sym w ∙ v))
