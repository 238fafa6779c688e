-- The recount: its size is the sum over the rows of how many mirrors each has, at most 64 a row; a row more adds its own. The
-- recount of a valid list is never refused.
use mathlib.Core.Path.{◌≡◌, refl, sym, ◌∙◌, ap, subst}
use mathlib.Core.Bool.{Bool, true, false, cond, ◌||◌, true≢false}
use mathlib.Core.List.Memᴰ
use mathlib.Core.List.{List, [], ◌∷◌, ◌++◌, Memᴰ}
use Prim.Native.Nat.{ℕ, ◌+◌, ◌*◌, ◌≤◌}
use native.Mathlib.Numerals.{add-one}
use native.Mathlib.Omega.{arith}
use borrow.Author.Tests.{leb-true, eqb-true, eqb-false}
use lib.Count.{ones}
use lib.Dec.{eqb, leb}
use lib.IntN.{ℤ}
use lib.ListN.{length, take, drop, length-append}
use Rattle.rank1.specs.declared.Tally.{Tally}
use Rattle.rank1.specs.Tests.{same_row}
use Rattle.rank1.specs.Index.{zero_row, mirrors, nonzeros, mirrored, rows_of, row_count, index_list}
use Rattle.rank1.specs.Sums.{mirrors_under}
use Rattle.rank1.specs.Tally.{different, size_kept, zero_in, recount}
use Rattle.rank1.specs.Refusal.{bad_plan, bad_tally, least_refusal}
use Rattle.rank1.specs.Valid.{Distinct, ValidList, ValidTally}
use Rattle.rank1.proofs.TestLaws.{decided_is, decides_row}
use Rattle.rank1.proofs.MirrorLaws.{mirrored_distinct}
use Rattle.rank1.proofs.SumLaws.{under-length}
use Rattle.rank1.proofs.IndexLaws.{rows-length, rows_snoc, member_length}
use Rattle.rank1.proofs.RefusalLaws.{first_of_none}
use Rattle.rank1.proofs.ValidLaws.{plan_clear, tally_clear}
use Rattle.rank1.proofs.LongerLaws.{any-more, Longer}
use Rattle.rank1.proofs.BoundLaws.{ValidRows, different-length, valid_rows}
use Rattle.lists.specs.Rows.{most_axes, on_axes}
use Rattle.lists.specs.Inner.{members, summed, more, Addable}
use Rattle.lists.proofs.MaskLaws.{on_axes_lem, mask_none, mask_some}

-- a record by its fields
abbrev tally : ℕ → ℕ → Bool → Tally
tally m s b = record { m = m; size = s; zero = b }

-- ---- the sum over the rows
-- at most 64 a row
pub members_few : (plan : ℕ) (ks : List (List ℤ)) → ((k : List ℤ) → Memᴰ k ks → length k ≤ 6) → members plan ks ≤ 64 * length ks
members_few plan [] f = omega arith
members_few plan (k ∷ ks) f =
    omega (arith, under-length plan k (f k (Memᴰ.head refl)), members_few plan ks (λ l m. f l (Memᴰ.tail m)))

-- a row more adds its own
pub members-more : (plan : ℕ) (ks : List (List ℤ)) (k : List ℤ) → members plan (ks ++ (k ∷ [])) ≡ members plan ks + length (mirrors_under plan k)
members-more plan [] k = omega arith
members-more plan (l ∷ ks) k = omega (arith, members-more plan ks k)

-- for plans 2, 3 and 4 they are the members of M, for plans 0 and 1 the rows
members-mirrored : (plan : ℕ) (ks : List (List ℤ)) → leb 2 plan ≡ true → members plan ks ≡ length (mirrored ks)
members-mirrored plan [] e = refl
members-mirrored plan (k ∷ ks) e =
    ap (λ (b : Bool). length (cond b (mirrors k) (k ∷ [])) + members plan ks) e
    ∙ ap (λ (c : ℕ). length (mirrors k) + c) (members-mirrored plan ks e)
    ∙ sym (length-append (mirrors k) (mirrored ks))

members-rows : (plan : ℕ) (ks : List (List ℤ)) → leb 2 plan ≡ false → members plan ks ≡ length ks
members-rows plan [] e = refl
members-rows plan (k ∷ ks) e =
    ap (λ (b : Bool). length (cond b (mirrors k) (k ∷ [])) + members plan ks) e ∙ omega (arith, members-rows plan ks e)

-- the size of M as a set is the sum over the rows
pub size-members : (plan d : ℕ) (ks : List (List ℤ)) → ValidRows plan d ks → size_kept plan ks ≡ members plan ks
size-members plan d ks v = go (leb 2 plan) refl
  where
    go : (b : Bool) → leb 2 plan ≡ b → cond b (different (mirrored ks)) (length ks) ≡ members plan ks
    go true e = different-length (mirrored ks) (mirrored_distinct ks v.different (v.unsigned (leb-true 2 plan e))) ∙ sym (members-mirrored plan ks e)
    go false e = sym (members-rows plan ks e)

-- so the list may be counted row by row
pub recount-summed : (plan d : ℕ) (ks : List (List ℤ)) → ValidRows plan d ks → recount plan d ks ≡ summed plan d ks
recount-summed plan d ks v = ap (λ (s : ℕ). tally (length ks) s (zero_in d ks)) (size-members plan d ks v)

-- ---- a part of valid rows
pub rows-part : (plan d : ℕ) (ks : List (List ℤ)) (k : List ℤ) → ValidRows plan d (ks ++ (k ∷ [])) → ValidRows plan d ks
rows-part plan d ks k v = record {
  long = λ l m. v.long l (Memᴰ.append_left (k ∷ []) m);
  different = front ks v.different;
  unsigned = λ h l m. v.unsigned h l (Memᴰ.append_left (k ∷ []) m);
}
  where
    front : (ls : List (List ℤ)) → Distinct (ls ++ (k ∷ [])) → Distinct ls
    front [] h = tt
    front (l ∷ ls) h = ((λ m. h.0 (Memᴰ.append_left (k ∷ []) m)), front ls h.1)

-- the zero row is in only where there is a row
pub zero_some : (d : ℕ) (ks : List (List ℤ)) → zero_in d ks ≡ true → 1 ≤ length ks
zero_some d [] e = absurd (true≢false (sym e))
zero_some d (k ∷ ks) e = omega arith

-- ---- one row more: the record of the longer list from the record of the list and the row
pub summed-more : (plan d : ℕ) (ks : List (List ℤ)) (k : List ℤ) → summed plan d (ks ++ (k ∷ [])) ≡ more plan d (summed plan d ks) k
summed-more plan d ks k =
    ap (λ (a : ℕ). tally a (members plan (ks ++ (k ∷ []))) (zero_in d (ks ++ (k ∷ [])))) (length-append ks (k ∷ []))
    ∙ ap (λ (a : ℕ). tally (length ks + 1) a (zero_in d (ks ++ (k ∷ [])))) (members-more plan ks k)
    ∙ ap (λ (a : Bool). tally (length ks + 1) (members plan ks + length (mirrors_under plan k)) a) (any-more (same_row (zero_row d)) ks k)

pub recount-more : (plan d : ℕ) (ks : List (List ℤ)) (k : List ℤ) → ValidRows plan d (ks ++ (k ∷ [])) → recount plan d (ks ++ (k ∷ [])) ≡ more plan d (recount plan d ks) k
recount-more plan d ks k v =
    recount-summed plan d (ks ++ (k ∷ [])) v
    ∙ summed-more plan d ks k
    ∙ ap (λ (t : Tally). more plan d t k) (sym (recount-summed plan d ks (rows-part plan d ks k v)))

-- ---- what is counted of a row: its mirrors, and whether its mask is 0
pub more_is : (plan : ℕ) (t : Tally) (k : List ℤ) (c mask : ℕ) → length k ≤ most_axes → c ≡ length (mirrors_under plan (on_axes k)) → ones mask ≡ nonzeros (on_axes k) → tally (t.m + 1) (t.size + c) (t.zero || eqb mask 0) ≡ more plan (length k) t k
more_is plan t k c mask short e f =
    ap (λ (x : ℕ). tally (t.m + 1) (t.size + x) (t.zero || eqb mask 0)) (e ∙ ap (λ (l : List ℤ). length (mirrors_under plan l)) (on_axes_lem k short))
    ∙ ap (λ (b : Bool). tally (t.m + 1) (t.size + length (mirrors_under plan k)) (t.zero || b)) zero_row_lem
  where
    bits : ones mask ≡ nonzeros k
    bits = f ∙ ap nonzeros (on_axes_lem k short)

    zero_row_lem : eqb mask 0 ≡ same_row (zero_row (length k)) k
    zero_row_lem =
        decided_is (eqb mask 0) (same_row (zero_row (length k)) k) (decides_row (zero_row (length k)) k)
        (λ h. sym (mask_none k mask bits (eqb-true mask 0 h)))
        (λ h p. mask_some k mask bits (eqb-false mask 0 h) (sym p))

-- ---- the first i rows of a run, row by row: the next one is the d numbers from place i × d on
pub counted-turn : (plan d : ℕ) (xs : List ℤ) (i : ℕ) (t r : Tally) (row : List ℤ) → row ≡ take d (drop (i * d) xs) → length row ≡ d → t ≡ summed plan d (rows_of d i xs) → r ≡ more plan (length row) t row → r ≡ summed plan d (rows_of d (i + 1) xs)
counted-turn plan d xs i t r row next long so_far g =
    g
    ∙ ap (λ (k : ℕ). more plan k t row) long
    ∙ ap (more plan d t) next
    ∙ ap (λ (u : Tally). more plan d u (take d (drop (i * d) xs))) so_far
    ∙ sym (summed-more plan d (rows_of d i xs) (take d (drop (i * d) xs)))
    ∙ ap (summed plan d) (sym (rows_snoc d i xs))
    ∙ ap (λ (k : ℕ). summed plan d (rows_of d k xs)) (sym (add-one i))

-- a row can be added to their record
pub counted_addable : (plan d : ℕ) (xs : List ℤ) (i : ℕ) (t : Tally) (k : List ℤ) → i ≤ 512 → d ≤ 6 → i * d ≤ length xs → length k ≡ d → t ≡ summed plan d (rows_of d i xs) → Addable t k
counted_addable plan d xs i t k l few h long e = record {
  short = omega (arith, long);
  few_rows = subst (λ (u : Tally). u.m ≤ 512) (sym e) (omega (arith, rows-length d i xs));
  small = subst (λ (u : Tally). u.size ≤ 64 * u.m) (sym e) (members_few plan (rows_of d i xs) (λ l m. omega (arith, member_length d i xs l h m)));
}

-- ---- a row more: where conditions 2 to 5 let the longer list through
module _ (plan d : ℕ) (xs row : List ℤ) (l : Longer plan d xs row) where
  longer_rows : ValidRows plan d (index_list d xs ++ (row ∷ []))
  longer_rows = subst (ValidRows plan d) l.rows (valid_rows plan d (xs ++ row) l.valid)

  -- the list itself, counted row by row
  pub counted_is : (u : Tally) → u ≡ summed plan d (index_list d xs) → u ≡ recount plan d (index_list d xs)
  counted_is u e = e ∙ sym (recount-summed plan d (index_list d xs) (rows-part plan d (index_list d xs) row longer_rows))

  -- and with the row
  pub longer_is : (u r : Tally) → u ≡ summed plan d (index_list d xs) → r ≡ more plan (length row) u row → r ≡ recount plan d (index_list d (xs ++ row))
  longer_is u r e g =
      g
      ∙ ap (λ (k : ℕ). more plan k u row) l.long
      ∙ ap (λ (w : Tally). more plan d w row) (counted_is u e)
      ∙ sym (recount-more plan d (index_list d xs) row longer_rows)
      ∙ ap (recount plan d) (sym l.rows)

-- ---- the recount of a valid list
module _ (plan d : ℕ) (xs : List ℤ) (v : ValidList plan d xs) where
  abbrev rows : List (List ℤ)
  rows = index_list d xs

  -- at most 64 members a row
  size_few : size_kept plan rows ≤ 64 * length rows
  size_few =
      subst (λ (c : ℕ). c ≤ 64 * length rows) (sym (size-members plan d rows (valid_rows plan d xs v)))
      (members_few plan rows (λ k m. omega (arith, (valid_rows plan d xs v).long k m, v.few_axes)))

  pub recount_valid : ValidTally (recount plan d rows)
  recount_valid = record {
    few_rows = omega (arith, rows-length d (row_count d xs) xs, v.few_rows);
    small = size_few;
    some_row = λ e o. omega (arith, zero_some d rows e);
  }

  -- it is never refused
  pub recount_kept : plan ≤ 4 → least_refusal plan (recount plan d rows) ≡ 0
  unfolding least_refusal
  recount_kept p =
      (first_of_none (bad_plan plan) (bad_tally (recount plan d rows) ∷ [])).1
      ((plan_clear plan).1 p, (first_of_none (bad_tally (recount plan d rows)) []).1 ((tally_clear (recount plan d rows)).1 recount_valid, refl))
