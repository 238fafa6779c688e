-- The bound: every smaller modulus is hopeless. Under plans 1 and C the rows have different residues. Under plans A and B so
-- have, beside residue 0, the rows of a list that holds with a row its negative: M without the zero row, and the rows other
-- than the zero row with their negatives.
use mathlib.Core.Path.{◌≡◌, refl, sym, ◌∙◌, ap, subst}
use mathlib.Core.Logic.{◌≢◌, ◌⊎◌, inl, inr, ⊎_elim}
use mathlib.Core.Bool.{Bool, true, false, cond}
use mathlib.Core.List.Memᴰ
use mathlib.Core.List.{List, [], ◌∷◌, ◌++◌, map, Memᴰ, cons≢nil, nil≢cons, head-eq_of_cons-eq, tail-eq_of_cons-eq}
use Prim.Native.Nat.{ℕ, zero, suc, ◌+◌, ◌*◌, ◌-◌, ◌<◌, ◌≤◌}
use native.Mathlib.Omega.{arith}
use borrow.Author.Tests.{ltb-true}
use lib.Dec.{ltb}
use lib.IntN.{ℤ, pos}
use lib.ListN.{length, length-map, length-append}
use Rattle.rank1.specs.Tests.{any, same_row}
use Rattle.rank1.specs.Residue.{dot, residue_at}
use Rattle.rank1.specs.Index.{zero_row, mirrors, mirrored, row_count, index_list}
use Rattle.rank1.specs.Rule.{Integrates, PlanA, PlanB, Admissible}
use Rattle.rank1.specs.Search.{Hopeless}
use Rattle.rank1.specs.Tally.{different, zero_in, zeros, recount, least_modulus}
use Rattle.rank1.specs.Valid.{Distinct, Nonnegative, ValidList}
use Rattle.rank1.specs.Differences.{negative}
use Rattle.rank1.proofs.ResidueLaws.{residue-lt}
use Rattle.rank1.proofs.Distinct.{distinct_append, distinct_map, pigeonhole}
use Rattle.rank1.proofs.TestLaws.{decided_false, decides_among}
use Rattle.rank1.proofs.MirrorLaws.{sizes, abs_zero, same_length, mirror_self, mirror-sizes, sizes-mirror, same_row_lem, mirrored_in, mirrored-out, mirrored_distinct}
use Rattle.rank1.proofs.IndexLaws.{member_length}
use Rattle.rank1.proofs.DifferenceLaws.{negative-negative}
use Rattle.rank1.proofs.CountingLaws.{rule_reconstructs, residues_below, rows_fit}
use Rattle.rank1.proofs.NegativeLaws.{negative-one-one, negative-zeros, negative-mirror, negative-sizes, own_negative, equal_negative, not_zero}
use Rattle.rank1.proofs.ZeroRowLaws.{zero_held, zero_missing, others, others-out, others_in, others_distinct, others-length}

-- the rows of a list that passes conditions 3 to 5: all of d components, all different, none negative for plans 2, 3 and 4
pub record ValidRows (plan d : ℕ) (ks : List (List ℤ)) : Type 0 where
  pub long : (k : List ℤ) → Memᴰ k ks → length k ≡ d
  pub different : Distinct ks
  pub unsigned : 2 ≤ plan → (k : List ℤ) → Memᴰ k ks → Nonnegative k

pub valid_rows : (plan d : ℕ) (xs : List ℤ) → ValidList plan d xs → ValidRows plan d (index_list d xs)
valid_rows plan d xs v = record {
  long = λ k m. member_length d (row_count d xs) xs k (omega (arith, v.whole)) m;
  different = v.different;
  unsigned = v.unsigned;
}

-- the bound of a list: that of its recount
abbrev pub bound : ℕ → ℕ → List (List ℤ) → ℕ
bound plan d ks = least_modulus plan (recount plan d ks)

-- ---- M as a set: where no two members are equal, its size is its length
pub different-length : (ss : List (List ℤ)) → Distinct ss → different ss ≡ length ss
different-length [] h = refl
different-length (s ∷ ss) h = omega (arith, ap {B = ℕ} (λ (b : Bool). cond b 0 1) alone, different-length ss h.1)
  where
    alone : any (same_row s) ss ≡ false
    alone = (decided_false (any (same_row s) ss) (decides_among s ss)).1 h.0

-- ---- rows of different residues, none of them 0: one more than they are fits into n
pub record Spread (n : ℕ) (z : List ℤ) (rows : List (List ℤ)) : Type 0 where
  pub distinct : Distinct rows
  pub apart : (s t : List ℤ) → Memᴰ s rows → Memᴰ t rows → s ≢ t → residue_at n z s ≢ residue_at n z t
  pub nonzero : (s : List ℤ) → Memᴰ s rows → residue_at n z s ≢ 0

pub spread_fits : (n : ℕ) (z : List ℤ) (rows : List (List ℤ)) → 0 < n → Spread n z rows → suc (length rows) ≤ n
spread_fits n z rows h p =
    omega (arith, length-map rows (residue_at n z), pigeonhole n (0 ∷ map (residue_at n z) rows) (free, distinct_map (residue_at n z) rows p.distinct p.apart) below)
  where
    free : Memᴰ 0 (map (residue_at n z) rows) → ⊥
    free m = let r = Memᴰ.of_map (residue_at n z) rows m in p.nonzero r.0 r.1 r.2

    below : (x : ℕ) → Memᴰ x (0 ∷ map (residue_at n z) rows) → x < n
    below x m = ⊎_elim (λ e. subst (λ (y : ℕ). y < n) (sym e) h) (residues_below n z rows h x) (Memᴰ.cases_cons m)

-- where with a row its negative is there, and is another row, no residue is 0
pub closed_spread : (n : ℕ) (z : List ℤ) (rows : List (List ℤ)) → 0 < n → Distinct rows → ((s t : List ℤ) → Memᴰ s rows → Memᴰ t rows → s ≢ t → residue_at n z s ≢ residue_at n z t) → ((s : List ℤ) → Memᴰ s rows → Memᴰ (negative s) rows × (negative s ≢ s)) → Spread n z rows
closed_spread n z rows h d apart closed = record {
  distinct = d;
  apart = apart;
  nonzero = λ s m. not_zero n z h s (apart (negative s) s (closed s m).0 m (closed s m).1);
}

-- ---- plan 0: a row other than the zero row has a residue other than 0
module _ (plan d : ℕ) (ks : List (List ℤ)) (v : ValidRows plan d ks) (n : ℕ) (z : List ℤ) (h : 1 ≤ n) where
  integrates_fits : Integrates ks n z → (os : List (List ℤ)) → ((k : List ℤ) → Memᴰ k os → Memᴰ k ks × (k ≢ zero_row d)) → 0 < length os → 2 ≤ n
  unfolding Integrates
  integrates_fits a [] f l = absurd (omega arith)
  integrates_fits a (k ∷ os) f l =
      let p = f k (Memᴰ.head refl) in
      two (residue_at n z k) (residue-lt n (dot k z) h) (a k p.0 (λ e. p.1 (e ∙ ap zero_row (v.long k p.0))))
    where
      two : (r : ℕ) → r < n → r ≢ 0 → 2 ≤ n
      two r b o = omega arith

  -- ---- negatives
  -- a mirror of a row that is its own negative is the zero row
  own_zero : (k s : List ℤ) → Memᴰ k ks → Memᴰ s (mirrors k) → negative s ≡ s → s ≡ zero_row d
  own_zero k s m i e = own_negative s e ∙ ap zero_row (same_length s k (mirror-sizes k s i) ∙ v.long k m)

  back_zero : (s : List ℤ) → negative s ≡ zero_row d → s ≡ zero_row d
  back_zero s e = negative-one-one s (zero_row d) (e ∙ sym (negative-zeros d))

  -- ---- plan A: the members of M other than the zero row
  a_closed : (s : List ℤ) → Memᴰ s (others d (mirrored ks)) → Memᴰ (negative s) (others d (mirrored ks)) × (negative s ≢ s)
  a_closed s m =
      let p = others-out d (mirrored ks) s m in
      let r = mirrored-out ks s p.0 in (
        others_in d (mirrored ks) (negative s)
            (mirrored_in ks r.row (negative s) r.listed (sizes-mirror r.row (negative s) (negative-sizes s ∙ mirror-sizes r.row s r.mirror)))
            (λ e. p.1 (back_zero s e)),
        (λ e. p.1 (own_zero r.row s r.listed r.mirror e)),
      )

  module _ (unsigned : (k : List ℤ) → Memᴰ k ks → Nonnegative k) where
    a_fits : PlanA ks n z → suc (length (others d (mirrored ks))) ≤ n
    unfolding PlanA
    a_fits a =
        spread_fits n z (others d (mirrored ks)) h
        (closed_spread n z (others d (mirrored ks)) h
        (others_distinct d (mirrored ks) (mirrored_distinct ks v.different unsigned))
        (λ s t m i. a s t (others-out d (mirrored ks) s m).0 (others-out d (mirrored ks) t i).0)
        a_closed)

    -- ---- plan B: the rows other than the zero row, and their negatives
    -- no row is the negative of one
    b_other : (k l : List ℤ) → Memᴰ k (others d ks) → Memᴰ l (others d ks) → negative l ≢ k
    b_other k l m i e =
        let p = others-out d ks k m in
        let q = others-out d ks l i in
        let same : k ≡ l = same_row_lem k k l (unsigned k p.0) (unsigned l q.0) (mirror_self k) (Memᴰ.cast (sym e) (negative-mirror l)) in
        p.1 (own_zero k k p.0 (mirror_self k) (ap negative same ∙ e))

    abbrev signed : List (List ℤ)
    signed = others d ks ++ map negative (others d ks)

    -- what is among them: a row, or the negative of one
    Signed : List ℤ → Type 0
    Signed s = Memᴰ s (others d ks) ⊎ ((l : List ℤ) × Memᴰ l (others d ks) × (negative l ≡ s))

    signed-out : (s : List ℤ) → Memᴰ s signed → Signed s
    unfolding Signed
    signed-out s m = ⊎_elim (λ i. inl i) (λ i. inr (Memᴰ.of_map negative (others d ks) i)) (Memᴰ.append_cases (others d ks) m)

    signed_distinct : Distinct signed
    signed_distinct =
        distinct_append (others d ks) (map negative (others d ks)) (others_distinct d ks v.different)
        (distinct_map negative (others d ks) (others_distinct d ks v.different) (λ k l m i o e. o (negative-one-one k l e)))
        (λ k m i. let r = Memᴰ.of_map negative (others d ks) i in b_other k r.0 m r.1 r.2)

    signed_closed : (s : List ℤ) → Memᴰ s signed → Memᴰ (negative s) signed × (negative s ≢ s)
    unfolding Signed
    signed_closed s m = go (signed-out s m)
      where
        go : Signed s → Memᴰ (negative s) signed × (negative s ≢ s)
        go (inl i) = (Memᴰ.append_right (others d ks) (Memᴰ.map negative i), b_other s s i i)
        go (inr r) = (
          Memᴰ.append_left (map negative (others d ks)) (Memᴰ.cast (ap negative (sym r.2) ∙ negative-negative r.0) r.1),
          λ e. b_other r.0 r.0 r.1 r.1 (negative-one-one (negative r.0) r.0 (ap negative r.2 ∙ e ∙ sym r.2)),
        )

    b_apart : PlanB ks n z → (s t : List ℤ) → Memᴰ s signed → Memᴰ t signed → s ≢ t → residue_at n z s ≢ residue_at n z t
    unfolding PlanB Signed
    b_apart b s t m i o = go (signed-out s m) (signed-out t i)
      where
        listed : (k : List ℤ) → Memᴰ k (others d ks) → Memᴰ k ks
        listed k j = (others-out d ks k j).0

        rows : (k l : List ℤ) → Memᴰ k (others d ks) → Memᴰ l (others d ks) → k ≢ l → residue_at n z k ≢ residue_at n z l
        rows k l p q = b l k k (listed l q) (listed k p) (mirror_self k)

        across : (k l r : List ℤ) → Memᴰ k (others d ks) → Memᴰ l (others d ks) → negative l ≡ r → residue_at n z r ≢ residue_at n z k
        across k l r p q e = subst (λ (w : List ℤ). residue_at n z w ≢ residue_at n z k) e (b k l (negative l) (listed k p) (listed l q) (negative-mirror l) (b_other k l p q))

        go : Signed s → Signed t → residue_at n z s ≢ residue_at n z t
        go (inl p) (inl q) = rows s t p q o
        go (inl p) (inr q) = λ e. across s q.0 t p q.1 q.2 (sym e)
        go (inr p) (inl q) = across t p.0 s q p.1 p.2
        go (inr p) (inr q) =
            λ e. rows p.0 q.0 p.1 q.1 (λ w. o (sym p.2 ∙ ap negative w ∙ q.2))
            (equal_negative n z h p.0 q.0 (ap (residue_at n z) p.2 ∙ e ∙ ap (residue_at n z) (sym q.2)))

    b_fits : PlanB ks n z → suc (2 * length (others d ks)) ≤ n
    b_fits b =
        omega (
          arith,
          spread_fits n z signed h (closed_spread n z signed h signed_distinct (b_apart b) signed_closed),
          length-append (others d ks) (map negative (others d ks)),
          length-map (others d ks) negative,
        )

sizes_zero : (d : ℕ) (k : List ℤ) → sizes k ≡ sizes (zero_row d) → k ≡ zero_row d
sizes_zero zero [] e = refl
sizes_zero zero (x ∷ k) e = absurd (cons≢nil e)
sizes_zero (suc d) [] e = absurd (nil≢cons e)
sizes_zero (suc d) (x ∷ k) e =
    ap (λ (a : ℤ). a ∷ k) (abs_zero x (head-eq_of_cons-eq e)) ∙ ap (λ (l : List ℤ). pos 0 ∷ l) (sizes_zero d k (tail-eq_of_cons-eq e))

-- ---- the zero row is in M just where it is in the list
zero_mirrored : (plan d : ℕ) (ks : List (List ℤ)) → ValidRows plan d ks → zero_in d (mirrored ks) ≡ zero_in d ks
zero_mirrored plan d ks v = go (zero_in d ks) refl
  where
    -- a row of which it is a mirror is the zero row itself
    same : (k : List ℤ) → Memᴰ (zero_row d) (mirrors k) → k ≡ zero_row d
    same k i = sizes_zero d k (sym (mirror-sizes k (zero_row d) i))

    go : (b : Bool) → zero_in d ks ≡ b → zero_in d (mirrored ks) ≡ b
    go true e = (zero_held d (mirrored ks)).1 (mirrored_in ks (zero_row d) (zero_row d) ((zero_held d ks).0 e) (mirror_self (zero_row d)))
    go false e =
        (zero_missing d (mirrored ks)).1
        (λ m. let r = mirrored-out ks (zero_row d) m in (zero_missing d ks).0 e (Memᴰ.cast (sym (same r.row r.mirror)) r.listed))

-- so the members of M other than it are all, or all but one
others-members : (plan d : ℕ) (ks : List (List ℤ)) → ValidRows plan d ks → 2 ≤ plan → length (others d (mirrored ks)) + zeros (zero_in d ks) ≡ different (mirrored ks)
others-members plan d ks v h =
    ap (λ (b : Bool). length (others d (mirrored ks)) + zeros b) (sym (zero_mirrored plan d ks v))
    ∙ others-length d (mirrored ks) distinct
    ∙ sym (different-length (mirrored ks) distinct)
  where
    distinct : Distinct (mirrored ks)
    distinct = mirrored_distinct ks v.different (v.unsigned h)

-- ---- from the number of the other rows, o, to the bounds of plans A and B
held_fits : (b : Bool) (o size n : ℕ) → o + zeros b ≡ size → suc o ≤ n → cond b size (size + 1) ≤ n
held_fits true o size n e l = omega (arith, e)
held_fits false o size n e l = omega (arith, e)

twice_fits : (b : Bool) (o m n : ℕ) → o + zeros b ≡ m → suc (2 * o) ≤ n → cond b (2 * m - 1) (2 * m + 1) ≤ n
twice_fits true o m n e l = omega (arith, e)
twice_fits false o m n e l = omega (arith, e)

held_some : (b : Bool) (o size : ℕ) → o + zeros b ≡ size → 1 ≤ cond b size (size + 1)
held_some true o size e = omega (arith, e)
held_some false o size e = omega arith

twice_some : (b : Bool) (o m : ℕ) → o + zeros b ≡ m → 1 ≤ cond b (2 * m - 1) (2 * m + 1)
twice_some true o m e = omega (arith, e)
twice_some false o m e = omega arith

-- ---- the bound
pub bound_fits : (plan d : ℕ) (ks : List (List ℤ)) (n : ℕ) (z : List ℤ) → ValidRows plan d ks → 1 ≤ n → Admissible plan ks n z → bound plan d ks ≤ n
bound_fits zero d ks n z v h a = go (ltb (zeros (zero_in d ks)) (length ks)) refl
  where
    go : (b : Bool) → ltb (zeros (zero_in d ks)) (length ks) ≡ b → cond b 2 1 ≤ n
    go true e = integrates_fits 0 d ks v n z h a (others d ks) (others-out d ks) (omega (arith, ltb-true (zeros (zero_in d ks)) (length ks) e, others-length d ks v.different))
    go false e = h
bound_fits (suc zero) d ks n z v h a = omega (arith, rows_fit ks n z v.different h a)
bound_fits (suc (suc zero)) d ks n z v h a =
    held_fits (zero_in d ks) (length (others d (mirrored ks))) (different (mirrored ks)) n (others-members 2 d ks v (omega arith)) (a_fits 2 d ks v n z h (v.unsigned (omega arith)) a)
bound_fits (suc (suc (suc zero))) d ks n z v h a =
    twice_fits (zero_in d ks) (length (others d ks)) (length ks) n (others-length d ks v.different) (b_fits 3 d ks v n z h (v.unsigned (omega arith)) a)
bound_fits (suc (suc (suc (suc zero)))) d ks n z v h a = omega (arith, rows_fit ks n z v.different h (rule_reconstructs 4 ks n z (λ e. omega arith) a))
bound_fits (suc (suc (suc (suc (suc p))))) d ks n z v h a = absurd a

-- every smaller modulus fails with every whole vector
pub bound_hopeless : (plan d : ℕ) (ks : List (List ℤ)) (n : ℕ) → ValidRows plan d ks → 1 ≤ n → n < bound plan d ks → Hopeless (Admissible plan ks) d n
unfolding Hopeless
bound_hopeless plan d ks n v h l z e a = omega (arith, bound_fits plan d ks n z v h a)

-- it is a modulus, so a search may start there
pub bound_some : (plan d : ℕ) (ks : List (List ℤ)) → ValidRows plan d ks → 1 ≤ bound plan d ks
bound_some zero d ks v = go (ltb (zeros (zero_in d ks)) (length ks))
  where
    go : (b : Bool) → 1 ≤ cond b 2 1
    go true = omega arith
    go false = omega arith
bound_some (suc zero) d ks v = omega arith
bound_some (suc (suc zero)) d ks v = held_some (zero_in d ks) (length (others d (mirrored ks))) (different (mirrored ks)) (others-members 2 d ks v (omega arith))
bound_some (suc (suc (suc zero))) d ks v = twice_some (zero_in d ks) (length (others d ks)) (length ks) (others-length d ks v.different)
bound_some (suc (suc (suc (suc zero)))) d ks v = omega arith
bound_some (suc (suc (suc (suc (suc p))))) d ks v = omega arith
