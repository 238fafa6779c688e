-- What a turn of each loop over rows and residues does: counting a residue, adding a term at the residues of a row, the entry
-- of a row, the sums of one row more, writing the map and the terms, and gathering.
use mathlib.Core.Path.{◌≡◌, refl, sym, ◌∙◌, ap, subst}
use mathlib.Core.Bool.{Bool, true, false, true≢false, cond}
use mathlib.Core.List.{List, [], ◌∷◌, ◌++◌, map}
use Prim.Native.Nat.{ℕ, suc, ◌+◌, ◌*◌, ◌^◌, ◌<◌, ◌≤◌}
use native.Mathlib.Nat.{add-zero, suc-mul, mul-le-mul, mul-le-mul_right, le_refl}
use native.Mathlib.Numerals.{add-one}
use native.Mathlib.Omega.{arith}
use borrow.Author.Count.{below_more}
use borrow.Author.Rules.{sfits_of}
use borrow.Author.Tests.{eq-eqb, ne_eqb, eqb-true, eqb-false}
use lib.Dec.{eqb, leb}
use lib.IntN.{ℤ, pos, nat_abs, ◌+ℤ◌, ◌*ℤ◌, +ℤ_assoc, *ℤ_comm, suc_ℤ-*ℤ}
use lib.Signed.{mag, quot_z}
use lib.ListN.{length, get_or, take, set, length-set, length-map}
use lib.Seq.{get_or-set_same, get_or-set_other, get_or-take, length-take-le, take_all, take-suc, take-suc-set, take-take}
use mir.Syntax.{w32, w64}
use mir.Val.{to_z, of_z}
use mir.Facts.{to_z-of_z}
use Rattle.rank1.specs.Residue.{dot, residue_at}
use Rattle.rank1.specs.Index.{mirrors, row_count}
use Rattle.rank1.specs.Named.{plan_number}
use Rattle.rank1.specs.Sums.{mirrors_under, copies_at, copies, residue_map, sum_at, spread_sums, gathered_term, gathered_terms, gathers, in32}
use Rattle.rank1.proofs.ResidueLaws.{residue-lt}
use Rattle.rank1.proofs.MirrorLaws.{mirrors_first}
use Rattle.rank1.proofs.UpTo.{map-up_to_is}
use Rattle.rank1.proofs.CountLaws.{count_map, count-take, count-le, at_places}
use Rattle.rank1.proofs.WholeSums.{abs_add, mag_abs, abs_in32, in32_mag}
use Rattle.rank1.proofs.SumLaws.{under-length, copies_some, copies-le, row_small, sum_take, sum_part_small, map-length, map-residue, map-copies}
use Rattle.std.proofs.Common.{Option, None, Some}
use Rattle.std.specs.Option.{MatchOption}
use Rattle.std.specs.Bool.{◌==◌}
use Rattle.std.specs.List.{count_by}
use Rattle.std.proofs.lemmas.List.{get_or-map}
use Rattle.std.proofs.lemmas.List.Sums.{sum_by-cons}
use Rattle.rank1.specs.Tests.{every}
use Rattle.rank1.proofs.TestLaws.{true_every, every_true}
use Rattle.planner.specs.Sizes.{axes, most_mirrors}
use Rattle.planner.specs.Inner.{occurrences, Addable, divides, EntryOf}
use Rattle.planner.specs.Lists.{rows_in, residue_by}
use Rattle.planner.specs.declared.lattice.Lattice.{Lattice}
use Rattle.planner.proofs.RowLaws.{Comes, row_number, row_inside, row_listed, row_long, rows_counted}
use Rattle.planner.proofs.sums.SignedSteps.{short}

-- ---- counting the numbers x among the first t
module _ (x : ℕ) (xs : List ℕ) (t : ℕ) (l : t < length xs) where
  -- one number more
  occurs_next : occurrences x (take (t + 1) xs) ≡ occurrences x (take t xs) + cond (eqb (get_or xs t 0) x) 1 0
  occurs_next = ap (λ (k : ℕ). occurrences x (take k xs)) (add-one t) ∙ count-take (λ r. eqb r x) xs t 0 l

  -- it is x
  pub occurs : get_or xs t 0 ≡ x → occurrences x (take (t + 1) xs) ≡ occurrences x (take t xs) + 1
  occurs e = occurs_next ∙ ap (λ (b : Bool). occurrences x (take t xs) + cond b 1 0) (eq-eqb (get_or xs t 0) x e)

  -- it is not
  pub occurs_not : (get_or xs t 0 ≡ x → ⊥) → occurrences x (take (t + 1) xs) ≡ occurrences x (take t xs)
  occurs_not e =
      occurs_next
      ∙ ap (λ (b : Bool). occurrences x (take t xs) + cond b 1 0) (ne_eqb (get_or xs t 0) x e)
      ∙ add-zero (occurrences x (take t xs))

-- the library counts so too
pub counted : (x : ℕ) (rs : List ℕ) → count_by (λ r. r == x) rs ≡ occurrences x rs
counted x [] = refl
counted x (r ∷ rs) = sum_by-cons (λ r. cond (r == x) 1 0) r rs ∙ ap (λ (k : ℕ). cond (eqb r x) 1 0 + k) (counted x rs)

-- no more than t
pub occurs_le : (x : ℕ) (xs : List ℕ) (t : ℕ) → t ≤ length xs → occurrences x (take t xs) ≤ t
occurs_le x xs t l = omega (arith, count-le (λ r. eqb r x) (take t xs), length-take-le t xs l)

-- ---- adding a at the residues
-- once more
times_more : (a : ℤ) (c : ℕ) → a *ℤ pos (c + 1) ≡ a *ℤ pos c +ℤ a
times_more a c =
    ap (λ (k : ℕ). a *ℤ pos k) (add-one c)
    ∙ *ℤ_comm a (pos (suc c))
    ∙ suc_ℤ-*ℤ (pos c) a
    ∙ ap (λ (x : ℤ). x +ℤ a) (*ℤ_comm (pos c) a)

-- old is what stood there before; a has been added at the first t residues
module _ (a : ℤ) (rs : List ℕ) (old sums : List ℤ) (t : ℕ) (l : t < length rs) (so_far : (r : ℕ) → get_or sums r (pos 0) ≡ get_or old r (pos 0) +ℤ (a *ℤ pos (occurrences r (take t rs)))) (x : ℕ) (here : x ≡ get_or rs t 0) where
  -- at the next one
  pub term_more : x < length sums → (r : ℕ) → get_or (set sums x (get_or sums x (pos 0) +ℤ a)) r (pos 0) ≡ get_or old r (pos 0) +ℤ (a *ℤ pos (occurrences r (take (t + 1) rs)))
  term_more h r = either (eqb x r) refl
    where
      either : (q : Bool) → eqb x r ≡ q → get_or (set sums x (get_or sums x (pos 0) +ℤ a)) r (pos 0) ≡ get_or old r (pos 0) +ℤ (a *ℤ pos (occurrences r (take (t + 1) rs)))
      either true q =
          ap (λ (k : ℕ). get_or (set sums x (get_or sums x (pos 0) +ℤ a)) k (pos 0)) (sym (eqb-true x r q))
          ∙ get_or-set_same sums x (get_or sums x (pos 0) +ℤ a) (pos 0) h
          ∙ ap (λ (k : ℕ). get_or sums k (pos 0) +ℤ a) (eqb-true x r q)
          ∙ ap (λ (y : ℤ). y +ℤ a) (so_far r)
          ∙ +ℤ_assoc (get_or old r (pos 0)) (a *ℤ pos (occurrences r (take t rs))) a
          ∙ ap (λ (y : ℤ). get_or old r (pos 0) +ℤ y)
          (sym (times_more a (occurrences r (take t rs))) ∙ ap (λ (c : ℕ). a *ℤ pos c) (sym (occurs r rs t l (sym here ∙ eqb-true x r q))))
      either false q =
          get_or-set_other sums x r (get_or sums x (pos 0) +ℤ a) (pos 0) (λ s. eqb-false x r q (sym s))
          ∙ so_far r
          ∙ ap (λ (c : ℕ). get_or old r (pos 0) +ℤ (a *ℤ pos c)) (sym (occurs_not r rs t l (λ s. eqb-false x r q (here ∙ s))))

  -- what stood there had 64 bits
  pub held_fits : (c : ℕ) → t < c → nat_abs (get_or old x (pos 0)) + c * nat_abs a < 2 ^ 63 → mag (get_or sums x (pos 0)) < 2 ^ 63
  held_fits c h d =
      omega (
        arith,
        mag_abs (get_or sums x (pos 0)),
        ap nat_abs (so_far x),
        abs_add (get_or old x (pos 0)) (a *ℤ pos (occurrences x (take t rs))),
        row_small a (occurrences x (take t rs)) t (nat_abs a) (occurs_le x rs t (omega arith)) (le_refl (nat_abs a)),
        mul-le-mul_right {m = t} {n = c} (nat_abs a) (omega arith),
      )

  -- and the sum stays in 64 bits
  pub term_fits : (c : ℕ) → t < c → nat_abs (get_or old x (pos 0)) + c * nat_abs a < 2 ^ 63 → mag (get_or sums x (pos 0) +ℤ a) < 2 ^ 63
  term_fits c h d =
      omega (
        arith,
        mag_abs (get_or sums x (pos 0) +ℤ a),
        abs_add (get_or sums x (pos 0)) a,
        ap nat_abs (so_far x),
        abs_add (get_or old x (pos 0)) (a *ℤ pos (occurrences x (take t rs))),
        row_small a (occurrences x (take t rs)) t (nat_abs a) (occurs_le x rs t (omega arith)) (le_refl (nat_abs a)),
        mul-le-mul_right {m = suc t} {n = c} (nat_abs a) h,
        suc-mul t (nat_abs a),
      )

-- ---- the residues of S(k)
module _ (plan n : ℕ) (z : List ℕ) (k : List ℤ) where
  -- k is the first of S(k)
  under_first : get_or (mirrors_under plan k) 0 [] ≡ k
  under_first = either (leb 2 plan)
    where
      either : (t : Bool) → get_or (cond t (mirrors k) (k ∷ [])) 0 [] ≡ k
      either true = mirrors_first k
      either false = refl

  module _ (rs : List ℕ) (is : rs ≡ map (residue_at n (map pos z)) (mirrors_under plan k)) where
    -- how many
    residues_length : length rs ≡ length (mirrors_under plan k)
    residues_length = ap length is ∙ length-map (mirrors_under plan k) (residue_at n (map pos z))

    -- the one at a place
    residues_at : (t : ℕ) → t < length rs → get_or rs t 0 ≡ residue_at n (map pos z) (get_or (mirrors_under plan k) t [])
    residues_at t l =
        ap (λ (xs : List ℕ). get_or xs t 0) is
        ∙ get_or-map (residue_at n (map pos z)) (mirrors_under plan k) t [] 0 (omega (arith, residues_length))

    -- the first is that of k
    first_residue : 0 < length rs → get_or rs 0 0 ≡ residue_at n (map pos z) k
    first_residue l = residues_at 0 l ∙ ap (residue_at n (map pos z)) under_first

    -- how often x is one of them
    pub occurrences_are : (x : ℕ) → occurrences x rs ≡ copies_at plan n (map pos z) x k
    occurrences_are x =
        ap (occurrences x) is ∙ count_map (λ r. eqb r x) (residue_at n (map pos z)) (mirrors_under plan k)

    -- the first residue and how often it occurs are the entry of the row
    pub entry_is : (x c : ℕ) → 0 < n → length k ≤ axes → 0 < length (mirrors_under plan k) → x ≡ get_or rs 0 0 → c ≡ occurrences x rs → EntryOf plan n z k x c
    entry_is x c p h l e q = record {
      is_residue = residue;
      inside = omega (arith, residue, residue-lt n (dot k (map pos z)) p);
      is_copies = counted;
      some = omega (arith, counted, copies_some plan n (map pos z) k);
      few = omega (arith, counted, copies-le plan n (map pos z) k, under-length plan k h);
    }
      where
        residue : x ≡ residue_at n (map pos z) k
        residue = e ∙ first_residue (omega (arith, residues_length))

        counted : c ≡ copies plan n (map pos z) k
        counted = q ∙ occurrences_are x ∙ ap (λ (y : ℕ). copies_at plan n (map pos z) y k) residue

-- ---- terms of 32 bits
-- the size of one
pub in32_small : (a : ℤ) → in32 a ≡ true → nat_abs a ≤ 2147483648
in32_small a e = abs_in32 a (in32_mag a e)

-- ---- filling places from the front
module _ {A : Type 0} (out xs : List A) where
  -- one more element, where j stand and the next has the number i
  pub fill_more : {j : ℕ} (i : ℕ) (v d : A) → i ≡ j → i < length out → i < length xs → v ≡ get_or xs i d → take j out ≡ take j xs → take (j + 1) (set out i v) ≡ take (j + 1) xs
  fill_more i v d same l m e =
      subst (λ (k : ℕ). take k out ≡ take k xs → take (k + 1) (set out i v) ≡ take (k + 1) xs) same
      (λ so_far.
      ap (λ (k : ℕ). take k (set out i v)) (add-one i)
      ∙ take-suc-set out i v l
      ∙ ap (λ (t : List A). t ++ (v ∷ [])) so_far
      ∙ ap (λ (w : A). take i xs ++ (w ∷ [])) e
      ∙ sym (take-suc xs i d m)
      ∙ ap (λ (k : ℕ). take k xs) (sym (add-one i)))

  -- all
  pub fill_all : (j : ℕ) → length out ≡ length xs → length xs ≤ j → take j out ≡ take j xs → out ≡ xs
  fill_all j e l so_far = sym (take_all j out (omega arith)) ∙ so_far ∙ take_all j xs l

-- ---- the sum that a row gathers
-- the sum that is read at y
abbrev pub read_sum : List ℤ → ℕ → ℤ
read_sum sums y = to_z w64 (of_z w64 (get_or sums y (pos 0)))

-- o is the quotient of s by c: none where c does not divide s, or the quotient has not 32 bits
abbrev pub QuotientIs : ℤ → ℕ → Option ℤ → Type 0
QuotientIs s c o = MatchOption o (divides s c ≡ false) (λ q. (divides s c ≡ true) × (q ≡ quot_z s (pos c)))

-- ---- the rows of a lattice
module _ (lattice : Lattice) where
  abbrev plan : ℕ
  plan = plan_number lattice.rows.plan

  abbrev zs : List ℤ
  zs = map pos lattice.z.now

  abbrev ks : List (List ℤ)
  ks = rows_in lattice.rows

  -- ---- the sums of the rows that have come
  -- they are those of the first i rows, whose terms have 32 bits
  abbrev pub SpreadTo : List ℤ → List ℤ → ℕ → Type 0
  SpreadTo terms sums i =
      ((j : ℕ) → j < i → in32 (get_or terms j (pos 0)) ≡ true)
      × ((r : ℕ) → get_or sums r (pos 0) ≡ sum_at (plan_number lattice.rows.plan) lattice.n (map pos lattice.z.now) (take i (rows_in lattice.rows)) (take i terms) r)

  module _ (terms sums : List ℤ) {i : ℕ} (so_far : SpreadTo terms sums i) where
    -- all rows have come
    pub sums_all :
        i ≡ length terms → length terms ≡ row_count lattice.rows.d lattice.rows.numbers.now → length sums ≡ lattice.n
        → (sums ≡ spread_sums (plan_number lattice.rows.plan) lattice.n (map pos lattice.z.now) (rows_in lattice.rows) terms) × (every in32 terms ≡ true)
    sums_all all long size = (
      map-up_to_is (sum_at plan lattice.n zs ks terms) lattice.n sums (pos 0) size
          (λ r p. so_far.1 r
          ∙ ap (λ (hs : List (List ℤ)). sum_at plan lattice.n zs hs (take i terms) r) (take_all i ks (omega (arith, all, long, rows_counted lattice.rows)))
          ∙ ap (λ (bs : List ℤ). sum_at plan lattice.n zs ks bs r) (take_all i terms (omega (arith, all)))),
      true_every in32 terms (at_places (λ a. in32 a ≡ true) terms (pos 0) (λ j l. so_far.0 j (omega (arith, all)))),
    )

    -- a row comes with its term a, and rs are the residues of those that it stands for
    module _ {k : List ℤ} {rs : List ℕ} {a : ℤ} (next : Comes lattice.rows i i k) (l : i < length terms) (is : a ≡ get_or terms i (pos 0)) (narrow : in32 (get_or terms i (pos 0)) ≡ true)
        (residues : rs ≡ map (residue_by lattice) (mirrors_under (plan_number lattice.rows.plan) k)) where
      -- the sums of the rows before it are small, since a list has few rows
      small : (r : ℕ) → nat_abs (get_or sums r (pos 0)) ≤ 511 * (most_mirrors * 2147483648)
      small r =
          let part : nat_abs (sum_at plan lattice.n zs (take i ks) (take i terms) r) ≤ i * (most_mirrors * 2147483648) =
          rw (take-take i i terms (le_refl i))
          at (sum_part_small plan lattice.n zs ks (take i terms) i r 2147483648 (omega (arith, row_inside next)) (λ h m. omega (arith, row_long lattice.rows h m, lattice.rows.valid.few_axes))
          (at_places (λ b. nat_abs b ≤ 2147483648) (take i terms) (pos 0)
          (λ j p. rw (get_or-take i terms j (pos 0) (omega (arith, length-take-le i terms (omega arith)))) (in32_small (get_or terms j (pos 0)) (so_far.0 j (omega (arith, length-take-le i terms (omega arith)))))))) in
          omega (arith, ap nat_abs (so_far.1 r), next.among, lattice.rows.valid.few_rows, part)

      -- so the term can be added at each residue
      pub addable : length sums ≡ lattice.n → Addable a rs sums
      addable size = record {
        inside = λ t p. omega (arith, size, residues_at plan lattice.n lattice.z.now k rs residues t p, residue-lt lattice.n (dot (get_or (mirrors_under plan k) t []) zs) lattice.ready.modulus.low);
        fits = λ r. omega (
          arith,
          small r,
          mul-le-mul {n₁ = length rs} {m₁ = nat_abs a} {n₂ = most_mirrors} {m₂ = 2147483648} (omega (arith, residues_length plan lattice.n lattice.z.now k rs residues, under-length plan k (omega (arith, next.size, lattice.rows.valid.few_axes)))) (rw is (in32_small (get_or terms i (pos 0)) narrow)),
        );
      }

      -- and then they are the sums of one row more
      pub sums_more : (new : List ℤ) → ((r : ℕ) → get_or new r (pos 0) ≡ get_or sums r (pos 0) +ℤ (a *ℤ pos (occurrences r rs))) → SpreadTo terms new (i + 1)
      sums_more new added = (
        below_more (λ j. in32 (get_or terms j (pos 0)) ≡ true) i so_far.0 narrow,
        λ r. added r
            ∙ ap (λ (x : ℤ). x +ℤ (a *ℤ pos (occurrences r rs))) (so_far.1 r)
            ∙ ap (λ (x : ℤ). sum_at plan lattice.n zs (take i ks) (take i terms) r +ℤ (x *ℤ pos (occurrences r rs))) is
            ∙ ap (λ (x : ℕ). sum_at plan lattice.n zs (take i ks) (take i terms) r +ℤ (get_or terms i (pos 0) *ℤ pos x))
            (occurrences_are plan lattice.n lattice.z.now k rs residues r ∙ ap (copies_at plan lattice.n zs r) (row_number next))
            ∙ sym (sum_take plan lattice.n zs ks terms i r (row_inside next) l)
            ∙ ap (λ (j : ℕ). sum_at plan lattice.n zs (take j ks) (take j terms) r) (sym (add-one i)),
      )

  -- ---- the row that comes, with its entry
  -- the map, and the terms that sums gather
  abbrev pub map_of : List ℕ
  map_of = residue_map (plan_number lattice.rows.plan) lattice.n (map pos lattice.z.now) (rows_in lattice.rows)

  abbrev pub terms_of : List ℤ → List ℤ
  terms_of = gathered_terms (plan_number lattice.rows.plan) lattice.n (map pos lattice.z.now) (rows_in lattice.rows)

  module _ {j i x c : ℕ} {k : List ℤ} (next : Comes lattice.rows j i k) (e : EntryOf (plan_number lattice.rows.plan) lattice.n lattice.z.now k x c) where
    -- it is written to the map
    pub map_more :
        (out : List ℕ) → length out ≡ 2 * row_count lattice.rows.d lattice.rows.numbers.now → take (2 * j) out ≡ take (2 * j) map_of
        → take (2 * (j + 1)) (set (set out (2 * i) x) (2 * i + 1) c) ≡ take (2 * (j + 1)) map_of
    map_more out long so_far =
        let size = map-length plan lattice.n zs ks in
        let twice : 2 * (j + 1) ≡ 2 * j + 1 + 1 = omega arith in
        rw twice
        (fill_more (set out (2 * i) x) map_of (2 * i + 1) c 0 (omega (arith, next.number)) (omega (arith, length-set out (2 * i) x, long, next.among)) (omega (arith, size, row_inside next))
        (e.is_copies ∙ ap (copies plan lattice.n zs) (row_number next) ∙ sym (map-copies plan lattice.n zs ks i (row_inside next)))
        (fill_more out map_of (2 * i) x 0 (omega (arith, next.number)) (omega (arith, long, next.among)) (omega (arith, size, row_inside next))
        (e.is_residue ∙ ap (residue_by lattice) (row_number next) ∙ sym (map-residue plan lattice.n zs ks i (row_inside next))) so_far))

    module _ (sums : List ℤ) {y : ℕ} (here : y ≡ x) (fits : mag (get_or sums y (pos 0)) < 2 ^ 63) where
      -- the sum that is read is that at its residue, so the test of it is the row's
      sum_read : read_sum sums y ≡ get_or sums (residue_by lattice k) (pos 0)
      sum_read = to_z-of_z {w = w64} {z = get_or sums y (pos 0)} (sfits_of fits) ∙ ap (λ (r : ℕ). get_or sums r (pos 0)) (here ∙ e.is_residue)

      gather_test : divides (read_sum sums y) c ≡ gathers plan lattice.n zs sums k
      gather_test = ap (λ (s : ℤ). divides s c) sum_read ∙ ap (divides (get_or sums (residue_by lattice k) (pos 0))) e.is_copies

      -- where all rows pass, there is a quotient
      pub term_some : {o : Option ℤ} → every (gathers (plan_number lattice.rows.plan) lattice.n (map pos lattice.z.now) sums) (rows_in lattice.rows) ≡ true → o ≡ None → QuotientIs (read_sum sums y) c o → ⊥
      term_some all none found =
          true≢false (sym (every_true (gathers plan lattice.n zs sums) ks all k (row_listed next)) ∙ sym gather_test ∙ subst (QuotientIs (read_sum sums y) c) none found)

      -- it is the row's term, and is written
      pub terms_more :
          (terms : List ℤ) {v : ℤ} → QuotientIs (read_sum sums y) c (Some v) → length terms ≡ row_count lattice.rows.d lattice.rows.numbers.now → take j terms ≡ take j (terms_of sums)
          → take (j + 1) (set terms i (to_z w32 (of_z w32 v))) ≡ take (j + 1) (terms_of sums)
      terms_more terms {v} found long =
          fill_more terms (terms_of sums) i (to_z w32 (of_z w32 v)) (pos 0) next.number (omega (arith, next.among, long)) (omega (arith, row_inside next, length-map ks term)) (
          ap (λ (u : ℤ). to_z w32 (of_z w32 u)) is
          ∙ to_z-of_z (short (get_or sums (residue_by lattice k) (pos 0)) (copies plan lattice.n zs k) (sym gather_test ∙ found.0))
          ∙ ap term (row_number next)
          ∙ sym (get_or-map term ks i [] (pos 0) (row_inside next))
          )
        where
          term : List ℤ → ℤ
          term = gathered_term plan lattice.n zs sums

          is : v ≡ term k
          is =
              found.1
              ∙ ap (λ (s : ℤ). quot_z s (pos c)) sum_read
              ∙ ap (λ (b : ℕ). quot_z (get_or sums (residue_by lattice k) (pos 0)) (pos b)) e.is_copies
