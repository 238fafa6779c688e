-- The mirrors of a row: their residues by doubling, from the last axis to the first. A component that is 0 leaves the residues as they
-- are; any other puts them once more behind, each with twice the residue of the product with the sign turned added. At the end: that a
-- lattice is ready for each of its rows.
use mathlib.Core.Path.{◌≡◌, refl, sym, ◌∙◌, ap, subst}
use mathlib.Core.List.{List, [], ◌∷◌, ◌++◌, map, map-map, map-append, append-nil, append_assoc, Memᴰ}
use Prim.Native.Nat.{ℕ, zero, suc, ◌+◌, ◌*◌, ◌%◌, ◌^◌, ◌<◌, ◌≤◌}
use native.Mathlib.Numerals.{add-one}
use native.Mathlib.Nat.{add-zero}
use native.Mathlib.Omega.{arith}
use denote.Ref.{Bor}
use lib.IntN.{ℤ, pos, negsuc, nat_abs, neg_ℤ, ◌+ℤ◌, ◌-ℤ◌, ◌*ℤ◌, +ℤ_idl, +ℤ_invr, +ℤ_comm, +ℤ_assoc, *ℤ-zero}
use lib.ListN.{length, get_or, take, drop, set, length-map, length-drop, length-set, take-append-drop, get_or-map, get_or-append}
use lib.Seq.{length-take-le, take-suc, take-suc-set, drop-cons, get_or-take, get_or-drop}
use lib.Pow.{pow_mono}
use mir.Syntax.{w16}
use mir.Val.{SFits, to_z, of_z}
use mir.Facts.{to_z-of_z}
use Rattle.std.specs.Iterator.{CallableAtEachTurn}
use Rattle.std.specs.Slice.Iter.{chunks_exact_steps}
use Rattle.std.specs.declared.slice.ChunksExact.{ChunksExact}
use Rattle.std.proofs.lemmas.List.{get_or-map as get_or-map_in}
use Rattle.rank1.specs.Residue.{residue, dot, residue_at}
use Rattle.rank1.specs.Index.{signs, headed, mirrors, row_count}
use Rattle.rank1.specs.Axes.{ZeroFrom}
use Rattle.rank1.proofs.Whole as W
use Rattle.rank1.proofs.ResidueLaws.{residue-add, residue-lt}
use Rattle.rank1.proofs.MirrorLaws.{mirrors-length}
use Rattle.rank1.proofs.FlipLaws.{size-neg}
use Rattle.rank1.proofs.IndexLaws.{RowPlace, row_out}
use Rattle.rank1.proofs.SumLaws.{nonzeros-le}
use Rattle.planner.specs.Sizes.{most_mirrors, largest_size, places}
use Rattle.planner.specs.Inner.{place, Prepared, RowReady}
use Rattle.planner.specs.Lists.{rows_in, ReadyRow}
use Rattle.planner.specs.declared.list.Rows.{Rows}
use Rattle.planner.specs.declared.lattice.Lattice.{Lattice}
use Rattle.planner.proofs.RowLaws.{row_long, FromFirst, Comes, row_listed, rows-served}
use Rattle.planner.proofs.products.ProductLaws.{small_fits, read_back, prepared_row}

-- ---- a component with its sign turned: 0 - x, which fits
module _ (x : ℤ) (h : nat_abs x ≤ largest_size) where
  minus : pos 0 -ℤ to_z w16 (of_z w16 x) ≡ neg_ℤ x
  minus = ap (λ (y : ℤ). pos 0 -ℤ y) (read_back x h) ∙ +ℤ_idl (neg_ℤ x)

  neg_small : nat_abs (neg_ℤ x) ≤ largest_size
  neg_small = omega (arith, size-neg x)

  pub minus_fits : SFits w16 (pos 0 -ℤ to_z w16 (of_z w16 x))
  minus_fits = subst (SFits w16) (sym minus) (small_fits (neg_ℤ x) neg_small)

  pub minus_is : to_z w16 (of_z w16 (pos 0 -ℤ to_z w16 (of_z w16 x))) ≡ neg_ℤ x
  minus_is = to_z-of_z minus_fits ∙ minus

-- ---- how many mirrors
-- a row of at most m components has at most 2 ^ m mirrors
pub mirrors_few : (k : List ℤ) (m : ℕ) → length k ≤ m → length (mirrors k) ≤ 2 ^ m
mirrors_few k m l = subst (λ (i : ℕ). i ≤ 2 ^ m) (sym (mirrors-length k)) (pow_mono (omega (arith, nonzeros-le k)))

-- ---- the residue of a row with one sign turned
-- with q = -r: q + d ≡ (r + d) + 2 q
turned : (q r d : ℤ) → r +ℤ q ≡ pos 0 → q +ℤ d ≡ (r +ℤ d) +ℤ (q +ℤ q)
turned q r d e =
    sym (W.middle r d q q ∙ ap (λ (k : ℤ). k +ℤ (d +ℤ q)) e ∙ +ℤ_idl (d +ℤ q) ∙ +ℤ_comm d q)

-- past the end of z there is nothing to turn
missing : (x : ℤ) → pos 0 ≡ pos 0 +ℤ (neg_ℤ x *ℤ pos 0 +ℤ neg_ℤ x *ℤ pos 0)
missing x = sym (ap (λ (k : ℤ). pos 0 +ℤ (k +ℤ k)) (*ℤ-zero (neg_ℤ x)))

-- the component x behind a turned: h·z grows by twice the product of -x
dot_turned : (a : List ℤ) (x : ℤ) (s z : List ℤ) → dot (a ++ (neg_ℤ x ∷ s)) z ≡ dot (a ++ (x ∷ s)) z +ℤ (neg_ℤ x *ℤ get_or z (length a) (pos 0) +ℤ neg_ℤ x *ℤ get_or z (length a) (pos 0))
dot_turned [] x s [] = missing x
dot_turned [] x s (y ∷ z) =
    turned (neg_ℤ x *ℤ y) (x *ℤ y) (dot s z) (ap (λ (k : ℤ). x *ℤ y +ℤ k) (W.neg-mul x y) ∙ +ℤ_invr (x *ℤ y))
dot_turned (b ∷ a) x s [] = missing x
dot_turned (b ∷ a) x s (y ∷ z) =
    ap (λ (k : ℤ). b *ℤ y +ℤ k) (dot_turned a x s z)
    ∙ sym (+ℤ_assoc (b *ℤ y) (dot (a ++ (x ∷ s)) z) (neg_ℤ x *ℤ get_or z (length a) (pos 0) +ℤ neg_ℤ x *ℤ get_or z (length a) (pos 0)))

-- the step: twice the residue of the product of -x
abbrev pub step : ℕ → ℤ → ℤ → ℕ
step n x y = (residue n (neg_ℤ x *ℤ y) + residue n (neg_ℤ x *ℤ y)) % n

residue_turned : (n : ℕ) (a : List ℤ) (x : ℤ) (s z : List ℤ) → 0 < n → residue_at n z (a ++ (neg_ℤ x ∷ s)) ≡ (residue_at n z (a ++ (x ∷ s)) + step n x (get_or z (length a) (pos 0))) % n
residue_turned n a x s z h =
    ap (residue n) (dot_turned a x s z)
    ∙ residue-add n (dot (a ++ (x ∷ s)) z) (q +ℤ q) h
    ∙ ap (λ (k : ℕ). (residue_at n z (a ++ (x ∷ s)) + k) % n) (residue-add n q q h)
  where
    q : ℤ
    q = neg_ℤ x *ℤ get_or z (length a) (pos 0)

-- ---- the residues of the mirrors of k behind the components a, one component more of k
map_same : {A B : Type 0} (f g : A → B) (l : List A) → ((x : A) → f x ≡ g x) → map f l ≡ map g l
map_same f g [] e = refl
map_same {B = B} f g (x ∷ l) e = ap (λ (y : B). y ∷ map f l) (e x) ∙ ap (λ (t : List B). g x ∷ t) (map_same f g l e)

abbrev pub behind : ℕ → List ℤ → List ℤ → List ℤ → List ℕ
behind n z a k = map (λ s. residue_at n z (a ++ s)) (mirrors k)

-- a head moved from the rests to the components before them
moved : (n : ℕ) (z a : List ℤ) (x : ℤ) (ss : List (List ℤ)) → map (λ s. residue_at n z (a ++ s)) (map (λ s. x ∷ s) ss) ≡ map (λ s. residue_at n z (a ++ (x ∷ []) ++ s)) ss
moved n z a x ss =
    map-map (λ s. residue_at n z (a ++ s)) (λ s. x ∷ s) ss
    ∙ map_same (λ s. residue_at n z (a ++ (x ∷ s))) (λ s. residue_at n z (a ++ (x ∷ []) ++ s)) ss (λ s. ap (residue_at n z) (sym (append_assoc a (x ∷ []) s)))

-- a head with its sign turned: the step added to each residue
reflected : (n : ℕ) (z a : List ℤ) (x : ℤ) (ss : List (List ℤ)) → 0 < n → map (λ s. residue_at n z (a ++ s)) (map (λ s. neg_ℤ x ∷ s) ss) ≡ map (λ r. (r + step n x (get_or z (length a) (pos 0))) % n) (map (λ s. residue_at n z (a ++ (x ∷ []) ++ s)) ss)
reflected n z a x ss h =
    map-map (λ s. residue_at n z (a ++ s)) (λ s. neg_ℤ x ∷ s) ss
    ∙ map_same (λ s. residue_at n z (a ++ (neg_ℤ x ∷ s))) (λ s. (residue_at n z (a ++ (x ∷ []) ++ s) + step n x (get_or z (length a) (pos 0))) % n) ss
    (λ s. residue_turned n a x s z h ∙ ap (λ (t : List ℤ). (residue_at n z t + step n x (get_or z (length a) (pos 0))) % n) (sym (append_assoc a (x ∷ []) s)))
    ∙ sym (map-map (λ r. (r + step n x (get_or z (length a) (pos 0))) % n) (λ s. residue_at n z (a ++ (x ∷ []) ++ s)) ss)

behind_zero : (n : ℕ) (z a k : List ℤ) (x : ℤ) → x ≡ pos 0 → behind n z a (x ∷ k) ≡ behind n z (a ++ (x ∷ [])) k
behind_zero n z a k x e =
    ap (λ (y : ℤ). behind n z a (y ∷ k)) e
    ∙ ap (map (λ s. residue_at n z (a ++ s))) (append-nil (map (λ s. pos 0 ∷ s) (mirrors k)))
    ∙ moved n z a (pos 0) (mirrors k)
    ∙ ap (λ (y : ℤ). behind n z (a ++ (y ∷ [])) k) (sym e)

two_signs : (x : ℤ) → (x ≡ pos 0 → ⊥) → signs x ≡ x ∷ neg_ℤ x ∷ []
two_signs (pos zero) e = absurd (e refl)
two_signs (pos (suc b)) e = refl
two_signs (negsuc b) e = refl

-- a component other than 0: the mirrors with its sign, then those with the sign turned
two_headed : (x : ℤ) (ss : List (List ℤ)) → (x ≡ pos 0 → ⊥) → headed (signs x) ss ≡ map (λ s. x ∷ s) ss ++ map (λ s. neg_ℤ x ∷ s) ss
two_headed x ss e =
    ap (λ (l : List ℤ). headed l ss) (two_signs x e)
    ∙ ap (λ (l : List (List ℤ)). map (λ s. x ∷ s) ss ++ l) (append-nil (map (λ s. neg_ℤ x ∷ s) ss))

behind_other : (n : ℕ) (z a k : List ℤ) (x : ℤ) → 0 < n → (x ≡ pos 0 → ⊥) → behind n z a (x ∷ k) ≡ behind n z (a ++ (x ∷ [])) k ++ map (λ r. (r + step n x (get_or z (length a) (pos 0))) % n) (behind n z (a ++ (x ∷ [])) k)
behind_other n z a k x h e =
    ap (map (λ s. residue_at n z (a ++ s))) (two_headed x (mirrors k) e)
    ∙ map-append (λ s. residue_at n z (a ++ s)) (map (λ s. x ∷ s) (mirrors k)) (map (λ s. neg_ℤ x ∷ s) (mirrors k))
    ∙ ap (λ (l : List ℕ). l ++ map (λ s. residue_at n z (a ++ s)) (map (λ s. neg_ℤ x ∷ s) (mirrors k))) (moved n z a x (mirrors k))
    ∙ ap (λ (l : List ℕ). behind n z (a ++ (x ∷ [])) k ++ l) (reflected n z a x (mirrors k) h)

-- ---- the residues of those mirrors of k that differ from it only from axis j on
abbrev pub from : ℕ → List ℤ → List ℤ → ℕ → List ℕ
from n z k j = behind n z (take j k) (drop j k)

pub from-length : (n : ℕ) (z k : List ℤ) (j : ℕ) → length (from n z k j) ≡ length (mirrors (drop j k))
from-length n z k j = length-map (mirrors (drop j k)) (λ s. residue_at n z (take j k ++ s))

module _ (n : ℕ) (z k : List ℤ) (j : ℕ) (l : j < length k) where
  -- component j leaves those behind and joins those before
  leaves : from n z k j ≡ behind n z (take j k) (get_or k j (pos 0) ∷ drop (suc j) k)
  leaves = ap (behind n z (take j k)) (drop-cons k j (pos 0) l)

  joins : behind n z (take j k ++ (get_or k j (pos 0) ∷ [])) (drop (suc j) k) ≡ from n z k (suc j)
  joins = ap (λ (a : List ℤ). behind n z a (drop (suc j) k)) (sym (take-suc k j (pos 0) l))

  -- where it is 0 nothing changes
  pub from_zero_lem : get_or k j (pos 0) ≡ pos 0 → from n z k j ≡ from n z k (suc j)
  from_zero_lem e = leaves ∙ behind_zero n z (take j k) (drop (suc j) k) (get_or k j (pos 0)) e ∙ joins

  -- else they double
  pub from_other : 0 < n → (get_or k j (pos 0) ≡ pos 0 → ⊥) → from n z k j ≡ from n z k (suc j) ++ map (λ r. (r + step n (get_or k j (pos 0)) (get_or z j (pos 0))) % n) (from n z k (suc j))
  from_other h e =
      leaves
      ∙ behind_other n z (take j k) (drop (suc j) k) (get_or k j (pos 0)) h e
      ∙ ap (doubled (behind n z (take j k ++ (get_or k j (pos 0) ∷ [])) (drop (suc j) k))) (length-take-le j k (omega arith))
      ∙ ap (λ (t : List ℕ). doubled t j) joins
    where
      doubled : List ℕ → ℕ → List ℕ
      doubled t i = t ++ map (λ r. (r + step n (get_or k j (pos 0)) (get_or z i (pos 0))) % n) t

-- a row of zeros is its only mirror
zero_mirrors : (k : List ℤ) → ZeroFrom 0 k → mirrors k ≡ k ∷ []
zero_mirrors [] e = refl
zero_mirrors (x ∷ k) e =
    ap (λ (y : ℤ). mirrors (y ∷ k)) first
    ∙ ap (headed (signs (pos 0))) (zero_mirrors k (λ i l. e (suc i) (omega arith)))
    ∙ ap (λ (y : ℤ). (y ∷ k) ∷ []) (sym first)
  where
    first : x ≡ pos 0
    first = e 0 (omega arith)

-- where the row is 0 from axis j on, its own residue alone
pub from_end : (n : ℕ) (z k : List ℤ) (j : ℕ) → ZeroFrom j k → from n z k j ≡ residue_at n z k ∷ []
from_end n z k j e =
    ap (map (λ s. residue_at n z (take j k ++ s))) (zero_mirrors (drop j k) (λ i l. get_or-drop j k i (pos 0) ∙ e (j + i) (omega arith)))
    ∙ ap (λ (t : List ℤ). residue_at n z t ∷ []) (take-append-drop j k)

-- ---- the first count entries once more behind them, each by f: t of them so far
pub record Repeated (f : ℕ → ℕ) (old : List ℕ) (count : ℕ) (out : List ℕ) (t : ℕ) : Type 0 where
  pub inside : t ≤ count
  pub size : length out ≡ length old
  pub front : take (count + t) out ≡ take count old ++ map f (take t old)

module _ (f : ℕ → ℕ) (old : List ℕ) (count : ℕ) (room : count + count ≤ length old) where
  pub repeated_none : Repeated f old count old 0
  repeated_none = record {
    inside = omega arith;
    size = refl;
    front = ap (λ (i : ℕ). take i old) (add-zero count) ∙ sym (append-nil (take count old));
  }

  module _ (out : List ℕ) (t : ℕ) (more : t < count) (r : Repeated f old count out t) where
    -- what is read at t is still the old entry
    pub repeated_at : get_or out t 0 ≡ get_or old t 0
    repeated_at =
        sym (get_or-take (count + t) out t 0 (omega arith))
        ∙ ap (λ (l : List ℕ). get_or l t 0) r.front
        ∙ get_or-append (take count old) (map f (take t old)) 0 t (omega (arith, length-take-le count old (omega arith)))
        ∙ get_or-take count old t 0 more

    pub repeated_more : (v : ℕ) → v ≡ f (get_or out t 0) → Repeated f old count (set out (count + t) v) (t + 1)
    repeated_more v e = record {
      inside = omega arith;
      size = length-set out (count + t) v ∙ r.size;
      front =
          ap (λ (i : ℕ). take i (set out (count + t) v)) next
          ∙ take-suc-set out (count + t) v (omega (arith, r.size))
          ∙ ap (λ (l : List ℕ). l ++ (v ∷ [])) r.front
          ∙ append_assoc (take count old) (map f (take t old)) (v ∷ [])
          ∙ ap (λ (l : List ℕ). take count old ++ l) one_more;
    }
      where
        next : count + (t + 1) ≡ suc (count + t)
        next = omega arith

        one_more : map f (take t old) ++ (v ∷ []) ≡ map f (take (t + 1) old)
        one_more =
            ap (λ (i : ℕ). map f (take t old) ++ (i ∷ [])) (e ∙ ap f repeated_at)
            ∙ sym (map-append f (take t old) (get_or old t 0 ∷ []))
            ∙ ap (map f) (sym (take-suc old t 0 (omega arith)) ∙ ap (λ (i : ℕ). take i old) (sym (add-one t)))

-- ---- the turns of the code: the count residues from axis j on stand at the front of a slice
pub record Doubling (n : ℕ) (z : List ℕ) (k : List ℤ) (out : List ℕ) (count j : ℕ) : Type 0 where
  pub inside : j ≤ length z
  pub room : length out ≡ most_mirrors
  pub residues : take count out ≡ from n (map pos z) k j
  pub number : count ≡ length (mirrors (drop j k))

pub take-one : (out : List ℕ) (r : ℕ) → 0 < length out → take 1 (set out 0 r) ≡ r ∷ []
take-one [] r l = absurd (omega arith)
take-one (y ∷ out) r l = refl

module _ {n : ℕ} {z : List ℕ} {k : List ℤ} {table : List ℕ} (ready : RowReady n z k table) where
  -- at z's length: the row's own residue
  pub doubling_start : (out : List ℕ) (r : ℕ) → length out ≡ most_mirrors → r ≡ residue_at n (map pos z) k → Doubling n z k (set out 0 r) 1 (length z)
  doubling_start out r l e = record {
    inside = omega arith;
    room = length-set out 0 r ∙ l;
    residues = take-one out r (omega arith) ∙ ap (λ (i : ℕ). i ∷ []) e ∙ sym alone;
    number = sym (sym (from-length n (map pos z) k (length z)) ∙ ap length alone);
  }
    where
      alone : from n (map pos z) k (length z) ≡ residue_at n (map pos z) k ∷ []
      alone = from_end n (map pos z) k (length z) ready.ended

  module _ {out : List ℕ} {count j : ℕ} (s : Doubling n z k out count (suc j)) where
    inner : j < length k
    inner = omega (arith, s.inside, ready.short)

    -- there is room for as many again
    pub doubling_half : count + count ≤ most_mirrors
    doubling_half = omega (arith, s.number, mirrors_few (drop (suc j) k) 5 (omega (arith, length-drop (suc j) k, ready.few_axes)))

    -- the entries are residues
    pub doubling_below : (t : ℕ) → t < count → get_or out t 0 < n
    doubling_below t l =
        subst (λ (i : ℕ). i < n) (sym same)
        (residue-lt n (dot (take (suc j) k ++ get_or (mirrors (drop (suc j) k)) t []) (map pos z)) ready.modulus.low)
      where
        same : get_or out t 0 ≡ residue_at n (map pos z) (take (suc j) k ++ get_or (mirrors (drop (suc j) k)) t [])
        same =
            sym (get_or-take count out t 0 l)
            ∙ ap (λ (r : List ℕ). get_or r t 0) s.residues
            ∙ get_or-map_in (λ h. residue_at n (map pos z) (take (suc j) k ++ h)) (mirrors (drop (suc j) k)) t [] 0 (omega (arith, s.number))

    -- a turn at a component that is 0
    pub doubling_zero : get_or k j (pos 0) ≡ pos 0 → Doubling n z k out count j
    doubling_zero e = record {
      inside = omega (arith, s.inside);
      room = s.room;
      residues = s.residues ∙ sym same;
      number = s.number ∙ sym (from-length n (map pos z) k (suc j)) ∙ ap length (sym same) ∙ from-length n (map pos z) k j;
    }
      where
        same : from n (map pos z) k j ≡ from n (map pos z) k (suc j)
        same = from_zero_lem n (map pos z) k j inner e

    -- a turn at any other, by the step v
    pub doubling_other : (new : List ℕ) (p v : ℕ) → (get_or k j (pos 0) ≡ pos 0 → ⊥)
        → length new ≡ length out
        → p ≡ residue n (neg_ℤ (get_or k j (pos 0)) *ℤ pos (get_or z j 0))
        → v ≡ (p + p) % n
        → take (count + count) new ≡ take count out ++ map (λ r. (r + v) % n) (take count out)
        → Doubling n z k new (count + count) j
    doubling_other new p v e l f u g = record {
      inside = omega (arith, s.inside);
      room = l ∙ s.room;
      residues = g ∙ same;
      number = total;
    }
      where
        stepped : v ≡ step n (get_or k j (pos 0)) (get_or (map pos z) j (pos 0))
        stepped = u ∙ ap (λ (q : ℕ). (q + q) % n) f ∙ ap (step n (get_or k j (pos 0))) (sym (get_or-map pos z j 0))

        same : take count out ++ map (λ r. (r + v) % n) (take count out) ≡ from n (map pos z) k j
        same =
            ap (λ (t : List ℕ). t ++ map (λ r. (r + v) % n) t) s.residues
            ∙ ap (λ (i : ℕ). from n (map pos z) k (suc j) ++ map (λ r. (r + i) % n) (from n (map pos z) k (suc j))) stepped
            ∙ sym (from_other n (map pos z) k j inner ready.modulus.low e)

        total : count + count ≡ length (mirrors (drop j k))
        total =
            sym (length-take-le (count + count) new (omega (arith, l, s.room, doubling_half)))
            ∙ ap length (g ∙ same)
            ∙ from-length n (map pos z) k j

    -- the product of the component with its sign turned stands in the table
    pub turned_product : get_or table (j * places + place (neg_ℤ (get_or k j (pos 0)))) 0 ≡ residue n (neg_ℤ (get_or k j (pos 0)) *ℤ pos (get_or z j 0))
    turned_product =
        ready.prepared.entry j j (neg_ℤ (get_or k j (pos 0))) (omega (arith, s.inside))
        (omega (arith, size-neg (get_or k j (pos 0))))

-- ---- what the residues of a row's mirrors ask holds for each row of a lattice
module _ (lattice : Lattice) where
  -- a row of the list
  pub listed-ready : (k : List ℤ) → Memᴰ k (rows_in lattice.rows) → ReadyRow lattice k
  listed-ready k m = record {
    modulus = lattice.ready.modulus;
    few_axes = omega (arith, long, rows.valid.few_axes);
    short = omega (arith, long, lattice.ready.short);
    ended = lattice.ready.ended k m;
    prepared =
        subst (λ (h : List ℤ). Prepared lattice.n lattice.z.now h lattice.products.now) (sym at.is)
        (prepared_row lattice.n rows.d (at.index * rows.d) lattice.z.now rows.numbers.now lattice.products.now lattice.ready.prepared);
  }
    where
      rows : Rows
      rows = lattice.rows

      at : RowPlace rows.d (row_count rows.d rows.numbers.now) rows.numbers.now k
      at = row_out rows.d (row_count rows.d rows.numbers.now) rows.numbers.now k m

      long : length k ≡ rows.d
      long = row_long rows k m

  -- the one that comes
  pub row-ready : {j i : ℕ} {k : List ℤ} → Comes lattice.rows j i k → ReadyRow lattice k
  row-ready {j} {i} {k} here = listed-ready k (row_listed here)

  -- each that `all` calls a closure with
  pub ready-served :
      {P : Type 0} {R : P → Bor (List ℤ) → P → Type 0} {Q : P → Bor (List ℤ) → Type 0} {s : ChunksExact ℤ} {p : P} → FromFirst lattice.rows s
      → ((k : Bor (List ℤ)) (q : P) → R p k q → q ≡ p) → ((k : Bor (List ℤ)) → ReadyRow lattice k.now → Q p k)
      → CallableAtEachTurn (chunks_exact_steps {A = ℤ}) R Q s p
  ready-served begins keeps serves = rows-served lattice.rows begins keeps (λ k m. serves k (listed-ready k.now m))
