-- How the members are made. A row's mirrors come by doubling (`first_mirror`, `mirrors_zero`, `doubled-all`): what stands there at
-- axis a are mirrors of the row, and all of those that have its components from a on; behind the last axis these are all (`same_end`).
-- Written behind the members of the rows before it, they are the members of one row more (`gathering_more`).
use mathlib.Core.Path.{◌≡◌, refl, sym, ◌∙◌, ap, subst}
use mathlib.Core.Logic.{◌⊎◌, inl, inr, ⊎_elim}
use mathlib.Core.Bool.{Bool, true, false, cond, true≢false}
use mathlib.Core.List.Memᴰ
use mathlib.Core.List.{List, [], ◌∷◌, ◌++◌, map, map-append, append_assoc, Memᴰ}
use Prim.Native.Nat.{ℕ, suc, ◌+◌, ◌-◌, ◌*◌, ◌<◌, ◌≤◌, zero-le}
use native.Mathlib.Nat.{suc_inj, suc-mul, add_assoc, mul-le-mul_right}
use native.Mathlib.Numerals.{add-one}
use native.Mathlib.Decide.{ℕ_discrete, dec_le}
use native.Mathlib.Omega.{arith}
use lib.Dec.{leb}
use lib.IntN.{ℤ, pos, negsuc, nat_abs, neg_ℤ}
use lib.ListN.{length, get_or, take, drop, length-append, drop_of_length-le, get_or-append, get_or-eq_default}
use lib.Seq.{ext_get_or, paste, take_all, take-suc, drop_at, get_or-take, get_or-drop, get_or-append_seam}
use Rattle.rank1.specs.Index.{rows_of, mirrors}
use Rattle.rank1.specs.Sums.{mirrors_under}
use Rattle.rank1.specs.Axes.{flip}
use Rattle.rank1.proofs.Distinct.{Place, place_of}
use Rattle.rank1.proofs.IndexLaws.{rows-length, row_at_lem, rows_snoc}
use Rattle.rank1.proofs.MirrorLaws.{same_length, sizes_at, abs_zero, mirror-sizes, sizes-mirror, mirror_self}
use Rattle.rank1.proofs.FlipLaws.{flip_at, flip_other, flip-flip, flip-sizes}
use Rattle.planner.specs.Sizes.{axes, most_members, largest_component, largest_size}
use Rattle.planner.specs.Inner.{Covered, row_at}
use Rattle.planner.specs.declared.members.Members.{Members}
use Rattle.planner.specs.Members.{members_of, MemberAt, Gathering, SmallRow, SameFrom, members_from, Pushed, MembersStay, Doubled, Mirroring, RowMembers}
use Rattle.planner.proofs.RowLaws.{row_joined, row_among, rows_stay, rows-from, rows-from-length, row-behind}

-- ---- the mirrors of a row, by doubling
-- numbers of one size are equal or opposite
same_or_opposite : (x y : ℤ) → nat_abs x ≡ nat_abs y → (x ≡ y) ⊎ (neg_ℤ x ≡ y)
same_or_opposite (pos a) (pos b) e = inl (ap pos e)
same_or_opposite (pos a) (negsuc b) e = inr (ap (λ (n : ℕ). neg_ℤ (pos n)) e)
same_or_opposite (negsuc a) (pos b) e = inr (ap pos e)
same_or_opposite (negsuc a) (negsuc b) e = inl (ap negsuc (suc_inj e))

-- a mirror with the other sign at an axis is a mirror
flip-mirror : (k s : List ℤ) (a : ℕ) → Memᴰ s (mirrors k) → Memᴰ (flip a s) (mirrors k)
flip-mirror k s a m = sizes-mirror k (flip a s) (flip-sizes a s ∙ mirror-sizes k s m)

-- mirrors have no larger components than the row
pub mirror_small : (k s : List ℤ) → SmallRow k → Memᴰ s (mirrors k) → SmallRow s
mirror_small k s h m j = omega (arith, h j, sizes_at s k (mirror-sizes k s m) j)

-- one axis more at which two rows have the same component
same_more : (a : ℕ) (s k : List ℤ) → get_or s a (pos 0) ≡ get_or k a (pos 0) → SameFrom (a + 1) s k → SameFrom a s k
same_more a s k e h j l = go (ℕ_discrete j a)
  where
    go : Dec (j ≡ a) → get_or s j (pos 0) ≡ get_or k j (pos 0)
    go (yes q) = ap (λ (i : ℕ). get_or s i (pos 0)) q ∙ e ∙ ap (λ (i : ℕ). get_or k i (pos 0)) (sym q)
    go (no q) = h j (omega arith)

-- the row itself is the only mirror with all its components
pub first_mirror : (k s : List ℤ) → Memᴰ s (mirrors k) → SameFrom 0 s k → Memᴰ s (k ∷ [])
first_mirror k s m h = Memᴰ.head (ext_get_or (pos 0) s k (same_length s k (mirror-sizes k s m)) (λ i l. h i zero-le))

-- where the row is 0, so is each mirror
pub mirrors_zero : (k s : List ℤ) (a : ℕ) → get_or k a (pos 0) ≡ pos 0 → Memᴰ s (mirrors k) → SameFrom (a + 1) s k → SameFrom a s k
mirrors_zero k s a e m h = same_more a s k (abs_zero (get_or s a (pos 0)) (sizes_at s k (mirror-sizes k s m) a ∙ ap nat_abs e) ∙ sym e) h

-- elsewhere it has the row's component, or has it with the other sign
same_or_flipped : (k s : List ℤ) (a : ℕ) → Memᴰ s (mirrors k) → SameFrom (a + 1) s k → SameFrom a s k ⊎ SameFrom a (flip a s) k
same_or_flipped k s a m h =
    ⊎_elim
    (λ e. inl (same_more a s k e h))
    (λ e. inr (same_more a (flip a s) k (flip_at a s ∙ e) (λ j l. flip_other a j s (λ q. omega arith) ∙ h j l)))
    (same_or_opposite (get_or s a (pos 0)) (get_or k a (pos 0)) (sizes_at s k (mirror-sizes k s m) a))

-- behind the last axis no components are left
pub same_end : (k s : List ℤ) (d : ℕ) → length k ≡ d → Memᴰ s (mirrors k) → SameFrom d s k
same_end k s d e m j l =
    get_or-eq_default s (pos 0) {n = j} (omega (arith, same_length s k (mirror-sizes k s m)))
    ∙ sym (get_or-eq_default k (pos 0) {n = j} (omega arith))

-- mirrors, and once more with the other sign at axis a: mirrors
pub doubled-kin :
    (k : List ℤ) (a : ℕ) (ss : List (List ℤ)) → ((s : List ℤ) → Memᴰ s ss → Memᴰ s (mirrors k))
    → (s : List ℤ) → Memᴰ s (ss ++ map (flip a) ss) → Memᴰ s (mirrors k)
doubled-kin k a ss kin s m =
    ⊎_elim (kin s)
    (λ n. let t = Memᴰ.of_map (flip a) ss n in subst (λ (r : List ℤ). Memᴰ r (mirrors k)) t.2 (flip-mirror k t.0 a (kin t.0 t.1)))
    (Memᴰ.append_cases ss m)

-- and where all were there that have the row's components from axis a on, all are now that have them behind a
pub doubled-all :
    (k : List ℤ) (a : ℕ) (ss : List (List ℤ)) → ((s : List ℤ) → Memᴰ s (mirrors k) → SameFrom a s k → Memᴰ s ss)
    → (s : List ℤ) → Memᴰ s (mirrors k) → SameFrom (a + 1) s k → Memᴰ s (ss ++ map (flip a) ss)
doubled-all k a ss all s m h =
    ⊎_elim
    (λ f. Memᴰ.append_left (map (flip a) ss) (all s m f))
    (λ f. Memᴰ.append_right ss (Memᴰ.cast (sym (flip-flip a s)) (Memᴰ.map (flip a) (all (flip a s) (flip-mirror k s a m) f))))
    (same_or_flipped k s a m h)

-- ---- rows once more behind the others
-- there is room for one more
pub member_room : (d : ℕ) (m : Members) → d ≤ axes → length m.rows ≡ most_members * axes → m.count < most_members → m.count * d + d ≤ length m.rows
member_room d m f e l = omega (arith, suc-mul m.count d, mul-le-mul_right {m = suc m.count} {n = most_members} d l)

module _ (d from n axis owner : ℕ) (old mid : Members) (s : Doubled d from n axis owner old mid) (l : from + n < old.count) where
  -- the next one is as it was
  doubled_next : get_or (members_of d mid) (from + n) [] ≡ get_or (members_of d old) (from + n) []
  doubled_next =
      ap (λ (ks : List (List ℤ)). get_or ks (from + n) []) s.rows
      ∙ get_or-append (members_of d old) (map (flip axis) (take n (members_from d from old))) [] (from + n)
      (omega (arith, rows-length d old.count old.rows))

  -- one more
  doubled-more :
      (new : Members) → Pushed d (flip axis (get_or (members_of d mid) (from + n) [])) owner mid new
      → Doubled d from (n + 1) axis owner old new
  doubled-more new p = record {
    count = p.count ∙ ap (λ (c : ℕ). c + 1) s.count ∙ add_assoc old.count n 1;
    whole = p.whole ∙ s.whole;
    rows =
        p.rows
        ∙ ap (λ (ks : List (List ℤ)). ks ++ (next ∷ [])) s.rows
        ∙ append_assoc (members_of d old) (map (flip axis) (take n block)) (next ∷ [])
        ∙ ap (λ (ks : List (List ℤ)). members_of d old ++ ks) copied;
    kept = λ i g. p.kept i (omega (arith, s.count)) ∙ s.kept i g;
    owned = λ i f g. go i f g (ℕ_discrete i mid.count);
  }
    where
      block : List (List ℤ)
      block = members_from d from old

      next : List ℤ
      next = flip axis (get_or (members_of d mid) (from + n) [])

      copied : map (flip axis) (take n block) ++ (next ∷ []) ≡ map (flip axis) (take (n + 1) block)
      copied =
          ap (λ (k : List ℤ). map (flip axis) (take n block) ++ (flip axis k ∷ [])) (doubled_next ∙ sym (get_or-drop from (members_of d old) n []))
          ∙ sym (map-append (flip axis) (take n block) (get_or block n [] ∷ []))
          ∙ ap (map (flip axis))
          (sym (take-suc block n [] (omega (arith, rows-from-length d from old.count old.rows))) ∙ ap (λ (m : ℕ). take m block) (sym (add-one n)))

      go : (i : ℕ) → old.count ≤ i → i < new.count → Dec (i ≡ mid.count) → get_or new.owners i 0 ≡ owner
      go i f g (yes q) = ap (λ (j : ℕ). get_or new.owners j 0) q ∙ p.owned
      go i f g (no q) = let h : i < mid.count = omega (arith, p.count) in p.kept i h ∙ s.owned i f h

-- the same by the number i of the member
module _ (d from i axis owner : ℕ) (old mid : Members) (s : Doubled d from (i - from) axis owner old mid) (f : from ≤ i) (l : i < old.count) where
  number : from + (i - from) ≡ i
  number = omega arith

  pub doubled-as : get_or (members_of d mid) i [] ≡ get_or (members_of d old) i []
  doubled-as =
      subst (λ (k : ℕ). get_or (members_of d mid) k [] ≡ get_or (members_of d old) k []) number
      (doubled_next d from (i - from) axis owner old mid s (omega arith))

  pub doubled-once :
      (new : Members) → Pushed d (flip axis (get_or (members_of d mid) i [])) owner mid new
      → Doubled d from (i + 1 - from) axis owner old new
  doubled-once new p =
      subst (λ (n : ℕ). Doubled d from n axis owner old new) (omega arith)
      (doubled-more d from (i - from) axis owner old mid s (omega arith) new
      (subst (λ (k : ℕ). Pushed d (flip axis (get_or (members_of d mid) k [])) owner mid new) (sym number) p))

-- all of them
doubled-block :
    (d from axis owner : ℕ) (old new : Members) → from ≤ old.count → Doubled d from (old.count - from) axis owner old new
    → members_from d from new ≡ members_from d from old ++ map (flip axis) (members_from d from old)
doubled-block d from axis owner old new l s =
    rows-from d from old.count new.count new.rows old.rows (map (flip axis) (take (old.count - from) block)) l s.rows
    ∙ ap (λ (ks : List (List ℤ)). block ++ map (flip axis) ks)
    (take_all (old.count - from) block (omega (arith, rows-from-length d from old.count old.rows)))
  where
    block : List (List ℤ)
    block = members_from d from old

-- ---- what stands before stays
-- the same members, which are not all
abbrev pub some : (m : Members) → m.count ≤ most_members → Members
some m few = record { rows = m.rows; owners = m.owners; count = m.count; whole = false; few = few }

pub stay_some : (d from : ℕ) (m : Members) (few : m.count ≤ most_members) → MembersStay d from m (some m few)
stay_some d from m few = record { rows = refl; owned = λ e l. refl; was = λ w. absurd (true≢false (sym w)) }

-- through two steps
pub stay_then : (d from : ℕ) (a b c : Members) → MembersStay d from a b → MembersStay d from b c → MembersStay d from a c
stay_then d from a b c s t = record { rows = t.rows ∙ s.rows; owned = λ e l. t.owned e l ∙ s.owned e l; was = λ w. s.was (t.was w) }

-- where a row comes behind
pub stay-pushed : (d owner : ℕ) (k : List ℤ) (old new : Members) → Pushed d k owner old new → MembersStay d old.count old new
stay-pushed d owner k old new p = record {
  rows = rows_stay d old.count old.count new.count new.rows old.rows (k ∷ []) (omega arith) (omega (arith, p.count)) p.rows;
  owned = p.kept;
  was = λ w. sym p.whole ∙ w;
}

-- and where some stand once more
pub stay-doubled :
    (d from n axis owner : ℕ) (old new : Members) → from ≤ old.count → Doubled d from n axis owner old new → MembersStay d from old new
stay-doubled d from n axis owner old new l s = record {
  rows = rows_stay d from old.count new.count new.rows old.rows (map (flip axis) (take n (members_from d from old))) l (omega (arith, s.count)) s.rows;
  owned = λ e h. s.kept e (omega arith);
  was = λ w. sym s.whole ∙ w;
}

-- ---- one row's mirrors in the table
module _ (d owner : ℕ) (k : List ℤ) where
  -- the row, behind the others, stands alone
  alone : (old new : Members) → Pushed d k owner old new → members_from d old.count new ≡ k ∷ []
  alone old new p = ap (drop old.count) p.rows ∙ drop_at (members_of d old) (k ∷ []) old.count (rows-length d old.count old.rows)

  -- with its owner beside it, it is the first of its mirrors
  pub mirroring-first :
      (old new : Members) → d ≤ axes → length k ≡ d → SmallRow k → Pushed d k owner old new → Mirroring d 0 old.count owner k new
  mirroring-first old new r e f p = record {
    few_axes = r;
    size = e;
    small = f;
    within = omega (arith, p.count);
    owned = λ i a b. owned i (omega (arith, p.count));
    kin = λ s m. Memᴰ.cast (Memᴰ.eq_of_singleton (subst (Memᴰ s) (alone old new p) m)) (mirror_self k);
    all = λ w s m h. subst (Memᴰ s) (sym (alone old new p)) (first_mirror k s m h);
  }
    where
      owned : (i : ℕ) → i ≡ old.count → get_or new.owners i 0 ≡ owner
      owned i q = ap (λ (j : ℕ). get_or new.owners j 0) q ∙ p.owned

  -- the row is 0 at an axis
  pub mirroring-zero : (a from : ℕ) (m : Members) → get_or k a (pos 0) ≡ pos 0 → Mirroring d a from owner k m → Mirroring d (a + 1) from owner k m
  mirroring-zero a from m e t = record {
    few_axes = t.few_axes;
    size = t.size;
    small = t.small;
    within = t.within;
    owned = t.owned;
    kin = t.kin;
    all = λ w s m h. t.all w s m (mirrors_zero k s a e m h);
  }

  -- any other axis
  pub mirroring-doubled :
      (a from : ℕ) (old new : Members) → Mirroring d a from owner k old → Doubled d from (old.count - from) a owner old new → Mirroring d (a + 1) from owner k new
  mirroring-doubled a from old new t s = record {
    few_axes = t.few_axes;
    size = t.size;
    small = t.small;
    within = omega (arith, t.within, s.count);
    owned = λ e f g. owned e f g (dec_le old.count e);
    kin = λ i m. doubled-kin k a block t.kin i (subst (Memᴰ i) now m);
    all = λ w i m h. subst (Memᴰ i) (sym now) (doubled-all k a block (t.all (sym s.whole ∙ w)) i m h);
  }
    where
      block : List (List ℤ)
      block = members_from d from old

      now : members_from d from new ≡ block ++ map (flip a) block
      now = doubled-block d from a owner old new t.within s

      owned : (e : ℕ) → from ≤ e → e < new.count → Dec (old.count ≤ e) → get_or new.owners e 0 ≡ owner
      owned e f g (yes h) = s.owned e h g
      owned e f g (no h) = s.kept e (omega arith) ∙ t.owned e f (omega arith)

-- ---- the members of one row more
-- there is no room for any
pub row-full : (plan d owner : ℕ) (k : List ℤ) (m : Members) → d ≤ axes → (few : m.count ≤ most_members) → RowMembers plan d m.count owner k (some m few)
row-full plan d owner k m r few = record {
  few_axes = r;
  within = omega arith;
  owned = λ e f g. absurd (omega arith);
  kin = λ s i. absurd (Memᴰ.not-nil (subst (Memᴰ s) none i));
  all = λ w. absurd (true≢false (sym w));
}
  where
    none : members_from d m.count m ≡ []
    none = drop_of_length-le (members_of d m) {i = m.count} (omega (arith, rows-length d m.count m.rows))

-- plans 0 and 1: the row alone
pub row-alone :
    (plan d owner : ℕ) (k : List ℤ) (old new : Members) → leb 2 plan ≡ false → Pushed d k owner old new → Mirroring d 0 old.count owner k new
    → RowMembers plan d old.count owner k new
row-alone plan d owner k old new l p t = record {
  few_axes = t.few_axes;
  within = t.within;
  owned = t.owned;
  kin = λ s m. subst (Memᴰ s) same m;
  all = λ w s m. subst (Memᴰ s) (sym same) m;
}
  where
    same : members_from d old.count new ≡ mirrors_under plan k
    same = alone d owner k old new p ∙ sym (ap (λ (b : Bool). cond b (mirrors k) (k ∷ [])) l)

-- plans 2 to 4: all its mirrors
pub row-mirrors :
    (plan d from owner : ℕ) (k : List ℤ) (m : Members) → leb 2 plan ≡ true → Mirroring d d from owner k m → RowMembers plan d from owner k m
row-mirrors plan d from owner k m l t = record {
  few_axes = t.few_axes;
  within = t.within;
  owned = t.owned;
  kin = λ s i. subst (Memᴰ s) (sym many) (t.kin s i);
  all = λ w s i. let j = subst (Memᴰ s) many i in t.all w s j (same_end k s d t.size j);
}
  where
    many : mirrors_under plan k ≡ mirrors k
    many = ap (λ (b : Bool). cond b (mirrors k) (k ∷ [])) l

-- ---- the members of a list
-- of one row more: the members before it stay
module _ (plan d : ℕ) (ks : List (List ℤ)) (k : List ℤ) (old new : Members) (g : Gathering plan d ks old) (s : MembersStay d old.count old new)
    (r : RowMembers plan d old.count (length ks) k new) where
  -- the rows before it keep their numbers
  before : (i : ℕ) → i < length ks → get_or (ks ++ (k ∷ [])) i [] ≡ get_or ks i []
  before i l = get_or-append ks (k ∷ []) [] i l

  -- and it has the next one
  last : (i : ℕ) → i ≡ length ks → get_or (ks ++ (k ∷ [])) i [] ≡ k
  last i e = ap (λ (j : ℕ). get_or (ks ++ (k ∷ [])) j []) e ∙ get_or-append_seam ks k [] []

  -- a member that was there
  stayed : (e : ℕ) → e < old.count → get_or (members_of d new) e [] ≡ get_or (members_of d old) e []
  stayed e l =
      row_among d new.count old.count e new.rows (omega (arith, r.within)) l ∙ ap (λ (ls : List (List ℤ)). get_or ls e []) s.rows

  -- each member is one of a row's mirrors
  kin :
      (e : ℕ) → e < new.count → Dec (old.count ≤ e)
      → (get_or new.owners e 0 < length (ks ++ (k ∷ []))) × Memᴰ (get_or (members_of d new) e []) (mirrors_under plan (get_or (ks ++ (k ∷ [])) (get_or new.owners e 0) []))
  kin e l (yes f) = (
    omega (arith, r.owned e f l, length-append ks (k ∷ [])),
    subst (λ (h : List ℤ). Memᴰ (get_or (members_of d new) e []) (mirrors_under plan h)) (sym (last (get_or new.owners e 0) (r.owned e f l)))
        (r.kin (get_or (members_of d new) e []) (row-behind d old.count new.count e new.rows f l)),
  )
  kin e l (no f) =
      let i : e < old.count = omega arith in
      let p = g.known.kin e i in
      let o = s.owned e i in (
        omega (arith, p.0, o, length-append ks (k ∷ [])),
        subst (λ (h : List ℤ). Memᴰ (get_or (members_of d new) e []) (mirrors_under plan h))
            (sym (ap (λ (j : ℕ). get_or (ks ++ (k ∷ [])) j []) o ∙ before (get_or old.owners e 0) p.0))
            (Memᴰ.cast (stayed e i) p.1),
      )

  -- and each of these a member
  there :
      new.whole ≡ true → (i : ℕ) → i < length (ks ++ (k ∷ [])) → Dec (length ks ≤ i)
      → (t : List ℤ) → Memᴰ t (mirrors_under plan (get_or (ks ++ (k ∷ [])) i [])) → MemberAt d i new t
  there w i l (yes f) t m =
      found (place_of (members_from d old.count new) t [] (r.all w t (subst (λ (u : List ℤ). Memᴰ t (mirrors_under plan u)) (last i is) m)))
    where
      is : i ≡ length ks
      is = omega (arith, length-append ks (k ∷ []))

      found : Place (members_from d old.count new) t [] → MemberAt d i new t
      found p = record {
        place = old.count + p.index;
        inside = inner;
        owned = r.owned (old.count + p.index) (omega arith) inner ∙ sym is;
        is = sym (get_or-drop old.count (members_of d new) p.index []) ∙ p.is;
      }
        where
          inner : old.count + p.index < new.count
          inner = omega (arith, p.inside, rows-from-length d old.count new.count new.rows)
  there w i l (no f) t m =
      moved ((g.all (s.was w)).there i (omega arith) t (subst (λ (u : List ℤ). Memᴰ t (mirrors_under plan u)) (before i (omega arith)) m))
    where
      moved : MemberAt d i old t → MemberAt d i new t
      moved p = record {
        place = p.place;
        inside = omega (arith, p.inside, r.within);
        owned = s.owned p.place p.inside ∙ p.owned;
        is = stayed p.place p.inside ∙ p.is;
      }

  -- both together; all are there where they were before and all of this row are
  gathering_more : Gathering plan d (ks ++ (k ∷ [])) new
  gathering_more = record {
    known = record { few_axes = r.few_axes; kin = λ e l. kin e l (dec_le old.count e) };
    all = λ w. record { there = λ i l t m. there w i l (dec_le (length ks) i) t m };
  }

-- the same by the row's number
pub gathering-next :
    (plan d i : ℕ) (rows k : List ℤ) (old new : Members) → k ≡ row_at d rows i → Gathering plan d (rows_of d i rows) old
    → MembersStay d old.count old new → RowMembers plan d old.count i k new → Gathering plan d (rows_of d (i + 1) rows) new
gathering-next plan d i rows k old new e g s r =
    subst (λ (ks : List (List ℤ)). Gathering plan d ks new) (sym more)
    (gathering_more plan d (rows_of d i rows) k old new g s (subst (λ (o : ℕ). RowMembers plan d old.count o k new) (sym (rows-length d i rows)) r))
  where
    more : rows_of d (i + 1) rows ≡ rows_of d i rows ++ (k ∷ [])
    more =
        ap (λ (n : ℕ). rows_of d n rows) (add-one i)
        ∙ rows_snoc d i rows
        ∙ ap (λ (r : List ℤ). rows_of d i rows ++ (r ∷ [])) (sym e)

-- a row of a list has no larger components than the list
pub row_small :
    (d i : ℕ) (rows k : List ℤ) → SmallRow rows → k ≡ row_at d rows i → length k ≡ d → SmallRow k
row_small d i rows k h e l j = go (dec_le d j)
  where
    go : Dec (d ≤ j) → nat_abs (get_or k j (pos 0)) ≤ largest_component
    go (yes f) = subst (λ (x : ℤ). nat_abs x ≤ largest_component) (sym (get_or-eq_default k (pos 0) {n = j} (omega arith))) zero-le
    go (no f) =
        subst (λ (x : ℤ). nat_abs x ≤ largest_component)
        (sym (ap (λ (r : List ℤ). get_or r j (pos 0)) e ∙ get_or-take d (drop (i * d) rows) j (pos 0) (omega arith) ∙ get_or-drop (i * d) rows j (pos 0)))
        (h (i * d + j))

-- ---- adding one
-- member i, as it is read
member_is : (d i : ℕ) (m : Members) (row : List ℤ) → i < m.count → row ≡ row_at d m.rows i → row ≡ get_or (members_of d m) i []
member_is d i m row l e = e ∙ sym (row_at_lem d m.count m.rows i l)

-- and with the other sign at the axis
pub flip-is :
    (d i axis : ℕ) (m : Members) (row h : List ℤ) → i < m.count → row ≡ row_at d m.rows i → h ≡ flip axis row
    → h ≡ flip axis (get_or (members_of d m) i [])
flip-is d i axis m row h l e f = f ∙ ap (flip axis) (member_is d i m row l e)

-- its components are no larger than those of differences
pub member_covered :
    (d i : ℕ) (m : Members) (row : List ℤ) → i < m.count → row ≡ row_at d m.rows i → SmallRow (get_or (members_of d m) i [])
    → Covered largest_size row
member_covered d i m row l e f =
    subst (Covered largest_size) (sym (member_is d i m row l e)) (record { narrow = omega arith; covered = λ j. omega (arith, f j) })

-- a row that is copied behind the others comes behind them
pub pushed-row :
    (row rows : List ℤ) (m : Members) → length row ≤ axes → length m.rows ≡ most_members * axes → m.count < most_members
    → rows ≡ paste m.rows (m.count * length row) row (length row)
    → rows_of (length row) (m.count + 1) rows ≡ members_of (length row) m ++ (row ∷ [])
pushed-row row rows m f e l p =
    ap (rows_of (length row) (m.count + 1)) p ∙ row_joined (length row) m.count m.rows row refl (member_room (length row) m f e l)

-- the same row in other words
pub pushed-as :
    (d owner : ℕ) (h k : List ℤ) (old new : Members) → h ≡ k → length h ≡ d → Pushed (length h) h owner old new → Pushed d k owner old new
pushed-as d owner h k old new e l p =
    subst (λ (n : ℕ). Pushed n k owner old new) l (subst (λ (r : List ℤ). Pushed (length h) r owner old new) e p)
