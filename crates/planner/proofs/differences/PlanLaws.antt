-- The pairs by plan. Each pair that is gone through is one that the plan keeps apart, so its difference is avoided (`pairs_avoided`);
-- where all members are there, each pair that the plan keeps apart is gone through, as it stands or turned (`pairs_complete`, of any number of
-- members; of a table of them `members_complete`).
use mathlib.Core.Path.{◌≡◌, refl, sym, ◌∙◌, ap, subst}
use mathlib.Core.Logic.{◌≢◌, ◌⊎◌, inl, inr, ⊎_elim}
use mathlib.Core.Bool.{Bool, true, false, cond}
use mathlib.Core.List.Memᴰ
use mathlib.Core.List.{List, [], ◌∷◌, Memᴰ}
use Prim.Native.Nat.{ℕ, zero, suc, ◌+◌, ◌*◌, ◌<◌, ◌≤◌, zero-le}
use native.Mathlib.Nat.{zero-mul, mul-le-mul, mul-le-mul_right, div-eq_of_eq-mul_left}
use native.Mathlib.Omega.{arith}
use lib.Dec.{leb}
use lib.IntN.{ℤ, pos, nat_abs}
use lib.ListN.{length, get_or, take, drop, length-replicate}
use lib.Seq.{take_all}
use Rattle.rank1.specs.Index.{zero_row, mirrors, mirrored, row_count, rows_of, index_list}
use Rattle.rank1.specs.Rule.{Admissible}
use Rattle.rank1.specs.Sums.{mirrors_under}
use Rattle.rank1.specs.Valid.{ValidList}
use Rattle.rank1.specs.Differences.{minus, negative, Has, Avoided, Complete}
use Rattle.rank1.proofs.Distinct.{member_at, Place, place_of, distinct_at}
use Rattle.rank1.proofs.Order.{compared}
use Rattle.rank1.proofs.IndexLaws.{rows-length, row_at_lem, row_in, member_length}
use Rattle.rank1.proofs.MirrorLaws.{sizes, same_length, sizes_at, mirror-sizes, Mirror, mirror_self, mirrored_in, mirrored-out, same_row_lem}
use Rattle.rank1.proofs.SumLaws.{under_self}
use Rattle.rank1.proofs.DifferenceLaws.{minus-swap, minus-zeros, negative-negative, difference_avoided, negative_avoided}
use Rattle.planner.specs.Sizes.{axes, most_members, largest_component}
use Rattle.planner.specs.Inner.{Covered, row_at}
use Rattle.planner.specs.Members.{Kin, MemberAt, AllMembers}
use Rattle.planner.specs.declared.members.Members.{Members}
use Rattle.planner.specs.declared.table.Differences.{Differences}
use Rattle.std.proofs.Common.{Option}
use Rattle.planner.specs.Table.{Below, Pairs, Turns, MemberPair, PairsFrom, RowPairs, BehindPairs, PlanPairs, EitherSign, Made, GrownTo, RowRun, Pairable}
use Rattle.planner.proofs.products.ProductLaws.{covered_take, covered_drop}

-- ---- runs of rows
-- a mirror has the sizes of its row, under each plan
under-sizes : (plan : ℕ) (k s : List ℤ) → Memᴰ s (mirrors_under plan k) → sizes s ≡ sizes k
under-sizes plan k s = either (leb 2 plan)
  where
    either : (b : Bool) → Memᴰ s (cond b (mirrors k) (k ∷ [])) → sizes s ≡ sizes k
    either true m = mirror-sizes k s m
    either false m = ap sizes (Memᴰ.eq_of_singleton m)

-- a row of the list has components of index rows
row_covered : (plan d i : ℕ) (rows : List ℤ) → ValidList plan d rows → Covered largest_component (row_at d rows i)
row_covered plan d i rows v =
    covered_take largest_component d (drop (i * d) rows)
    (covered_drop largest_component (i * d) rows (record { narrow = omega arith; covered = v.small }))

-- the row of zeros alone
zero_row_lem : (d : ℕ) → row_at d (zero_row d) 0 ≡ zero_row d
zero_row_lem d = ap (λ (k : ℕ). take d (drop k (zero_row d))) (zero-mul d) ∙ take_all d (zero_row d) (omega (arith, length-replicate d (pos 0)))

-- it is the front of a longer one
pub front_zeros : (d m : ℕ) → d ≤ m → take d (zero_row m) ≡ zero_row d
front_zeros zero m l = refl
front_zeros (suc d) zero l = absurd (omega arith)
front_zeros (suc d) (suc m) l = ap (λ (k : List ℤ). pos 0 ∷ k) (front_zeros d m (omega arith))

-- it is one row
one_zeros : (d : ℕ) → 1 ≤ d → row_count d (zero_row d) ≡ 1
one_zeros d some = div-eq_of_eq-mul_left some (omega (arith, length-replicate d (pos 0)))

pub run-zeros : (d : ℕ) → 1 ≤ d → RowRun d (row_count d (zero_row d)) (zero_row d)
run-zeros d some e l = record {
  inside = omega (arith, l, one_zeros d some, length-replicate d (pos 0), mul-le-mul_right {m = e + 1} {n = 1} d (omega (arith, l, one_zeros d some)));
  small =
      covered_take largest_component d (drop (e * d) (zero_row d))
      (covered_drop largest_component (e * d) (zero_row d) (record { narrow = omega arith; covered = λ i. zeros d i }));
}
  where
    zeros : (d i : ℕ) → nat_abs (get_or (zero_row d) i (pos 0)) ≤ largest_component
    zeros zero i = zero-le
    zeros (suc d) zero = zero-le
    zeros (suc d) (suc i) = zeros d i

-- the rows of a list
pub listed-rows : (plan d : ℕ) (rows : List ℤ) → ValidList plan d rows → RowRun d (row_count d rows) rows
listed-rows plan d rows v i l = record {
  inside = omega (arith, v.whole, mul-le-mul_right {m = i + 1} {n = row_count d rows} d (omega (arith, l)));
  small = row_covered plan d i rows v;
}

-- ---- members
module _ (plan d : ℕ) (rows : List ℤ) (members : Members) (v : ValidList plan d rows) (kin : Kin plan d (index_list d rows) members) where
  -- the row that owns member e
  abbrev owner_of : ℕ → List ℤ
  owner_of e = get_or (index_list d rows) (get_or members.owners e 0) []

  owner_listed : (e : ℕ) → e < members.count → Memᴰ (owner_of e) (index_list d rows)
  owner_listed e l = member_at (index_list d rows) [] (get_or members.owners e 0) (kin.kin e l).0

  related : (e : ℕ) → e < members.count → Memᴰ (row_at d members.rows e) (mirrors_under plan (owner_of e))
  related e l = Memᴰ.cast (sym (row_at_lem d members.count members.rows e l)) (kin.kin e l).1

  -- its components are those of an index row
  owner_covered : (e : ℕ) → e < members.count → Covered largest_component (owner_of e)
  owner_covered e l =
      subst (Covered largest_component)
      (sym (row_at_lem d (row_count d rows) rows (get_or members.owners e 0) (omega (arith, (kin.kin e l).0, rows-length d (row_count d rows) rows))))
      (row_covered plan d (get_or members.owners e 0) rows v)

  member_sizes : (e : ℕ) → e < members.count → sizes (row_at d members.rows e) ≡ sizes (owner_of e)
  member_sizes e l = under-sizes plan (owner_of e) (row_at d members.rows e) (related e l)

  member_covered : (e : ℕ) → e < members.count → Covered largest_component (row_at d members.rows e)
  member_covered e l = record {
    narrow = omega arith;
    covered = λ i. omega (arith, sizes_at (row_at d members.rows e) (owner_of e) (member_sizes e l) i, (owner_covered e l).covered i);
  }

  pub listed-members : (level : Option ℕ) → length members.rows ≡ most_members * axes → Below level d → Pairable d level members
  listed-members level long inner = record {
    run = λ e l. record {
      inside = omega (arith, mul-le-mul {n₁ = e + 1} {m₁ = d} {n₂ = most_members} {m₂ = axes} (omega (arith, l, members.few)) v.few_axes);
      small = member_covered e l;
    };
    inner = inner;
  }

  member_size : (e : ℕ) → e < members.count → length (row_at d members.rows e) ≡ d
  member_size e l =
      same_length (row_at d members.rows e) (owner_of e) (member_sizes e l)
      ∙ member_length d (row_count d rows) rows (owner_of e) (omega (arith, v.whole)) (owner_listed e l)

  -- a member is a row of the list, where rows have no mirrors
  member_listed : (e : ℕ) → e < members.count → mirrors_under plan (owner_of e) ≡ owner_of e ∷ [] → Memᴰ (row_at d members.rows e) (index_list d rows)
  member_listed e l alone = Memᴰ.cast (Memᴰ.eq_of_singleton (subst (Memᴰ (row_at d members.rows e)) alone (related e l))) (owner_listed e l)

  -- it is a mirror of a row, where they have
  member-mirrored :
      (e : ℕ) → e < members.count → mirrors_under plan (owner_of e) ≡ mirrors (owner_of e)
      → Memᴰ (row_at d members.rows e) (mirrored (index_list d rows))
  member-mirrored e l all =
      mirrored_in (index_list d rows) (owner_of e) (row_at d members.rows e) (owner_listed e l) (subst (Memᴰ (row_at d members.rows e)) all (related e l))

-- different numbers are those of different rows
rows-differ :
    (plan d i j : ℕ) (rows : List ℤ) → ValidList plan d rows → i < length (index_list d rows) → j < length (index_list d rows) → i ≢ j
    → get_or (index_list d rows) i [] ≢ get_or (index_list d rows) j []
rows-differ plan d i j rows v l m n e =
    ⊎_elim (λ k. distinct_at (index_list d rows) [] i j v.different k m e)
    (⊎_elim (λ k. n k) (λ k. distinct_at (index_list d rows) [] j i v.different k l (sym e)))
    (compared i j)

-- ---- the five plans, one by one
by_plan : (P : ℕ → Type 0) → P 0 → P 1 → P 2 → P 3 → P 4 → (plan : ℕ) → plan ≤ 4 → P plan
by_plan P a b c d e zero l = a
by_plan P a b c d e (suc zero) l = b
by_plan P a b c d e (suc (suc zero)) l = c
by_plan P a b c d e (suc (suc (suc zero))) l = d
by_plan P a b c d e (suc (suc (suc (suc zero)))) l = e
by_plan P a b c d e (suc (suc (suc (suc (suc p))))) l = absurd (omega arith)

-- ---- each pair is kept apart
-- the difference of two different rows that are a pair of the plan is avoided
abbrev pub PairsAvoided : (plan d : ℕ) (rows : List ℤ) (members : Members) → Type 0
PairsAvoided plan d rows members =
    ValidList plan d rows → Kin plan d (index_list d rows) members
    → (s t : List ℤ) → PlanPairs plan d rows members s t → s ≢ t → Avoided (Admissible plan (index_list d rows)) (minus s t)

-- plan 0: a member that is not the row of zeros
avoided_zeros : (d : ℕ) (rows : List ℤ) (members : Members) → PairsAvoided 0 d rows members
avoided_zeros d rows members v kin s t p n =
    subst (Avoided (Admissible 0 (index_list d rows))) (sym (ap (minus s) zeros ∙ minus-zeros s))
    (difference_avoided 0 (index_list d rows) s [] (listed, (λ e. n (e ∙ sym zeros)), refl))
  where
    listed : Memᴰ s (index_list d rows)
    listed = Memᴰ.cast p.pair.pair.left (member_listed 0 d rows members v kin p.pair.turn p.pair.high refl)

    size : length s ≡ d
    size = ap length p.pair.pair.left ∙ member_size 0 d rows members v kin p.pair.turn p.pair.high

    zeros : t ≡ zero_row (length s)
    zeros = p.pair.pair.right ∙ ap (row_at d (zero_row d)) (omega (arith, p.high, one_zeros d v.some_axes)) ∙ zero_row_lem d ∙ ap zero_row (sym size)

-- plan 1: two members are two rows
avoided_rows : (d : ℕ) (rows : List ℤ) (members : Members) → PairsAvoided 1 d rows members
avoided_rows d rows members v kin s t p n =
    difference_avoided 1 (index_list d rows) s t (
      Memᴰ.cast p.pair.pair.left (member_listed 1 d rows members v kin p.pair.turn p.pair.high refl),
      Memᴰ.cast p.pair.pair.right (member_listed 1 d rows members v kin p.turn p.high refl),
      n,
    )

-- plan 2: two members are two mirrors
avoided_mirrors : (d : ℕ) (rows : List ℤ) (members : Members) → PairsAvoided 2 d rows members
avoided_mirrors d rows members v kin s t p n =
    difference_avoided 2 (index_list d rows) s t (
      Memᴰ.cast p.pair.pair.left (member-mirrored 2 d rows members v kin p.pair.turn p.pair.high refl),
      Memᴰ.cast p.pair.pair.right (member-mirrored 2 d rows members v kin p.turn p.high refl),
      n,
    )

-- plan 3: a mirror and another row
avoided_against : (d : ℕ) (rows : List ℤ) (members : Members) → PairsAvoided 3 d rows members
avoided_against d rows members v kin s t p n =
    difference_avoided 3 (index_list d rows) s t (
      owner_of 3 d rows members v kin p.pair.turn,
      Memᴰ.cast p.pair.pair.right (row_in d (row_count d rows) rows p.turn p.high),
      owner_listed 3 d rows members v kin p.pair.turn p.pair.high,
      Memᴰ.cast p.pair.pair.left (related 3 d rows members v kin p.pair.turn p.pair.high),
      n,
    )

-- plan 4: a mirror and a row that does not own it
avoided_others : (d : ℕ) (rows : List ℤ) (members : Members) → PairsAvoided 4 d rows members
avoided_others d rows members v kin s t p n =
    difference_avoided 4 (index_list d rows) s t (
      owner_of 4 d rows members v kin p.pair.turn,
      Memᴰ.cast p.pair.pair.right (row_in d (row_count d rows) rows p.turn p.high),
      owner_listed 4 d rows members v kin p.pair.turn p.pair.high,
      (λ e. rows-differ 4 d (get_or members.owners p.pair.turn 0) p.turn rows v (kin.kin p.pair.turn p.pair.high).0 inside (p.pair.pair.other refl) (sym e ∙ is)),
      Memᴰ.cast p.pair.pair.left (related 4 d rows members v kin p.pair.turn p.pair.high),
    )
  where
    inside : p.turn < length (index_list d rows)
    inside = omega (arith, p.high, rows-length d (row_count d rows) rows)

    is : t ≡ get_or (index_list d rows) p.turn []
    is = p.pair.pair.right ∙ sym (row_at_lem d (row_count d rows) rows p.turn p.high)

-- all plans
pub pairs_avoided : (plan d : ℕ) (rows : List ℤ) (members : Members) → plan ≤ 4 → PairsAvoided plan d rows members
pairs_avoided plan d rows members =
    by_plan (λ k. PairsAvoided k d rows members) (avoided_zeros d rows members) (avoided_rows d rows members) (avoided_mirrors d rows members)
    (avoided_against d rows members) (avoided_others d rows members) plan

-- ---- each pair that is kept apart is gone through
-- This is of any lists: of `count` members, the first rows of a run, and of the numbers of the rows that own them. Nothing bounds how many they are, as
-- the room in a table of members does. The words are those of specs/Members and specs/Table, which say the same of such a table (`members_complete`)
module _ (d count : ℕ) (members : List ℤ) (owners : List ℕ) where
  -- s is one of the members, and belongs to row i
  pub record MemberAmong (i : ℕ) (s : List ℤ) : Type 0 where
    pub place : ℕ
    pub inside : place < count
    pub owned : get_or owners place 0 ≡ i
    pub is : get_or (rows_of d count members) place [] ≡ s

  -- every mirror of every row of the list is among them
  pub record AllAmong (plan : ℕ) (ks : List (List ℤ)) : Type 0 where
    pub there : (i : ℕ) → i < length ks → (s : List ℤ) → Memᴰ s (mirrors_under plan (get_or ks i [])) → MemberAmong i s

  -- member e with row i; under plan 4 only where the row does not own it
  pub record PairAmong (plan : ℕ) (rows : List ℤ) (i e : ℕ) (s t : List ℤ) : Type 0 where
    pub other : plan ≡ 4 → get_or owners e 0 ≢ i
    pub left : s ≡ row_at d members e
    pub right : t ≡ row_at d rows i

  -- all members with each row
  abbrev pub RowsAmong : ℕ → List ℤ → Pairs
  RowsAmong plan rows = Turns 0 (row_count d rows) (λ i. Turns 0 count (PairAmong plan rows i))

  -- the members behind number i with member i, for each
  abbrev pub BehindAmong : ℕ → Pairs
  BehindAmong plan = Turns 0 count (λ i. Turns (i + 1) count (PairAmong plan members i))

-- the pairs by plan
abbrev pub PlanAmong : (plan d count : ℕ) (rows members : List ℤ) (owners : List ℕ) → Pairs
PlanAmong zero d count rows members owners = RowsAmong d count members owners 0 (zero_row d)
PlanAmong (suc zero) d count rows members owners = BehindAmong d count members owners 1
PlanAmong (suc (suc zero)) d count rows members owners = BehindAmong d count members owners 2
PlanAmong (suc (suc (suc p))) d count rows members owners = RowsAmong d count members owners (suc (suc (suc p))) rows

-- a list has t - s where it has s - t
has_turned : (D : List (List ℤ)) (s t : List ℤ) → Has D (minus t s) → Has D (minus s t)
has_turned D s t (inl m) = inr (subst (λ (h : List ℤ). Memᴰ h D) (minus-swap s t) m)
has_turned D s t (inr m) = inl (subst (λ (h : List ℤ). Memᴰ h D) (ap negative (minus-swap s t) ∙ negative-negative (minus s t)) m)

-- D has the differences of different rows that are a pair of the plan
abbrev pub HasPairs : (plan d count : ℕ) (rows members : List ℤ) (owners : List ℕ) (D : List (List ℤ)) → Type 0
HasPairs plan d count rows members owners D = (s t : List ℤ) → PlanAmong plan d count rows members owners s t → s ≢ t → Has D (minus s t)

module _ (plan d count : ℕ) (rows members : List ℤ) (owners : List ℕ) (all : AllAmong d count members owners plan (index_list d rows)) where
  -- a mirror of a row of the list is a member that the row owns
  record Standing (k s : List ℤ) : Type 0 where
    pub number : ℕ
    pub inside : number < length (index_list d rows)
    pub is : get_or (index_list d rows) number [] ≡ k
    pub member : MemberAmong d count members owners number s

  standing : (k s : List ℤ) → Memᴰ k (index_list d rows) → Memᴰ s (mirrors_under plan k) → Standing k s
  standing k s m o = go (place_of (index_list d rows) k [] m)
    where
      go : Place (index_list d rows) k [] → Standing k s
      go p = record {
        number = p.index;
        inside = p.inside;
        is = p.is;
        member = all.there p.index p.inside s (subst (λ (r : List ℤ). Memᴰ s (mirrors_under plan r)) (sym p.is) o);
      }

  -- the member, as the code reads it
  member_is : (i : ℕ) (s : List ℤ) (a : MemberAmong d count members owners i s) → s ≡ row_at d members a.place
  member_is i s a = sym a.is ∙ row_at_lem d count members a.place a.inside

  -- a member and one behind it
  behind :
      plan ≢ 4 → (i j : ℕ) (s t : List ℤ) (a : MemberAmong d count members owners i s) (b : MemberAmong d count members owners j t)
      → b.place < a.place → BehindAmong d count members owners plan s t
  behind n i j s t a b l = record {
    turn = b.place;
    low = zero-le;
    high = b.inside;
    pair = record {
      turn = a.place;
      low = omega (arith, l);
      high = a.inside;
      pair = record { other = λ e. absurd (n e); left = member_is i s a; right = member_is j t b };
    };
  }

  -- so the difference of any two different members is there
  two-members :
      (D : List (List ℤ)) → plan ≢ 4
      → ((s t : List ℤ) → BehindAmong d count members owners plan s t → s ≢ t → Has D (minus s t))
      → (i j : ℕ) (s t : List ℤ) → MemberAmong d count members owners i s → MemberAmong d count members owners j t → s ≢ t → Has D (minus s t)
  two-members D n f i j s t a b o =
      ⊎_elim (λ l. has_turned D s t (f t s (behind n j i t s b a l) (λ e. o (sym e))))
      (⊎_elim (λ e. absurd (o (member_is i s a ∙ ap (row_at d members) e ∙ sym (member_is j t b)))) (λ l. f s t (behind n i j s t a b l) o))
      (compared a.place b.place)

  -- and that of a member and a row; under plan 4 of one that does not own it
  member-row :
      (D : List (List ℤ))
      → ((s t : List ℤ) → RowsAmong d count members owners plan rows s t → s ≢ t → Has D (minus s t))
      → (k s t : List ℤ) → Standing k s → Memᴰ t (index_list d rows) → (plan ≡ 4 → t ≢ k) → s ≢ t → Has D (minus s t)
  member-row D f k s t a m other o = go (place_of (index_list d rows) t [] m)
    where
      go : Place (index_list d rows) t [] → Has D (minus s t)
      go p =
          f s t
          record {
            turn = p.index;
            low = zero-le;
            high = inside;
            pair = record {
              turn = a.member.place;
              low = zero-le;
              high = a.member.inside;
              pair = record {
                other = λ e q. other e (sym p.is ∙ ap (λ (i : ℕ). get_or (index_list d rows) i []) (sym q ∙ a.member.owned) ∙ a.is);
                left = member_is a.number s a.member;
                right = sym p.is ∙ row_at_lem d (row_count d rows) rows p.index inside;
              };
            };
          }
          o
        where
          inside : p.index < row_count d rows
          inside = omega (arith, p.inside, rows-length d (row_count d rows) rows)

-- the list of a plan's pairs is complete
abbrev pub PairsComplete : (plan d count : ℕ) (rows members : List ℤ) (owners : List ℕ) → Type 0
PairsComplete plan d count rows members owners =
    ValidList plan d rows → AllAmong d count members owners plan (index_list d rows)
    → (D : List (List ℤ)) → HasPairs plan d count rows members owners D → Complete plan (index_list d rows) D

-- plan 0
complete_zeros : (d count : ℕ) (rows members : List ℤ) (owners : List ℕ) → PairsComplete 0 d count rows members owners
complete_zeros d count rows members owners v all D f s t (m, n, e) =
    subst (λ (r : List ℤ). Has D (minus s r)) (sym e)
    (subst (Has D) (ap (minus s) zeros ∙ minus-zeros s)
    (f s (row_at d (zero_row d) 0) pair (λ q. n (q ∙ zeros))))
  where
    a : Standing 0 d count rows members owners all s s
    a = standing 0 d count rows members owners all s s m (under_self 0 s)

    zeros : row_at d (zero_row d) 0 ≡ zero_row (length s)
    zeros = zero_row_lem d ∙ ap zero_row (sym (member_length d (row_count d rows) rows s (omega (arith, v.whole)) m))

    pair : PlanAmong 0 d count rows members owners s (row_at d (zero_row d) 0)
    pair = record {
      turn = 0;
      low = zero-le;
      high = omega (arith, one_zeros d v.some_axes);
      pair = record {
        turn = a.member.place;
        low = zero-le;
        high = a.member.inside;
        pair = record { other = λ q. absurd (omega arith); left = member_is 0 d count rows members owners all a.number s a.member; right = refl };
      };
    }

-- plan 1
complete_rows : (d count : ℕ) (rows members : List ℤ) (owners : List ℕ) → PairsComplete 1 d count rows members owners
complete_rows d count rows members owners v all D f s t (m, o, n) =
    two-members 1 d count rows members owners all D (λ q. omega arith) f a.number b.number s t a.member b.member n
  where
    a : Standing 1 d count rows members owners all s s
    a = standing 1 d count rows members owners all s s m (under_self 1 s)

    b : Standing 1 d count rows members owners all t t
    b = standing 1 d count rows members owners all t t o (under_self 1 t)

-- plan 2
complete_mirrors : (d count : ℕ) (rows members : List ℤ) (owners : List ℕ) → PairsComplete 2 d count rows members owners
complete_mirrors d count rows members owners v all D f s t (m, o, n) =
    two-members 2 d count rows members owners all D (λ q. omega arith) f a.number b.number s t a.member b.member n
  where
    p : Mirror (index_list d rows) s
    p = mirrored-out (index_list d rows) s m

    q : Mirror (index_list d rows) t
    q = mirrored-out (index_list d rows) t o

    a : Standing 2 d count rows members owners all p.row s
    a = standing 2 d count rows members owners all p.row s p.listed p.mirror

    b : Standing 2 d count rows members owners all q.row t
    b = standing 2 d count rows members owners all q.row t q.listed q.mirror

-- plan 3
complete_against : (d count : ℕ) (rows members : List ℤ) (owners : List ℕ) → PairsComplete 3 d count rows members owners
complete_against d count rows members owners v all D f s t (k, m, o, i, n) =
    member-row 3 d count rows members owners all D f k s t (standing 3 d count rows members owners all k s o i) m (λ q. absurd (omega arith)) n

-- plan 4
complete_others : (d count : ℕ) (rows members : List ℤ) (owners : List ℕ) → PairsComplete 4 d count rows members owners
complete_others d count rows members owners v all D f s t (k, m, o, n, i) =
    member-row 4 d count rows members owners all D f k s t (standing 4 d count rows members owners all k s o i) m (λ _. n)
    (λ e. n (same_row_lem t t k (v.unsigned (omega arith) t m) (v.unsigned (omega arith) k o) (mirror_self t) (Memᴰ.cast (sym e) i)))

-- all plans
pub pairs_complete : (plan d count : ℕ) (rows members : List ℤ) (owners : List ℕ) → plan ≤ 4 → PairsComplete plan d count rows members owners
pairs_complete plan d count rows members owners =
    by_plan (λ k. PairsComplete k d count rows members owners) (complete_zeros d count rows members owners) (complete_rows d count rows members owners)
    (complete_mirrors d count rows members owners) (complete_against d count rows members owners) (complete_others d count rows members owners) plan

-- ---- the same of a table of members
-- pairs turn by turn
turns-map :
    (from to : ℕ) (P Q : ℕ → Pairs) (s t : List ℤ) → ((i : ℕ) → P i s t → Q i s t) → Turns from to P s t → Turns from to Q s t
turns-map from to P Q s t f p = record { turn = p.turn; low = p.low; high = p.high; pair = f p.turn p.pair }

module _ (d : ℕ) (m : Members) (s t : List ℤ) where
  pair-as : (plan i e : ℕ) (rows : List ℤ) → PairAmong d m.count m.rows m.owners plan rows i e s t → MemberPair plan d rows m i e s t
  pair-as plan i e rows p = record { other = p.other; left = p.left; right = p.right }

  from-as :
      (plan from i : ℕ) (rows : List ℤ) → Turns from m.count (PairAmong d m.count m.rows m.owners plan rows i) s t
      → PairsFrom plan d from rows m i s t
  from-as plan from i rows =
      turns-map from m.count (PairAmong d m.count m.rows m.owners plan rows i) (MemberPair plan d rows m i) s t (λ e. pair-as plan i e rows)

  rows-as : (plan : ℕ) (rows : List ℤ) → RowsAmong d m.count m.rows m.owners plan rows s t → RowPairs plan d rows m s t
  rows-as plan rows =
      turns-map 0 (row_count d rows) (λ i. Turns 0 m.count (PairAmong d m.count m.rows m.owners plan rows i)) (PairsFrom plan d 0 rows m) s t
      (λ i. from-as plan 0 i rows)

  behind-as : (plan : ℕ) → BehindAmong d m.count m.rows m.owners plan s t → BehindPairs plan d m.rows m s t
  behind-as plan =
      turns-map 0 m.count (λ i. Turns (i + 1) m.count (PairAmong d m.count m.rows m.owners plan m.rows i)) (λ i. PairsFrom plan d (i + 1) m.rows m i)
      s t (λ i. from-as plan (i + 1) i m.rows)

  plan-as : (plan : ℕ) (rows : List ℤ) → PlanAmong plan d m.count rows m.rows m.owners s t → PlanPairs plan d rows m s t
  plan-as zero rows = rows-as 0 (zero_row d)
  plan-as (suc zero) rows = behind-as 1
  plan-as (suc (suc zero)) rows = behind-as 2
  plan-as (suc (suc (suc p))) rows = rows-as (suc (suc (suc p))) rows

-- its members are all there, as the lists say it
all-as : (plan d : ℕ) (ks : List (List ℤ)) (m : Members) → AllMembers plan d ks m → AllAmong d m.count m.rows m.owners plan ks
all-as plan d ks m a = record { there = λ i l s o. member (a.there i l s o) }
  where
    member : {i : ℕ} {s : List ℤ} → MemberAt d i m s → MemberAmong d m.count m.rows m.owners i s
    member n = record { place = n.place; inside = n.inside; owned = n.owned; is = n.is }

-- so the differences of its pairs are complete
pub members_complete :
    (plan d : ℕ) (rows : List ℤ) (m : Members) → plan ≤ 4 → ValidList plan d rows → AllMembers plan d (index_list d rows) m
    → (D : List (List ℤ)) → ((s t : List ℤ) → PlanPairs plan d rows m s t → s ≢ t → Has D (minus s t)) → Complete plan (index_list d rows) D
members_complete plan d rows m l v all D has =
    pairs_complete plan d m.count rows m.rows m.owners l v (all-as plan d (index_list d rows) m all) D (λ s t p. has s t (plan-as d m s t plan rows p))

-- ---- the pairs of a plan, as the code goes through them
module _ (d : ℕ) (rows : List ℤ) (members : Members) (t t' : Differences) where
  pub grown-zeros : (plan : ℕ) → plan ≡ 0 → GrownTo (RowPairs plan d (zero_row d) members) t t' → GrownTo (PlanPairs plan d rows members) t t'
  grown-zeros zero e g = g
  grown-zeros (suc p) e g = absurd (omega arith)

  pub grown-behind :
      (plan : ℕ) → plan ≡ 1 ⊎ plan ≡ 2 → GrownTo (BehindPairs plan d members.rows members) t t' → GrownTo (PlanPairs plan d rows members) t t'
  grown-behind zero e g = ⊎_elim (λ h. absurd (omega (arith, h))) (λ h. absurd (omega (arith, h))) e
  grown-behind (suc zero) e g = g
  grown-behind (suc (suc zero)) e g = g
  grown-behind (suc (suc (suc p))) e g = ⊎_elim (λ h. absurd (omega (arith, h))) (λ h. absurd (omega (arith, h))) e

-- what is made of a pair is avoided with its difference
pub made-avoided :
    (plan d : ℕ) (rows : List ℤ) (members : Members) → plan ≤ 4 → ValidList plan d rows
    → Kin plan d (index_list d rows) members → (h : List ℤ) → Made (PlanPairs plan d rows members) h
    → Avoided (Admissible plan (index_list d rows)) h
made-avoided plan d rows members l v kin h a = go a.which
  where
    avoided : Avoided (Admissible plan (index_list d rows)) (minus a.s a.t)
    avoided = pairs_avoided plan d rows members l v kin a.s a.t a.pair a.differ

    go : EitherSign (minus a.s a.t) h → Avoided (Admissible plan (index_list d rows)) h
    go (inl e) = subst (Avoided (Admissible plan (index_list d rows))) (sym e) avoided
    go (inr e) =
        subst (Avoided (Admissible plan (index_list d rows))) (sym e)
        (negative_avoided (Admissible plan (index_list d rows)) (minus a.s a.t) avoided)
