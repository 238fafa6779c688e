-- The members that pairs of rows are made of: for plans 2 to 4 all mirrors of each row, for plans 0 and 1 the row alone. They stand
-- row by row, d numbers each, in a table with room for most_members rows; beside each stands the number of the row it belongs to, its
-- owner. Where there is no room for all of them, those that fit stay.
use Rattle.std.specs.Prelude.{◌≡◌, true, ℕ, ◌+◌, ◌-◌, ◌<◌, ◌≤◌, ℤ, pos, nat_abs, length, get_or, take, drop}
use mathlib.Core.List.{List, [], ◌∷◌, ◌++◌, map, Memᴰ}
use Rattle.rank1.specs.Index.{rows_of, mirrors}
use Rattle.rank1.specs.Sums.{mirrors_under}
use Rattle.rank1.specs.Axes.{flip}
use Rattle.planner.specs.Sizes.{axes, most_members, largest_component}
use Rattle.planner.specs.declared.members.Members.{Members}

-- the members, row by row
abbrev pub members_of : ℕ → Members → List (List ℤ)
members_of d m = rows_of d m.count m.rows

-- ---- what the table holds
-- each member is a mirror of its owner, a row of the list
pub record Kin (plan d : ℕ) (ks : List (List ℤ)) (m : Members) : Type 0 where
  pub few_axes : d ≤ axes
  pub kin :
      (e : ℕ) → e < m.count
      → (get_or m.owners e 0 < length ks) × Memᴰ (get_or (members_of d m) e []) (mirrors_under plan (get_or ks (get_or m.owners e 0) []))

-- s is one of the members, and belongs to row i
pub record MemberAt (d i : ℕ) (m : Members) (s : List ℤ) : Type 0 where
  pub place : ℕ
  pub inside : place < m.count
  pub owned : get_or m.owners place 0 ≡ i
  pub is : get_or (members_of d m) place [] ≡ s

-- every mirror of every row of the list is among them
pub record AllMembers (plan d : ℕ) (ks : List (List ℤ)) (m : Members) : Type 0 where
  pub there : (i : ℕ) → i < length ks → (s : List ℤ) → Memᴰ s (mirrors_under plan (get_or ks i [])) → MemberAt d i m s

-- the members are mirrors of rows of the list; where they are said to be whole, they are all of these
pub record Gathering (plan d : ℕ) (ks : List (List ℤ)) (m : Members) : Type 0 where
  pub known : Kin plan d ks m
  pub all : m.whole ≡ true → AllMembers plan d ks m

-- ---- one row's mirrors, axis by axis: at an axis where the row is not 0, what stands there of them is doubled
-- no component is larger
abbrev pub SmallRow : List ℤ → Type 0
SmallRow k = (j : ℕ) → nat_abs (get_or k j (pos 0)) ≤ largest_component

-- two rows have the same components from axis a on
abbrev pub SameFrom : ℕ → List ℤ → List ℤ → Type 0
SameFrom a s k = (j : ℕ) → a ≤ j → get_or s j (pos 0) ≡ get_or k j (pos 0)

-- the members from number `from` on
abbrev pub members_from : ℕ → ℕ → Members → List (List ℤ)
members_from d from m = drop from (members_of d m)

-- the row k came behind the members, with its owner beside it
pub record Pushed (d : ℕ) (k : List ℤ) (owner : ℕ) (old new : Members) : Type 0 where
  pub rows : members_of d new ≡ members_of d old ++ (k ∷ [])
  pub kept : (e : ℕ) → e < old.count → get_or new.owners e 0 ≡ get_or old.owners e 0
  pub owned : get_or new.owners old.count 0 ≡ owner
  pub count : new.count ≡ old.count + 1
  pub whole : new.whole ≡ old.whole

-- the first `from` members and their owners are as they were, and what was not said to be whole is not
pub record MembersStay (d from : ℕ) (old new : Members) : Type 0 where
  pub rows : rows_of d from new.rows ≡ rows_of d from old.rows
  pub owned : (e : ℕ) → e < from → get_or new.owners e 0 ≡ get_or old.owners e 0
  pub was : new.whole ≡ true → old.whole ≡ true

-- what doubling asks: an axis, room, and no large component
pub record Doubles (d from axis : ℕ) (m : Members) : Type 0 where
  pub few_axes : d ≤ axes
  pub inside : axis < d
  pub within : from ≤ m.count
  pub fits : m.count + (m.count - from) ≤ most_members
  pub small : (s : List ℤ) → Memᴰ s (members_from d from m) → SmallRow s

-- n of the members from number `from` on stand once more behind the others, with the other sign at the axis
pub record Doubled (d from n axis owner : ℕ) (old new : Members) : Type 0 where
  pub count : new.count ≡ old.count + n
  pub whole : new.whole ≡ old.whole
  pub rows : members_of d new ≡ members_of d old ++ map (flip axis) (take n (members_from d from old))
  pub kept : (e : ℕ) → e < old.count → get_or new.owners e 0 ≡ get_or old.owners e 0
  pub owned : (e : ℕ) → old.count ≤ e → e < new.count → get_or new.owners e 0 ≡ owner

-- the members from number `from` on are mirrors of k, which has the number `owner`; where they are said to be whole, all those are among
-- them that have k's components from axis a on
pub record Mirroring (d a from owner : ℕ) (k : List ℤ) (m : Members) : Type 0 where
  pub few_axes : d ≤ axes
  pub size : length k ≡ d
  pub small : SmallRow k
  pub within : from ≤ m.count
  pub owned : (e : ℕ) → from ≤ e → e < m.count → get_or m.owners e 0 ≡ owner
  pub kin : (s : List ℤ) → Memᴰ s (members_from d from m) → Memᴰ s (mirrors k)
  pub all : m.whole ≡ true → (s : List ℤ) → Memᴰ s (mirrors k) → SameFrom a s k → Memᴰ s (members_from d from m)

-- from number `from` on they are mirrors of k, which has the number `owner`, as the plan takes them; where they are said to be whole, these
-- are all there
pub record RowMembers (plan d from owner : ℕ) (k : List ℤ) (m : Members) : Type 0 where
  pub few_axes : d ≤ axes
  pub within : from ≤ m.count
  pub owned : (e : ℕ) → from ≤ e → e < m.count → get_or m.owners e 0 ≡ owner
  pub kin : (s : List ℤ) → Memᴰ s (members_from d from m) → Memᴰ s (mirrors_under plan k)
  pub all : m.whole ≡ true → (s : List ℤ) → Memᴰ s (mirrors_under plan k) → Memᴰ s (members_from d from m)
