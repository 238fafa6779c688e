-- The table of differences: its `count` rows, of d numbers each, stand at the front of a run that has room for more. Its slots find a
-- row by a hash: a slot has the number of a row, or none. That no row stands twice is a matter of speed alone: nothing here says it.
use Rattle.std.specs.Prelude.{◌≡◌, ◌⊎◌, ◌≢◌, Option, Some, None, Bool, true, false, ℕ, zero, suc, ◌+◌, ◌*◌, ◌<◌, ◌≤◌, ℤ, pos, length, get_or}
use mathlib.Core.List.{List, [], ◌∷◌, ◌++◌, Memᴰ}
use Rattle.rank1.specs.Index.{zero_row, rows_of, row_count}
use Rattle.rank1.specs.Named.{plan_number}
use Rattle.rank1.specs.Rule.{Rule, Admissible}
use Rattle.rank1.specs.Axes.{ZeroFrom}
use Rattle.rank1.specs.Differences.{minus, negative, Has, EndsAt, Sound, Complete, Flips}
use Rattle.planner.specs.Sizes.{largest_size, slot_count, largest_component}
use Rattle.planner.specs.Inner.{Covered, row_at}
use Rattle.planner.specs.Lists.{rows_in}
use Rattle.planner.specs.declared.list.Rows.{Rows}
use Rattle.planner.specs.declared.members.Members.{Members}
use Rattle.planner.specs.declared.table.Differences.{Differences}

-- the rows that the table has
abbrev pub rows_found : Differences → List (List ℤ)
rows_found t = rows_of t.d t.count t.rows

-- s and t are rows of d numbers with components of index rows: their difference has d small numbers
pub record Subtractable (d : ℕ) (s t : List ℤ) : Type 0 where
  pub left : length s ≡ d
  pub right : length t ≡ d
  pub left_small : Covered largest_component s
  pub right_small : Covered largest_component t

-- the axis at which a difference is to end is one of the first d; with None it may end at any
abbrev pub Below : Option ℕ → ℕ → Type 0
Below level d = (j : ℕ) → level ≡ Some j → j < d

-- h is g or -g
abbrev pub EitherSign : List ℤ → List ℤ → Type 0
EitherSign g h = (h ≡ g) ⊎ (h ≡ negative g)

-- j is the last axis at which h is not 0
pub record LastAxis (h : List ℤ) (j : ℕ) : Type 0 where
  pub inside : j < length h
  pub behind : ZeroFrom (suc j) h
  pub last : get_or h j (pos 0) ≢ pos 0

-- h ends with a component above 0
pub record EndsAbove (h : List ℤ) : Type 0 where
  pub axis : ℕ
  pub inside : axis < length h
  pub component : ℕ
  pub above : 0 < component
  pub ends : EndsAt axis component h

-- h is g or -g, and ends with a component above 0 where it is not 0
pub record Upright (g h : List ℤ) : Type 0 where
  pub which : EitherSign g h
  pub small : Covered largest_size h
  pub above : ZeroFrom 0 h ⊎ EndsAbove h

-- a row that can stand in a table of rows of d numbers
pub record Storable (d : ℕ) (h : List ℤ) : Type 0 where
  pub size : length h ≡ d
  pub small : Covered largest_size h

-- slot p is empty, or h stands in the table; with None nothing is said
abbrev pub Probed : List ℤ → Differences → Option ℕ → Type 0
Probed h t None = Unit {0}
Probed h t (Some p) = (p < slot_count) × ((get_or t.slots p None ≡ None) ⊎ Memᴰ h (rows_found t))

-- what adding h gives: it stood there, it is the new last row, or there is no room for it and the table is not whole
pub data Added (h : List ℤ) (t t' : Differences) : Type 0 where
  stood : t' ≡ t → Memᴰ h (rows_found t) → Added h t t'
  joined : t'.d ≡ t.d → rows_found t' ≡ rows_found t ++ (h ∷ []) → t'.whole ≡ t.whole → Added h t t'
  full : t'.d ≡ t.d → rows_found t' ≡ rows_found t → t'.whole ≡ false → Added h t t'

-- ---- which pairs of rows a function goes through
abbrev pub Pairs : Type 1
Pairs = List ℤ → List ℤ → Type 0

-- the pair s, t alone
abbrev pub OnePair : List ℤ → List ℤ → Pairs
OnePair s t a b = (a ≡ s) × (b ≡ t)

-- the pairs of the turns from `from` to the one before `to`
pub record Turns (from to : ℕ) (pairs : ℕ → Pairs) (s t : List ℤ) : Type 0 where
  pub turn : ℕ
  pub low : from ≤ turn
  pub high : turn < to
  pub pair : pairs turn s t

module _ (plan d : ℕ) where
  -- member e with row i; under plan 4 only where the row does not own it
  pub record MemberPair (rows : List ℤ) (m : Members) (i e : ℕ) (s t : List ℤ) : Type 0 where
    pub other : plan ≡ 4 → get_or m.owners e 0 ≢ i
    pub left : s ≡ row_at d m.rows e
    pub right : t ≡ row_at d rows i

  -- the members from number `from` on with row i
  abbrev pub PairsFrom : ℕ → List ℤ → Members → ℕ → Pairs
  PairsFrom from rows m i = Turns from m.count (MemberPair rows m i)

  -- all members with each row
  abbrev pub RowPairs : List ℤ → Members → Pairs
  RowPairs rows m = Turns 0 (row_count d rows) (PairsFrom 0 rows m)

  -- the members behind number i with row i, for each member
  abbrev pub BehindPairs : List ℤ → Members → Pairs
  BehindPairs rows m = Turns 0 m.count (λ i. PairsFrom (i + 1) rows m i)

-- the pairs by plan: under plan 0 each member with the row of zeros, under plans 1 and 2 with those before it, under plans 3 and 4
-- with each row
abbrev pub PlanPairs : ℕ → ℕ → List ℤ → Members → Pairs
PlanPairs zero d rows m = RowPairs 0 d (zero_row d) m
PlanPairs (suc zero) d rows m = BehindPairs 1 d m.rows m
PlanPairs (suc (suc zero)) d rows m = BehindPairs 2 d m.rows m
PlanPairs (suc (suc (suc p))) d rows m = RowPairs (suc (suc (suc p))) d rows m

-- h is the difference, or its negative, of two different rows that are such a pair
pub record Made (pairs : Pairs) (h : List ℤ) : Type 0 where
  pub s : List ℤ
  pub t : List ℤ
  pub pair : pairs s t
  pub differ : s ≢ t
  pub which : EitherSign (minus s t) h

-- the table's rows D become D' by differences of such pairs. Where none was turned away, as w and w' say for before and after, D' has
-- all of them
pub record Grown (pairs : Pairs) (D D' : List (List ℤ)) (w w' : Bool) : Type 0 where
  pub stays : (h : List ℤ) → Memᴰ h D → Memᴰ h D'
  pub only : (h : List ℤ) → Memᴰ h D' → Memᴰ h D ⊎ Made pairs h
  pub was : w' ≡ true → w ≡ true
  pub all : w' ≡ true → (s t : List ℤ) → pairs s t → s ≢ t → Has D' (minus s t)

-- the table t became t' by such pairs
pub record GrownTo (pairs : Pairs) (t t' : Differences) : Type 0 where
  pub axes : t'.d ≡ t.d
  pub grown : Grown pairs (rows_found t) (rows_found t') t.whole t'.whole

-- row i of a run is there, with components of index rows
pub record RowThere (d : ℕ) (xs : List ℤ) (i : ℕ) : Type 0 where
  pub inside : (i + 1) * d ≤ length xs
  pub small : Covered largest_component (row_at d xs i)

-- the first `number` rows are
abbrev pub RowRun : (d number : ℕ) (xs : List ℤ) → Type 0
RowRun d number xs = (i : ℕ) → i < number → RowThere d xs i

-- what pairing asks of the members and the level: all members are such rows, and the level is one of their axes
pub record Pairable (d : ℕ) (level : Option ℕ) (m : Members) : Type 0 where
  pub run : RowRun d m.count m.rows
  pub inner : Below level d

-- ---- the differences of a list
-- a table of differences that no admissible pair gives residue 0; where it is whole it has all of them
pub record Found (plan : ℕ) (ks : List (List ℤ)) (t : Differences) : Type 0 where
  pub sound : Sound (Admissible plan ks) (rows_found t)
  pub complete : t.whole ≡ true → Complete plan ks (rows_found t)

-- a table of rows as long as those of the list, of such differences of the list
pub record FoundOf (rows : Rows) (t : Differences) : Type 0 where
  pub axes : t.d ≡ rows.d
  pub found : Found (plan_number rows.plan) (rows_in rows) t

-- ---- signs of components of z
-- axis j is marked only where the rule does not see the sign of component j
pub record FlipMarks (d : ℕ) (rule : Rule) (flips : List Bool) : Type 0 where
  pub free : (j : ℕ) → j < d → get_or flips j false ≡ true → Flips j rule

-- the rule of every list whose differences the table has does not see the sign of component j
abbrev pub SeesNoSign : (plan j : ℕ) (t : Differences) → Type 0
SeesNoSign plan j t = (ks : List (List ℤ)) → Found plan ks t → Flips j (Admissible plan ks)

-- the marks of the axes before j are right for every such list
abbrev pub MarkedBelow : (plan j : ℕ) (t : Differences) (flips : List Bool) → Type 0
MarkedBelow plan j t flips = (k : ℕ) → k < j → get_or flips k false ≡ true → SeesNoSign plan k t

-- the marks of all axes are right for every such list
abbrev pub MarksRight : (plan : ℕ) (t : Differences) (flips : List Bool) → Type 0
MarksRight plan t flips = (ks : List (List ℤ)) → Found plan ks t → FlipMarks t.d (Admissible plan ks) flips
