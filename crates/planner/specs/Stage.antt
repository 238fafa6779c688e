-- What the private functions of the search ask and give. Nothing here is in a public contract.
use Rattle.std.specs.Prelude.{◌≡◌, Bool, true, false, ◌||◌, Option, Some, None, Result, Ok, Err, List, map, ℕ, suc, ◌+◌, ◌-◌, ◌*◌, ◌%◌, ◌<◌, ◌≤◌, eqb, ℤ, pos, nat_abs, ◌*ℤ◌, length, get_or, take, set}
use Rattle.rank1.specs.Named.{plan_number}
use Rattle.rank1.specs.declared.Refusal.{Refusal}
use Rattle.rank1.specs.declared.Refusal.TheVariants as refusals
use Rattle.planner.specs.declared.list.Rows.{Rows}
use Rattle.planner.specs.declared.listing.Listing.{Listing}
use Rattle.planner.specs.declared.listing.Task.{Task}
use Rattle.planner.specs.declared.search.Search.{Search}
use Rattle.planner.specs.declared.tables.Work.{Work}
use Rattle.rank1.specs.Residue.{residue, residue_at}
use Rattle.rank1.specs.Index.{index_list}
use Rattle.rank1.specs.Rule.{Rule, Admissible}
use Rattle.rank1.specs.Search.{Before, InRange, Gentlest, Hopeless}
use Rattle.rank1.specs.Below.{FirstBelow}
use Rattle.rank1.specs.Valid.{ValidModulus}
use Rattle.rank1.specs.Axes.{Agree}
use Rattle.rank1.specs.Differences.{Sound}
use Rattle.rank1.specs.Refusal.{search_refusal}
use Rattle.planner.specs.Answer.{RefusedOr}
use Rattle.planner.specs.Sizes.{axes, lasts, room, places, largest_modulus}
use Rattle.planner.specs.Inner.{place, KeptBelow, Covered}
use Rattle.planner.specs.Lists.{rows_in}
use Rattle.planner.specs.Levels.{ending, Levels}
use Rattle.planner.specs.Exchange.{Swaps}
use Rattle.planner.specs.Table.{FlipMarks}
use Rattle.planner.specs.Runs.{column, Arranged}
use Rattle.planner.specs.Sieve.{part_at, Readable, SolutionsOf, Sievable, Forbidden, FirstForbidden}

-- the rule that is searched for: that of the plan for the list
abbrev pub rule_of : Rows → Rule
rule_of rows = Admissible (plan_number rows.plan) (rows_in rows)

-- ---- the tables of a list
-- the differences of a list and the axes whose sign can change: every difference is avoided, no component of a row or of a difference is
-- larger than the largest, and the tail has a place among the last components
pub record Differenced (rows : Rows) (listing : Listing) (flips : List Bool) (components : List ℤ) (bounds : List ℕ) : Type 0 where
  pub covers : Covered listing.top rows.numbers.now
  pub flips_right : FlipMarks rows.d (rule_of rows) flips
  pub differences : List (List ℤ)
  pub sound : Sound (rule_of rows) differences
  pub arranged : Arranged differences rows.d components bounds
  pub small : Covered listing.top components
  pub tails : listing.tail < lasts

-- no component of the list is larger than the largest, and the levels are the rows that end by each axis
pub record Listed (task : Task) : Type 0 where
  pub covers : Covered task.listing.top task.rows.numbers.now
  pub ends : Levels task.rows.d task.listing.top task.rows.numbers.now task.list.now.levels task.list.now.sizes

-- all tables of a list
pub record Tabled (task : Task) : Type 0 where
  pub listed : Listed task
  pub swaps : Swaps task.rows.d (rows_in task.rows) task.list.now.swaps
  pub differenced : Differenced task.rows task.listing task.list.now.flips task.list.now.components task.list.now.bounds

-- ---- prefixes
-- y begins as z does below k
abbrev pub BeginsAs : ℕ → List ℤ → List ℕ → Type 0
BeginsAs k y z = (i : ℕ) → i < k → get_or y i (pos 0) ≡ pos (get_or z i 0)

-- no vector of whole numbers that meets the rule begins as z does below k
unfoldable pub NoneFrom : Rule → ℕ → ℕ → ℕ → List ℕ → Type 0
NoneFrom rule d n k z = (y : List ℤ) → length y ≡ d → BeginsAs k y z → rule n y → ⊥

-- y is the first vector that a search is after: with components below the number of values that are tried
abbrev pub FirstOf : Search → List ℕ → Type 0
FirstOf s y = FirstBelow (rule_of s.task.rows) s.task.rows.d s.n s.values y

-- no first vector with components below b begins so
unfoldable pub NoFirstFrom : Rule → ℕ → ℕ → ℕ → ℕ → List ℕ → Type 0
NoFirstFrom rule d n b k z = (y : List ℕ) → FirstBelow rule d n b y → Agree k y z → ⊥

-- none that a search is after does
abbrev pub NoFirstOf : Search → ℕ → List ℕ → Type 0
NoFirstOf s k z = NoFirstFrom (rule_of s.task.rows) s.task.rows.d s.n s.values k z

-- the products of the first at components of z are set
pub record Prefixed (s : Search) (at : ℕ) (z products : List ℕ) : Type 0 where
  pub modulus : ValidModulus s.n
  pub within : at ≤ s.task.rows.d
  pub size : length z ≡ s.task.rows.d
  pub entries :
      (j : ℕ) (x : ℤ) → j < at → nat_abs x ≤ s.task.listing.top → get_or products (j * places + place x) 0 ≡ residue s.n (x *ℤ pos (get_or z j 0))

-- the first at components of z are fixed: they are below the number of values that are tried. No first vector begins below the start
pub record Fixed (s : Search) (at : ℕ) (z products : List ℕ) : Type 0 where
  pub tabled : Tabled s.task
  pub prefix : Prefixed s at z products
  pub few_values : s.values ≤ s.n
  pub begins : (y : List ℕ) → FirstOf s y → s.start ≤ get_or y 0 0
  pub below : (j : ℕ) → j < at → get_or z j 0 < s.values

-- section i of the sums, to i = k: the residues of the parts before axis i of the differences that end behind axis i
abbrev pub SumsTo : Search → ℕ → List ℕ → List ℕ → Type 0
SumsTo s k z sums =
    (i e : ℕ) → i ≤ k → i < s.task.rows.d → get_or s.task.list.now.bounds ((i + 1) * lasts) 0 ≤ e → e < get_or s.task.list.now.bounds (s.task.rows.d * lasts) 0
    → get_or sums (i * room + e) 0 ≡ residue_at s.n (map pos z) (take i (column s.task.rows.d s.task.list.now.components e))

-- all that the recursion asks: the sums up to the section that the sieve reads are set too, and the tables of the modulus
pub record Stage (s : Search) (at : ℕ) (z : List ℕ) (w : Work) : Type 0 where
  pub fixed : Fixed s at z w.products
  pub sums : SumsTo s (at - 1) z w.sums
  pub solutions : SolutionsOf s.n s.modulus.now

-- what completing from component at on leaves as it was: what belongs to the axes before it
pub record KeptBefore (at : ℕ) (z : List ℕ) (w : Work) (z' : List ℕ) (w' : Work) : Type 0 where
  pub size : length z' ≡ length z
  pub begins : Agree at z' z
  pub sums : KeptBelow 0 ((at - 1 + 1) * room) w.sums w'.sums
  pub products : KeptBelow 0 (at * places) w.products w'.products
  pub struck : KeptBelow false (at * largest_modulus) w.struck w'.struck

-- ---- the values of component at that are tried
-- no value below r: r is 0, the start of the first component, or the component of an earlier axis with which axis at can change places
pub data Lowest (s : Search) (at : ℕ) (z : List ℕ) (r : ℕ) : Type 0 where
  nothing : r ≡ 0 → Lowest s at z r
  started : at ≡ 0 → r ≡ s.start → Lowest s at z r
  raised : (i : ℕ) → i < at → get_or s.task.list.now.swaps (i * axes + at) false ≡ true → r ≡ get_or z i 0 → Lowest s at z r

-- r is low, or x where there is a mark
pub data Raised (low : ℕ) (mark : Bool) (x r : ℕ) : Type 0 where
  unraised : r ≡ low → Raised low mark x r
  higher : mark ≡ true → r ≡ x → Raised low mark x r

-- none from r on: from there on all are above n / 2, on an axis whose sign can change
pub record ValueEnd (s : Search) (at r : ℕ) : Type 0 where
  pub low : r ≤ s.values
  pub high : (v : ℕ) → r ≤ v → v < s.values → (get_or s.task.list.now.flips at false ≡ true) × (s.n < 2 * v)

-- what marking the values of axis at asks
pub record Siftable (s : Search) (at : ℕ) (w : Work) : Type 0 where
  pub modulus : ValidModulus s.n
  pub short : s.task.listing.tail < lasts
  pub solved : SolutionsOf s.n s.modulus.now
  pub sievable : (before : ℕ) → at ≡ suc before → Sievable s.n before s.task.list.now w.products w.sums s.modulus.now

-- a difference forbids the value v of component at: of the first, or of one behind it
pub data Ruled (s : Search) (at : ℕ) (w : Work) (v : ℕ) : Type 0 where
  at_first : at ≡ 0 → FirstForbidden s.n s.task.list.now.bounds v → Ruled s at w v
  behind : (before : ℕ) → at ≡ suc before → Forbidden s.n before s.task.list.now w.products w.sums v → Ruled s at w v

-- the marks of axis at are of values that a difference forbids; the marks of the axes before stay, and all else
pub record Sifted (s : Search) (at : ℕ) (w w' : Work) : Type 0 where
  pub only : w' ≡ record w { struck = w'.struck }
  pub kept : KeptBelow false (at * largest_modulus) w.struck w'.struck
  pub reason : (v : ℕ) → v < s.n → get_or w'.struck (at * largest_modulus + v) false ≡ true → Ruled s at w v

-- a value from `from` on before which all are struck, or None: all before the end are struck. (That the value itself is not is speed.)
abbrev pub NextFree : ℕ → ℕ → List Bool → Option ℕ → Type 0
NextFree from end struck (Some r) = (from ≤ r) × (r < end) × ((v : ℕ) → from ≤ v → v < r → get_or struck v false ≡ true)
NextFree from end struck None = (v : ℕ) → from ≤ v → v < end → get_or struck v false ≡ true

-- where scaling holds, v cannot be a first component: it neither is 0 nor divides n
pub record CannotLead (s : Search) (at v : ℕ) : Type 0 where
  pub first : at ≡ 0
  pub all_values : s.values ≡ s.n
  pub fails : (eqb v 0 || eqb (s.n % v) 0) ≡ false

-- what setting section at of the sums asks: behind the first axis, that the differences that end behind axis at can be read
pub record Summable (s : Search) (at : ℕ) (w : Work) : Type 0 where
  pub within : at < s.task.rows.d
  pub few_axes : s.task.rows.d ≤ axes
  pub readable :
      (before : ℕ) → at ≡ suc before → at + 1 < s.task.rows.d
      → Readable s.n before s.task.list.now.components w.products w.sums (get_or s.task.list.now.bounds ((at + 1) * lasts) 0) (get_or s.task.list.now.bounds (s.task.rows.d * lasts) 0)

-- section at is set from the section before it and the products of the axis before; the sections before stay, and all else
pub record SumsAdded (s : Search) (at : ℕ) (w w' : Work) : Type 0 where
  pub only : w' ≡ record w { sums = w'.sums }
  pub kept : KeptBelow 0 ((at - 1 + 1) * room) w.sums w'.sums
  pub added :
      (before e : ℕ) → at ≡ suc before → get_or s.task.list.now.bounds ((at + 1) * lasts) 0 ≤ e → e < get_or s.task.list.now.bounds (s.task.rows.d * lasts) 0
      → get_or w'.sums (at * room + e) 0 ≡ part_at s.n before s.task.list.now.components w.products w.sums e

-- whether the rule holds on the rows that are 0 from axis at on. False: nothing that begins so meets the rule. True: they meet it with
-- the components that are fixed, unless every difference is struck and so nothing was tested here
pub record EndsHold (s : Search) (at : ℕ) (z : List ℕ) (r : Bool) : Type 0 where
  pub none : r ≡ false → NoneFrom (rule_of s.task.rows) s.task.rows.d s.n at z
  pub tested : s.sieved ≡ false → r ≡ true → Admissible (plan_number s.task.rows.plan) (ending at (rows_in s.task.rows)) s.n (map pos (take at z))

-- what trying v for component at asks
pub record Triable (s : Search) (at v : ℕ) (z : List ℕ) (w : Work) : Type 0 where
  pub listed : Listed s.task
  pub prefix : Prefixed s at z w.products
  pub few_values : s.values ≤ s.n
  pub within : at < s.task.rows.d
  pub less : v < s.values

-- component at is set to v: with true its products are set too, and the rows that end there meet the rule (unless every difference is
-- struck), with false no first vector begins so; the sums and the marks stay
pub record Tried (s : Search) (at v : ℕ) (z : List ℕ) (w : Work) (z' : List ℕ) (w' : Work) (r : Bool) : Type 0 where
  pub stored : z' ≡ set z at v
  pub only : w' ≡ record w { products = w'.products; owners = w'.owners; taken = w'.taken }
  pub kept_products : KeptBelow 0 (at * places) w.products w'.products
  pub prefix : r ≡ true → Prefixed s (at + 1) z' w'.products
  pub none : r ≡ false → NoFirstOf s (at + 1) z'
  pub tested : s.sieved ≡ false → r ≡ true → Admissible (plan_number s.task.rows.plan) (ending (at + 1) (rows_in s.task.rows)) s.n (map pos (take (at + 1) z'))

-- what completing z from component k on gives: the new vector x, and whether it is one
pub record Completed (rule : Rule) (d n b k : ℕ) (z x : List ℕ) (r : Bool) : Type 0 where
  pub ranged : r ≡ true → InRange b d x
  pub admissible : r ≡ true → rule n (map pos x)
  pub least : r ≡ true → (y : List ℕ) → FirstBelow rule d n b y → Agree k y z → Before y x → ⊥
  pub none : r ≡ false → NoFirstFrom rule d n b k z

-- the same of what a search is after
abbrev pub CompletedOf : Search → ℕ → List ℕ → List ℕ → Bool → Type 0
CompletedOf s k z x r = Completed (rule_of s.task.rows) s.task.rows.d s.n s.values k z x r

-- ---- the moduli
-- the sums of the parts before the first axis are 0
abbrev pub Blank : Work → Type 0
Blank w = (e : ℕ) → e < room → get_or w.sums e 0 ≡ 0

-- ---- the rounds at one modulus
-- the same search with the values below a bound, and a start for the first component
abbrev pub below : ℕ → ℕ → Search → Search
below bound start s = record s { values = bound; start = start }

-- what the later rounds ask: all tables, and in z the first vector with components from 0 to n - 1 in dictionary order
pub record Lowerable (s : Search) (z : List ℕ) (w : Work) (best : List ℕ) : Type 0 where
  pub tabled : Tabled s.task
  pub modulus : ValidModulus s.n
  pub solutions : SolutionsOf s.n s.modulus.now
  pub blank : Blank w
  pub first : FirstBelow (rule_of s.task.rows) s.task.rows.d s.n s.n z
  pub place : length best ≡ s.task.rows.d

-- what they give: the gentlest vector, and tables that serve the next modulus
pub record Lowered (s : Search) (w : Work) (best : List ℕ) : Type 0 where
  pub gentlest : Gentlest (rule_of s.task.rows) s.task.rows.d s.n best
  pub blank : Blank w

-- x is the gentlest vector at n, or n fails with every vector
pub record Decided (rule : Rule) (d n : ℕ) (x : List ℕ) (r : Bool) : Type 0 where
  pub found : r ≡ true → Gentlest rule d n x
  pub none : r ≡ false → Hopeless rule d n

-- the moduli from low to high, upward: n is the first that does not fail and x its gentlest vector, or all fail
abbrev pub Ascended : Rule → ℕ → ℕ → ℕ → List ℕ → Option ℕ → Type 0
Ascended rule d low high x (Some n) = (low ≤ n) × (n ≤ high) × Gentlest rule d n x × ((m : ℕ) → low ≤ m → m < n → Hopeless rule d m)
Ascended rule d low high x None = (m : ℕ) → low ≤ m → m ≤ high → Hopeless rule d m

-- what the search of a list asks: moduli from 1 to the largest, and a place for each component
pub record Searchable (rows : Rows) (low high : ℕ) (z : List ℕ) : Type 0 where
  pub some : 1 ≤ low
  pub few : high ≤ largest_modulus
  pub places_for_z : length z ≡ rows.d

-- what the search of the moduli from start to end answers
abbrev pub PlanBetween : Rule → ℕ → ℕ → ℕ → List ℕ → List ℕ → Result ℕ Refusal → Type 0
PlanBetween rule d start end before after (Ok n) = (start ≤ n) × (n ≤ end) × Gentlest rule d n after × ((m : ℕ) → start ≤ m → m < n → Hopeless rule d m)
PlanBetween rule d start end before after (Err refusal) = (refusal ≡ refusals.NoPlan) × (after ≡ before) × ((m : ℕ) → start ≤ m → m ≤ end → Hopeless rule d m)

-- the same behind the conditions 1 to 8 of a search, with `end` for the modulus
abbrev pub SearchBetween : ℕ → ℕ → List ℤ → ℕ → ℕ → List ℕ → List ℕ → Result ℕ Refusal → Type 0
SearchBetween plan d xs start end before after r =
    RefusedOr (search_refusal plan d xs end (length before)) before after r (PlanBetween (Admissible plan (index_list d xs)) d start end before after r)
