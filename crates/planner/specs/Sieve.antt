-- The sieve. The differences of a run all end at one axis with one component t, so a value v of that axis's component is struck
-- where c + t v = 0 modulo n, for c the residue of the part of some difference of the run before that axis. For each t a table
-- gives the solutions v. The tables hold difference e of axis j at place j * room + e. No public contract cites this.
use Rattle.std.specs.Prelude.{◌≡◌, ◌⊎◌, Bool, true, false, Option, Some, None, List, ℕ, suc, ◌+◌, ◌*◌, ◌%◌, ◌<◌, ◌≤◌, ℤ, pos, nat_abs, length, get_or, drop}
use Rattle.rank1.specs.Valid.{ValidModulus}
use Rattle.planner.specs.Inner.{place, KeptBelow, Covered}
use Rattle.planner.specs.declared.sieve.Prefix.{Prefix}
use Rattle.planner.specs.declared.sieve.Run.{Run}
use Rattle.planner.specs.declared.tables.ListTables.{ListTables}
use Rattle.planner.specs.declared.tables.ModulusTables.{ModulusTables}
use Rattle.planner.specs.declared.tables.Solved.{Solved}
use Rattle.planner.specs.Sizes.{axes, largest_modulus, largest_size, places, room, lasts, solution_room}

-- ---- marks and solutions
-- place v is marked
abbrev pub Marked : List Bool → ℕ → Type 0
Marked marks v = get_or marks v false ≡ true

-- w is a number of steps behind v
abbrev pub Steps : ℕ → ℕ → ℕ → Type 0
Steps v step w = (k : ℕ) × (w ≡ v + step * k)

-- what marking below n asks
pub record Markable (n step : ℕ) (marks : List Bool) : Type 0 where
  pub high : n ≤ largest_modulus
  pub inside : n ≤ length marks
  pub some : 1 ≤ step
  pub few : step ≤ n

-- every place that is marked afterwards was marked before or is a number of steps behind v
pub record Marking (v step : ℕ) (old new : List Bool) : Type 0 where
  pub size : length new ≡ length old
  pub reason : (w : ℕ) → Marked new w → Marked old w ⊎ Steps v step w

-- every value below n that is marked afterwards was marked before, or X holds of it
pub record MarkedFor (n : ℕ) (X : ℕ → Type 0) (old new : List Bool) : Type 0 where
  pub size : length new ≡ length old
  pub reason : (v : ℕ) → v < n → Marked new v → Marked old v ⊎ X v

-- for each c below n a v below n with c + t v = 0 modulo n, or n, which stands for none
pub record Solutions (n t : ℕ) (solutions : List ℕ) : Type 0 where
  pub size : n ≤ length solutions
  pub high : (c : ℕ) → c < n → get_or solutions c 0 ≤ n
  pub right : (c : ℕ) → c < n → get_or solutions c 0 < n → (c + t * get_or solutions c 0) % n ≡ 0

-- the solutions of t and n are set, and any two that are r apart are solutions together
pub record SolutionsSet (n t r : ℕ) (solutions : List ℕ) : Type 0 where
  pub table : Solutions n t solutions
  pub some : 1 ≤ r
  pub few : r ≤ n
  pub period : (t * r) % n ≡ 0

-- those of t stand from the start of s on, with its step
pub record TableAt (n t : ℕ) (s : Solved) (solutions : List ℕ) : Type 0 where
  pub inside : s.start + n ≤ length solutions
  pub right : SolutionsSet n t s.step (drop s.start solutions)

-- the tables of solutions of n: last component t has one where it is solved
abbrev pub SolutionsOf : ℕ → ModulusTables → Type 0
SolutionsOf n M = (t : ℕ) (s : Solved) → t < lasts → get_or M.solved t None ≡ Some s → TableAt n t s M.solutions

-- what setting the tables asks: those of the last components up to `tail` on the first d axes
pub record Tabulable (n d tail : ℕ) : Type 0 where
  pub modulus : ValidModulus n
  pub few_axes : d ≤ axes
  pub short : tail < lasts

-- the tables set so far stand before place `most`
pub record TablesTo (n most : ℕ) (M : ModulusTables) : Type 0 where
  pub solved : SolutionsOf n M
  pub high : most ≤ solution_room
  pub before : (t : ℕ) (s : Solved) → t < lasts → get_or M.solved t None ≡ Some s → s.start + n ≤ most

-- ---- one run r
module _ (r : Run) where
  -- the product of difference i on the axis before last
  abbrev pub product : ℕ → ℕ
  product i = get_or r.products.now (place (get_or r.components.now i (pos 0))) 0

  -- c of difference i: the residue of its part before the last axis
  abbrev pub part : ℕ → ℕ
  part i = (get_or r.sums.now i 0 + product i) % r.n

  -- what finding these parts asks
  pub record PartsReady : Type 0 where
    pub modulus : ValidModulus r.n
    pub paired : length r.components.now ≡ length r.sums.now
    pub table : length r.products.now ≡ places
    pub small : (i : ℕ) → i < length r.sums.now → nat_abs (get_or r.components.now i (pos 0)) ≤ largest_size
    pub sums_below : (i : ℕ) → i < length r.sums.now → get_or r.sums.now i 0 < r.n
    pub products_below : (i : ℕ) → i < length r.sums.now → product i < r.n

  -- what striking asks: mark n is there too, and stands for no value
  pub record Strikable (marks : List Bool) : Type 0 where
    pub parts : PartsReady
    pub solved : SolutionsSet r.n r.t r.step r.solutions.now
    pub inside : r.n < length marks

  -- v solves c + t v = 0 for a difference of the run
  pub record Solves (v : ℕ) : Type 0 where
    pub which : ℕ
    pub inside : which < length r.sums.now
    pub solved : (part which + r.t * v) % r.n ≡ 0

  -- every value that is marked afterwards was marked before or solves
  abbrev pub Struck : List Bool → List Bool → Type 0
  Struck old new = MarkedFor r.n Solves old new

-- ---- all differences: their components, the products of z, and the residues of their parts before each axis
module _ (n j : ℕ) (components : List ℤ) (products sums : List ℕ) where
  -- the product of difference e on axis j
  abbrev pub product_at : ℕ → ℕ
  product_at e = get_or products (j * places + place (get_or components (j * room + e) (pos 0))) 0

  -- the residue of its part up to axis j
  abbrev pub part_at : ℕ → ℕ
  part_at e = (get_or sums (j * room + e) 0 + product_at e) % n

  -- what a look at the differences numbered from `from` to before `to` asks
  pub record Readable (from to : ℕ) : Type 0 where
    pub modulus : ValidModulus n
    pub inner : suc j < axes
    pub small : Covered largest_size components
    pub within : to ≤ room
    pub sums_below : (e : ℕ) → from ≤ e → e < to → get_or sums (j * room + e) 0 < n
    pub products_below : (e : ℕ) → from ≤ e → e < to → product_at e < n

  -- the residues of the parts before axis j + 1 are set for these differences; nothing before them changes
  pub record SumsSet (from to : ℕ) (new : List ℕ) : Type 0 where
    pub size : length new ≡ length sums
    pub set : (e : ℕ) → from ≤ e → e < to → get_or new (suc j * room + e) 0 ≡ part_at e
    pub below : (e : ℕ) → from ≤ e → e < to → get_or new (suc j * room + e) 0 < n
    pub kept : (i : ℕ) → i < suc j * room + from → get_or new i 0 ≡ get_or sums i 0

-- ---- the sieve at the axis behind axis j
-- where, among the numbers of axis j, the run of the component t at the axis behind it starts
pub record RunStart (bounds : List ℕ) (j t start : ℕ) : Type 0 where
  pub is : start ≡ j * room + get_or bounds (suc j * lasts + t) 0
  pub inside : start ≤ axes * room

module _ (n j : ℕ) (T : ListTables) (products sums : List ℕ) where
  -- what it asks
  pub record Sievable (M : ModulusTables) : Type 0 where
    pub solved : SolutionsOf n M
    pub readable : Readable n j T.components products sums (get_or T.bounds (suc j * lasts) 0) (get_or T.bounds (suc (suc j) * lasts) 0)

  -- v is forbidden by a difference that ends there
  pub record Forbidden (v : ℕ) : Type 0 where
    pub last : ℕ
    pub which : ℕ
    pub small : last < lasts
    pub from : get_or T.bounds (suc j * lasts + last) 0 ≤ which
    pub to : which < get_or T.bounds (suc (suc j * lasts + last)) 0
    pub solved : (part_at n j T.components products sums which + last * v) % n ≡ 0

  -- each mark of the axis is forbidden; the marks of the axes before it stay
  pub record Sieved (old new : List Bool) : Type 0 where
    pub size : length new ≡ length old
    pub kept : KeptBelow false (suc j * largest_modulus) old new
    pub reason : (v : ℕ) → v < n → Marked new (suc j * largest_modulus + v) → Forbidden v

-- the same of what is fixed before that axis
module _ (p : Prefix) where
  -- what it asks
  abbrev pub SievablePrefix : Type 0
  SievablePrefix = Sievable p.n p.before p.list.now p.products.now p.sums.now p.modulus.now

  -- v is forbidden by a difference that ends there
  abbrev pub ForbiddenBy : ℕ → Type 0
  ForbiddenBy v = Forbidden p.n p.before p.list.now p.products.now p.sums.now v

  -- among the marks of the axis alone each was there before or is forbidden
  abbrev pub Barred : List Bool → List Bool → Type 0
  Barred old new = MarkedFor p.n ForbiddenBy old new

  -- each of them is forbidden
  abbrev pub AllBarred : List Bool → Type 0
  AllBarred marks = (v : ℕ) → v < p.n → Marked marks v → ForbiddenBy v

-- ---- the sieve at the first axis: nothing stands before it, so a value v is struck where t v = 0 modulo n
-- the step of t is a period of it, where it has one
pub record Periods (n : ℕ) (solved : List (Option Solved)) : Type 0 where
  pub some : (t : ℕ) (s : Solved) → t < lasts → get_or solved t None ≡ Some s → 1 ≤ s.step
  pub few : (t : ℕ) (s : Solved) → t < lasts → get_or solved t None ≡ Some s → s.step ≤ n
  pub period : (t : ℕ) (s : Solved) → t < lasts → get_or solved t None ≡ Some s → (t * s.step) % n ≡ 0

-- what it asks; components up to `tail` are looked at
pub record FirstSievable (n tail : ℕ) (solved : List (Option Solved)) (struck : List Bool) : Type 0 where
  pub modulus : ValidModulus n
  pub short : tail < lasts
  pub periods : Periods n solved
  pub inside : n ≤ length struck

-- v is forbidden by a difference that ends there
pub record FirstForbidden (n : ℕ) (bounds : List ℕ) (v : ℕ) : Type 0 where
  pub last : ℕ
  pub which : ℕ
  pub small : last < lasts
  pub from : get_or bounds last 0 ≤ which
  pub to : which < get_or bounds (suc last) 0
  pub solved : (last * v) % n ≡ 0

-- each mark was there before or is forbidden
abbrev pub FirstBarred : ℕ → List ℕ → List Bool → List Bool → Type 0
FirstBarred n bounds old new = MarkedFor n (FirstForbidden n bounds) old new

-- each of them is forbidden
pub record AllFirstBarred (n : ℕ) (bounds : List ℕ) (old new : List Bool) : Type 0 where
  pub size : length new ≡ length old
  pub reason : (v : ℕ) → v < n → Marked new v → FirstForbidden n bounds v
