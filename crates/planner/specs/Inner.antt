-- What the private functions ask of their arguments and say of their tables. Nothing here is in a public contract.
use Rattle.std.specs.Prelude.{◌≡◌, Bool, true, false, Option, Some, None, not, ◌&&◌, ◌||◌, ℕ, suc, ◌+◌, ◌-◌, ◌*◌, ◌%◌, ◌^◌, ◌<◌, ◌≤◌, eqb, ℤ, pos, negsuc, nat_abs, ◌*ℤ◌, length, get_or, take, drop}
use mathlib.Core.List.{List, [], map, Memᴰ}
use Rattle.std.specs.Int.Signed.{quot_z}
use Rattle.rank1.specs.Tests.{count}
use Rattle.rank1.specs.Residue.{residue, residue_at}
use Rattle.rank1.specs.Index.{index_list}
use Rattle.rank1.specs.Rule.{Reconstructs}
use Rattle.rank1.specs.Sums.{in32, copies}
use Rattle.rank1.specs.Valid.{ValidModulus}
use Rattle.rank1.specs.Axes.{ZeroFrom}
use Rattle.planner.specs.Sizes.{axes, most_mirrors, largest_size, middle, places, product_room}

-- ---- product tables: so many places for each axis, one for each component of a row or of a difference
-- where the product of a component stands among the places of its axis
abbrev pub place : ℤ → ℕ
place (pos a) = middle + a
place (negsuc a) = middle - suc a

-- for each component of z, the residues of its products with the numbers of size at most top
pub record Products (n : ℕ) (z : List ℕ) (top : ℕ) (table : List ℕ) : Type 0 where
  pub size : length table ≡ product_room
  pub entry : (j : ℕ) (x : ℤ) → j < length z → nat_abs x ≤ top → get_or table (j * places + place x) 0 ≡ residue n (x *ℤ pos (get_or z j 0))

-- the first k entries are as they were; x is what stands where a list has none
abbrev pub KeptBelow : {A : Type 0} → A → ℕ → List A → List A → Type 0
KeptBelow x k old new = (i : ℕ) → i < k → get_or new i x ≡ get_or old i x

-- the products of one axis are set anew; those of the axes before it stay
pub record AxisSet (n v axis top : ℕ) (old new : List ℕ) : Type 0 where
  pub size : length new ≡ length old
  pub entry : (x : ℤ) → nat_abs x ≤ top → get_or new (axis * places + place x) 0 ≡ residue n (x *ℤ pos v)
  pub kept : KeptBelow 0 (axis * places) old new

-- no component is larger than top
pub record Covered (top : ℕ) (xs : List ℤ) : Type 0 where
  pub narrow : top ≤ largest_size
  pub covered : (i : ℕ) → nat_abs (get_or xs i (pos 0)) ≤ top

-- no component in xs is larger, by size, than `largest_size`; the table has, for each component of z, the residues of its products with the numbers
-- that are no larger, by size, than some component in xs
pub record Prepared (n : ℕ) (z : List ℕ) (xs : List ℤ) (table : List ℕ) : Type 0 where
  pub covers : Covered largest_size xs
  pub entry :
      (j i : ℕ) (x : ℤ) → j < length z → nat_abs x ≤ nat_abs (get_or xs i (pos 0))
      → get_or table (j * places + place x) 0 ≡ residue n (x *ℤ pos (get_or z j 0))

-- ---- rows
-- row e of a run of rows
abbrev pub row_at : ℕ → List ℤ → ℕ → List ℤ
row_at d xs e = take d (drop (e * d) xs)

-- what the residues of a row's mirrors ask: few axes, the row 0 from z's length on, and the products
pub record RowReady (n : ℕ) (z : List ℕ) (k : List ℤ) (table : List ℕ) : Type 0 where
  pub modulus : ValidModulus n
  pub few_axes : length k ≤ axes
  pub short : length z ≤ length k
  pub ended : ZeroFrom (length z) k
  pub prepared : Prepared n z k table

-- what the residues of the mirrors of all rows of a list ask, besides that the list is valid
pub record Ready (d : ℕ) (xs : List ℤ) (n : ℕ) (z table : List ℕ) : Type 0 where
  pub modulus : ValidModulus n
  pub short : length z ≤ d
  pub ended : (k : List ℤ) → Memᴰ k (index_list d xs) → ZeroFrom (length z) k
  pub prepared : Prepared n z xs table

-- ---- owners
-- at each number below n stands which one of the first i rows has this residue, or None; f is the residue of each row
pub record Owners (f : ℕ → ℕ) (n i : ℕ) (table : List (Option ℕ)) : Type 0 where
  pub told : (a : ℕ) → a < i → get_or table (f a) None ≡ Some a
  pub owns : (x o : ℕ) → x < n → get_or table x None ≡ Some o → (o < i) × (f o ≡ x)

-- no number below n is taken
abbrev pub Clear : ℕ → List Bool → Type 0
Clear n table = (x : ℕ) → x < n → get_or table x false ≡ false

-- the residue of row i of a list
abbrev pub residue_of : ℕ → List ℕ → List (List ℤ) → ℕ → ℕ
residue_of n z ks i = residue_at n (map pos z) (get_or ks i [])

-- what recording the owners of all rows gives: a full table, or two rows have one residue
pub record Recorded (n : ℕ) (z : List ℕ) (ks : List (List ℤ)) (table : List (Option ℕ)) (r : Bool) : Type 0 where
  pub all : r ≡ true → Owners (residue_of n z ks) n (length ks) table
  pub clash : r ≡ false → Reconstructs ks n (map pos z) → ⊥

-- the owner of a residue forbids it to a mirror of row i: under plan B any owner does, under plan C another row
abbrev pub clash : ℕ → ℕ → Option ℕ → Bool
clash plan i None = false
clash plan i (Some owner) = eqb plan 3 || not (eqb owner i)

-- ---- sums
-- how often x stands in a list of residues
abbrev pub occurrences : ℕ → List ℕ → ℕ
occurrences x rs = count (λ r. eqb r x) rs

-- what adding a at each of the residues asks: they are places, and no sum leaves 64 bits
pub record Addable (a : ℤ) (rs : List ℕ) (sums : List ℤ) : Type 0 where
  pub inside : (t : ℕ) → t < length rs → get_or rs t 0 < length sums
  pub fits : (r : ℕ) → nat_abs (get_or sums r (pos 0)) + length rs * nat_abs a < 2 ^ 63

-- a sum is a multiple of c, and the quotient has 32 bits
abbrev pub divides : ℤ → ℕ → Bool
divides s c = eqb (nat_abs s % c) 0 && in32 (quot_z s (pos c))

-- the residue and c of a row
pub record EntryOf (plan n : ℕ) (z : List ℕ) (k : List ℤ) (residue c : ℕ) : Type 0 where
  pub is_residue : residue ≡ residue_at n (map pos z) k
  pub inside : residue < n
  pub is_copies : c ≡ copies plan n (map pos z) k
  pub some : 1 ≤ c
  pub few : c ≤ most_mirrors
