-- Product tables: where a component's product stands, the stores of one axis, the axes one by one, and the residue of a row as
-- a sum of entries.
use mathlib.Core.Path.{◌≡◌, refl, sym, ◌∙◌, ap}
use mathlib.Core.Logic.{◌≢◌}
use mathlib.Core.Bool.{false}
use mathlib.Core.List.{List, [], ◌∷◌, ◌++◌, map}
use Prim.Native.Nat.{ℕ, zero, suc, ◌+◌, ◌*◌, ◌-◌, ◌/◌, ◌%◌, ◌<◌, ◌≤◌, zero-le}
use native.Mathlib.Nat.{add-zero, zero-mul, suc-mul, mul-suc, mul-mod_right, zero-mod, mod_self, sub-zero, mod-lt, mod-add-mod, div-add-mod}
use native.Mathlib.Numerals.{add-one}
use native.Mathlib.Omega.{arith}
use borrow.Author.Count.{below_more}
use lib.IntN.{ℤ, pos, negsuc, nat_abs, ◌*ℤ◌, +ℤ_idl}
use lib.ListN.{length, get_or, take, drop, set, replicate, length-set, drop_of_length-le}
use lib.Seq.{drop-cons, get_or-drop, get_or-set_same, get_or-set_other}
use lib.Signed.{lt_z}
use mir.Syntax.{w16}
use mir.Val.{SFits, to_z, of_z}
use mir.Facts.{to_z-of_z}
use Rattle.rank1.specs.Residue.{residue, dot}
use Rattle.rank1.specs.Search.{largest}
use Rattle.rank1.proofs.ResidueLaws.{residue-mod, residue-lt, residue_is}
use Rattle.rank1.proofs.DotLaws.{dot-empty, dot-turn}
use Rattle.planner.specs.Sizes.{largest_size, middle, places}
use Rattle.planner.specs.Inner.{place, Products, KeptBelow, AxisSet, Covered, Prepared}

-- ---- a component, its sign and its place
-- a component fits an i16
pub small_fits : (x : ℤ) → nat_abs x ≤ largest_size → SFits w16 x
small_fits (pos a) h = record { sfits = omega arith }
small_fits (negsuc a) h = record { sfits = omega arith }

-- a component is read back from its i16
pub read_back : (x : ℤ) → nat_abs x ≤ largest_size → to_z w16 (of_z w16 x) ≡ x
read_back x h = to_z-of_z (small_fits x h)

-- a number that is not below 0 is its own size
pub itself : (x : ℤ) → lt_z x (pos 0) ≡ false → x ≡ pos (nat_abs x)
itself (pos a) e = refl
itself (negsuc a) e = absurd (let z : ◌≡◌ {A = ℕ} 0 1 = cc in omega arith)

-- the place of a component is one of its axis
pub place-lt : (x : ℤ) → nat_abs x ≤ largest_size → place x < places
place-lt (pos a) h = omega arith
place-lt (negsuc a) h = omega arith

-- ---- residues of negatives and of sums
-- 0 is its own negative
pub negative_zero : (n : ℕ) → (n - 0) % n ≡ 0
negative_zero n = ap (λ (k : ℕ). k % n) (sub-zero n) ∙ mod_self n

-- the residue of a product with a negative number
pub negative-product : (n a v : ℕ) → 0 < n → residue n (negsuc a *ℤ pos v) ≡ (n - (suc a * v) % n) % n
negative-product n a v h =
    residue_is n 0 (suc a * v) (n - (suc a * v) % n) (negsuc a *ℤ pos v) h (sym (+ℤ_idl (negsuc a *ℤ pos v)))
    (ap (λ (k : ℕ). k % n) whole ∙ mul-mod_right n (suc (suc a * v / n)) ∙ sym (zero-mod n))
  where
    whole : n - (suc a * v) % n + suc a * v ≡ n * suc (suc a * v / n)
    whole = omega (arith, div-add-mod (suc a * v) n, mod-lt (suc a * v) h, mul-suc n (suc a * v / n))

-- ---- the stores of one axis
-- the products of the numbers below size x are set
pub record Setting (n v axis x : ℕ) (old new : List ℕ) : Type 0 where
  pub size : length new ≡ length old
  pub entry : (y : ℤ) → nat_abs y < x → get_or new (axis * places + place y) 0 ≡ residue n (y *ℤ pos v)
  pub kept : KeptBelow 0 (axis * places) old new

-- at the end: all sizes up to top are set
pub set_all : (n v axis x top : ℕ) (old new : List ℕ) → top < x → Setting n v axis x old new → AxisSet n v axis top old new
set_all n v axis x top old new l s = record {
  size = s.size;
  entry = λ y h. s.entry y (omega arith);
  kept = s.kept;
}

-- a place that neither of two stores meets
apart : (l : List ℕ) (i j k p q : ℕ) → k ≢ i → k ≢ j → get_or (set (set l i p) j q) k 0 ≡ get_or l k 0
apart l i j k p q d e = get_or-set_other (set l i p) j k q 0 e ∙ get_or-set_other l i k p 0 d

-- what stands at m + x after the stores at m + x and m - x
upper : (l : List ℕ) (m x p q : ℕ) → x ≤ m → m + x < length l → (x ≡ 0 → q ≡ p) → get_or (set (set l (m + x) p) (m - x) q) (m + x) 0 ≡ p
upper l m zero p q h b e =
    ap (λ (i : ℕ). get_or (set (set l (m + 0) p) (m - 0) q) i 0) same
    ∙ get_or-set_same (set l (m + 0) p) (m - 0) q 0 (simp length-set (omega arith))
    ∙ e refl
  where
    same : m + 0 ≡ m - 0
    same = omega arith
upper l m (suc x) p q h b e =
    get_or-set_other (set l (m + suc x) p) (m - suc x) (m + suc x) q 0 (λ d. omega arith)
    ∙ get_or-set_same l (m + suc x) p 0 b

-- the place of a smaller number is between those of x and -x
between : (y : ℤ) (x : ℕ) → nat_abs y < x → x ≤ largest_size → (place y < middle + x) × (middle - x < place y)
between (pos a) x h l = (omega arith, omega arith)
between (negsuc a) x h l = (omega arith, omega arith)

-- a turn: the stores for x and for -x
pub set_more : (n v axis x p q : ℕ) (old new : List ℕ) → 0 < n → x ≤ largest_size → axis * places + places ≤ length old → p ≡ (x * v) % n → q ≡ (n - p) % n → Setting n v axis x old new → Setting n v axis (x + 1) old (set (set new (axis * places + middle + x) p) (axis * places + middle - x) q)
set_more n v axis x p q old new h low room isp isq s = record {
  size = simp length-set s.size;
  entry = λ y l. below_more (λ k. (y : ℤ) → nat_abs y ≡ k → Right y) x (λ k m y e. before y (omega arith)) at (nat_abs y) l y refl;
  kept = λ i l. apart new (m + x) (m - x) i p q (λ e. omega arith) (λ e. omega arith) ∙ s.kept i l;
}
  where
    m : ℕ
    m = axis * places + middle

    after : List ℕ
    after = set (set new (m + x) p) (m - x) q

    Right : ℤ → Type 0
    Right y = get_or after (axis * places + place y) 0 ≡ residue n (y *ℤ pos v)

    fits : m + x < length new
    fits = omega (arith, s.size)

    before : (y : ℤ) → nat_abs y < x → Right y
    before y l =
        let b = between y x l low in
        apart new (m + x) (m - x) (axis * places + place y) p q (λ e. omega arith) (λ e. omega arith) ∙ s.entry y l

    -- 0 has one place
    zeros : x ≡ 0 → q ≡ p
    zeros e = isq ∙ ap (λ (k : ℕ). (n - k) % n) none ∙ negative_zero n ∙ sym none
      where
        none : p ≡ 0
        none = isp ∙ ap (λ (k : ℕ). (k * v) % n) e ∙ ap (λ (k : ℕ). k % n) (zero-mul v) ∙ zero-mod n

    at : (y : ℤ) → nat_abs y ≡ x → Right y
    at (pos a) e =
        ap (λ (i : ℕ). get_or after i 0) place_up
        ∙ upper new m x p q (omega arith) fits zeros
        ∙ isp
        ∙ ap (λ (k : ℕ). (k * v) % n) (sym e)
      where
        place_up : axis * places + (middle + a) ≡ m + x
        place_up = omega arith
    at (negsuc a) e =
        ap (λ (i : ℕ). get_or after i 0) place_down
        ∙ get_or-set_same (set new (m + x) p) (m - x) q 0 (simp length-set (omega (arith, fits)))
        ∙ isq
        ∙ ap (λ (k : ℕ). (n - k) % n) (isp ∙ ap (λ (k : ℕ). (k * v) % n) (sym e))
        ∙ sym (negative-product n a v h)
      where
        place_down : axis * places + (middle - suc a) ≡ m - x
        place_down = omega arith

-- the residue of the next multiple of v
pub next_multiple : (n v x p : ℕ) → p ≡ (x * v) % n → (p + v) % n ≡ ((x + 1) * v) % n
next_multiple n v x p e =
    ap (λ (k : ℕ). (k + v) % n) e
    ∙ mod-add-mod (x * v) n v
    ∙ ap (λ (k : ℕ). k % n) grown
  where
    grown : x * v + v ≡ (x + 1) * v
    grown = omega (arith, suc-mul x v, ap (λ (k : ℕ). k * v) (add-one x))

-- ---- lists of components
-- covered by a larger top too
pub covered_wider : (top more : ℕ) (xs : List ℤ) → top ≤ more → more ≤ largest_size → Covered top xs → Covered more xs
covered_wider top more xs l h c = record { narrow = h; covered = λ i. omega (arith, c.covered i) }

-- the largest size covers the list
pub covered_largest : (xs : List ℤ) → Covered largest_size xs → Covered (largest (map nat_abs xs)) xs
covered_largest xs c = record { narrow = below xs c.covered; covered = above xs }
  where
    below : (xs : List ℤ) → ((i : ℕ) → nat_abs (get_or xs i (pos 0)) ≤ largest_size) → largest (map nat_abs xs) ≤ largest_size
    below [] h = zero-le
    below (x ∷ xs) h = omega (arith, h 0, below xs (λ i. h (suc i)))

    above : (xs : List ℤ) (i : ℕ) → nat_abs (get_or xs i (pos 0)) ≤ largest (map nat_abs xs)
    above [] i = zero-le
    above (x ∷ xs) zero = omega arith
    above (x ∷ xs) (suc i) = omega (arith, above xs i)

-- what stands at a place of its start is no larger than at that of the list
small_part : (top d : ℕ) (xs : List ℤ) (i : ℕ) → nat_abs (get_or xs i (pos 0)) ≤ top → nat_abs (get_or (take d xs) i (pos 0)) ≤ top
small_part top zero xs i h = zero-le
small_part top (suc d) [] i h = zero-le
small_part top (suc d) (x ∷ xs) zero h = h
small_part top (suc d) (x ∷ xs) (suc i) h = small_part top d xs i h

-- the start of a list is covered with it
pub covered_take : (top d : ℕ) (xs : List ℤ) → Covered top xs → Covered top (take d xs)
covered_take top d xs c = record { narrow = c.narrow; covered = λ i. small_part top d xs i (c.covered i) }

-- so is what follows a start
pub covered_drop : (top a : ℕ) (xs : List ℤ) → Covered top xs → Covered top (drop a xs)
covered_drop top a xs c = record { narrow = c.narrow; covered = λ i. rw (get_or-drop a xs i (pos 0)) (c.covered (a + i)) }

-- so are two lists, one behind the other
small_append : (top : ℕ) (xs ys : List ℤ) → ((i : ℕ) → nat_abs (get_or xs i (pos 0)) ≤ top) → ((i : ℕ) → nat_abs (get_or ys i (pos 0)) ≤ top) → (i : ℕ) → nat_abs (get_or (xs ++ ys) i (pos 0)) ≤ top
small_append top [] ys f g i = g i
small_append top (x ∷ xs) ys f g zero = f 0
small_append top (x ∷ xs) ys f g (suc i) = small_append top xs ys (λ a. f (suc a)) g i

pub covered_append : (top : ℕ) (xs ys : List ℤ) → Covered top xs → Covered top ys → Covered top (xs ++ ys)
covered_append top xs ys f g = record { narrow = f.narrow; covered = small_append top xs ys f.covered g.covered }

-- and a list of zeros
pub covered_zeros : (top n : ℕ) → top ≤ largest_size → Covered top (replicate n (pos 0))
covered_zeros top n l = record { narrow = l; covered = at n }
  where
    at : (n i : ℕ) → nat_abs (get_or (replicate n (pos 0)) i (pos 0)) ≤ top
    at zero i = omega arith
    at (suc n) zero = omega arith
    at (suc n) (suc i) = at n i

-- the table of all rows serves each row
pub prepared_row : (n d a : ℕ) (z : List ℕ) (xs : List ℤ) (table : List ℕ) → Prepared n z xs table → Prepared n z (take d (drop a xs)) table
prepared_row n d a z xs table p = record {
  covers = covered_take largest_size d (drop a xs) (covered_drop largest_size a xs p.covers);
  entry = λ j i x h b.
      let top = nat_abs (get_or xs (a + i) (pos 0)) in
      p.entry j (a + i) x h (omega (arith, b, small_part top d (drop a xs) i (omega (arith, ap nat_abs (get_or-drop a xs i (pos 0))))));
}

-- the table of all numbers up to a top serves a list that has no larger component
pub prepared_up_to : (n top : ℕ) (z : List ℕ) (xs : List ℤ) (table : List ℕ) → Covered top xs → Products n z top table → Prepared n z xs table
prepared_up_to n top z xs table c p = record {
  covers = covered_wider top largest_size xs c.narrow (omega arith) c;
  entry = λ j i x h b. p.entry j x h (omega (arith, b, c.covered i));
}

-- ---- the entry of a component on an axis
module _ (n : ℕ) (z : List ℕ) (xs : List ℤ) (table : List ℕ) (p : Prepared n z xs table) where
  -- a component is no larger than a difference's can be
  pub component_small : (i : ℕ) → nat_abs (get_or xs i (pos 0)) ≤ largest_size
  component_small = p.covers.covered

  -- its entry on an axis is the residue of its product
  pub entry_is : (i j : ℕ) → j < length z → get_or table (j * places + place (get_or xs i (pos 0))) 0 ≡ residue n (get_or xs i (pos 0) *ℤ pos (get_or z j 0))
  entry_is i j h = p.entry j i (get_or xs i (pos 0)) h (omega arith)

  -- so the entry is below n
  pub entry_lt : (i j : ℕ) → 0 < n → j < length z → get_or table (j * places + place (get_or xs i (pos 0))) 0 < n
  entry_lt i j l h = rw (entry_is i j h) (residue-lt n (get_or xs i (pos 0) *ℤ pos (get_or z j 0)) l)

-- ---- the residue of a row: what is left of it after j components
-- a turn adds the entry of component j
pub row-turn : (row : List ℤ) (z : List ℕ) (n s t j : ℕ) → 0 < n → j < length row → j < length z → t ≡ residue n (get_or row j (pos 0) *ℤ pos (get_or z j 0)) → (s + t + residue n (dot (drop (j + 1) row) (map pos (drop (j + 1) z)))) % n ≡ (s + residue n (dot (drop j row) (map pos (drop j z)))) % n
row-turn row z n s t j h a b e =
    rw (add-one j, drop-cons row j (pos 0) a, drop-cons z j 0 b)
    (dot-turn n s t (get_or row j (pos 0)) (pos (get_or z j 0)) (drop (suc j) row) (map pos (drop (suc j) z)) h
    (ap (λ (k : ℕ). k % n) e ∙ residue-mod n (get_or row j (pos 0) *ℤ pos (get_or z j 0)) h))

-- past z's length nothing is left, whatever the row has there
pub row_finished : (row : List ℤ) (z : List ℕ) (n s j : ℕ) → length z ≤ j → s % n ≡ (s + residue n (dot (drop j row) (map pos (drop j z)))) % n
row_finished row z n s j h =
    sym (ap (λ (l : List ℕ). (s + residue n (dot (drop j row) (map pos l))) % n) (drop_of_length-le z h)
    ∙ ap (λ (k : ℤ). (s + residue n k) % n) (dot-empty (drop j row))
    ∙ ap (λ (k : ℕ). (s + k) % n) (zero-mod n)
    ∙ ap (λ (k : ℕ). k % n) (add-zero s))
