-- The rows of a run of numbers: row i is the d numbers from place i × d on. How many rows there are, how long each is, which
-- rows they are, and the rows up to a place and from it on.
use mathlib.Core.Path.{◌≡◌, refl, sym, ◌∙◌, ap, ap₂, subst}
use mathlib.Core.Logic.{⊎_elim}
use mathlib.Core.List.Memᴰ
use mathlib.Core.List.{List, [], ◌∷◌, ◌++◌, Memᴰ}
use Prim.Native.Nat.{ℕ, zero, suc, ◌+◌, ◌*◌, ◌/◌, ◌<◌, ◌≤◌}
use native.Mathlib.Nat.{add-div_left, div-eq_of_lt, add_comm, zero-mul, suc-mul, mul-le-mul_right}
use native.Mathlib.Numerals.{add-one}
use native.Mathlib.Omega.{arith}
use lib.IntN.{ℤ}
use lib.ListN.{length, get_or, take, drop, length-append, length-drop, take-append-drop}
use lib.Seq.{take_at, drop-append_seam, length-take-le, take-append-le, drop-append-le, drop-cons, drop-drop}
use Rattle.std.proofs.lemmas.Nat.{div-mul-add}
use Rattle.rank1.specs.Index.{rows_of, row_count, index_list}
use Rattle.rank1.proofs.Distinct.{member_at, Place, place_of}

-- row i fits in where m rows do
pub row_fits : (d m i l : ℕ) → i < m → m * d ≤ l → i * d + d ≤ l
row_fits d m i l h f = omega (arith, suc-mul i d, mul-le-mul_right {m = suc i} {n = m} d (omega arith))

-- row t of a run of whole rows lies within it
pub row_inside : (d t : ℕ) (xs : List ℤ) → t < row_count d xs → length xs ≡ row_count d xs * d → (t + 1) * d ≤ length xs
row_inside d t xs l e = omega (arith, row_fits d (row_count d xs) t (length xs) l (omega arith))

-- i rows further on, past the first one
past : (d i : ℕ) (xs : List ℤ) → drop (i * d) (drop d xs) ≡ drop (suc i * d) xs
past d i xs = drop-drop (i * d) d xs ∙ ap (λ (k : ℕ). drop k xs) (add_comm d (i * d) ∙ sym (suc-mul i d))

none_past : (d : ℕ) (xs : List ℤ) → drop (0 * d) xs ≡ xs
none_past d xs = ap (λ (k : ℕ). drop k xs) (zero-mul d)

-- ---- the rows of a run, from the front: the first row and the rows of the rest, or none where less than a row is left
pub index_cons : (d : ℕ) (xs : List ℤ) → 0 < d → d ≤ length xs → index_list d xs ≡ take d xs ∷ index_list d (drop d xs)
index_cons d xs some l = ap (λ (m : ℕ). rows_of d m xs) count
  where
    count : length xs / d ≡ suc (length (drop d xs) / d)
    count =
        let e : length xs ≡ d + length (drop d xs) = omega (arith, length-drop d xs) in
        ap (λ (k : ℕ). k / d) e ∙ add-div_left (length (drop d xs)) some ∙ add-one (length (drop d xs) / d)

pub index_front : (d : ℕ) (k xs : List ℤ) → 0 < d → length k ≡ d → index_list d (k ++ xs) ≡ k ∷ index_list d xs
index_front d k xs some e =
    index_cons d (k ++ xs) some (omega (arith, length-append k xs, e))
    ∙ ap₂ (λ (r s : List ℤ). r ∷ index_list d s) (take_at k xs d e) (ap (λ (n : ℕ). drop n (k ++ xs)) (sym e) ∙ drop-append_seam k xs)

pub index_short : (d : ℕ) (xs : List ℤ) → length xs < d → index_list d xs ≡ []
index_short d xs l = ap (λ (m : ℕ). rows_of d m xs) (div-eq_of_lt l)

-- ---- how many, and which
pub rows-length : (d m : ℕ) (xs : List ℤ) → length (rows_of d m xs) ≡ m
rows-length d zero xs = refl
rows-length d (suc m) xs = ap suc (rows-length d m (drop d xs))

pub row_at_lem : (d m : ℕ) (xs : List ℤ) (i : ℕ) → i < m → get_or (rows_of d m xs) i [] ≡ take d (drop (i * d) xs)
row_at_lem d zero xs i l = absurd (omega arith)
row_at_lem d (suc m) xs zero l = ap (take d) (sym (none_past d xs))
row_at_lem d (suc m) xs (suc i) l = row_at_lem d m (drop d xs) i (omega arith) ∙ ap (take d) (past d i xs)

-- the numbers from place i × d on, d of them
pub part_length : (d m : ℕ) (xs : List ℤ) (i : ℕ) → i < m → m * d ≤ length xs → length (take d (drop (i * d) xs)) ≡ d
part_length d m xs i l f = length-take-le d (drop (i * d) xs) (omega (arith, length-drop (i * d) xs, row_fits d m i (length xs) l f))

-- ---- the rows of a run by its chunks: k is the next d numbers of what is left from place i × d on
module _ (d i : ℕ) (xs k rest : List ℤ) (left : drop (i * d) xs ≡ k ++ rest) (long : length k ≡ d) (within : i * d ≤ length xs) where
  pub chunk_row : k ≡ take d (drop (i * d) xs)
  chunk_row = sym (ap (take d) left ∙ take_at k rest d long)

  turn : (i + 1) * d ≡ d + i * d
  turn = ap (λ (n : ℕ). n * d) (add-one i) ∙ suc-mul i d ∙ add_comm (i * d) d

  pub chunk_rest : rest ≡ drop ((i + 1) * d) xs
  chunk_rest =
      sym (ap (λ (n : ℕ). drop n xs) (turn ∙ add_comm d (i * d)) ∙ sym (drop-drop d (i * d) xs) ∙ ap (drop d) left ∙ ap (λ (n : ℕ). drop n (k ++ rest)) (sym long) ∙ drop-append_seam k rest)

  pub chunk_within : (i + 1) * d ≤ length xs
  chunk_within = omega (arith, turn, ap (length {A = ℤ}) left, length-append k rest, length-drop (i * d) xs)

-- where less than a chunk is left, all rows are passed
pub chunks_end : (d i : ℕ) (xs : List ℤ) → i * d ≤ length xs → length (drop (i * d) xs) < d → i ≡ row_count d xs
chunks_end d i xs within short =
    let e : length xs ≡ i * d + length (drop (i * d) xs) = omega (arith, length-drop (i * d) xs) in
    sym (ap (λ (n : ℕ). n / d) e ∙ div-mul-add i d (length (drop (i * d) xs)) short)

-- ---- members
pub row_in : (d m : ℕ) (xs : List ℤ) (i : ℕ) → i < m → Memᴰ (take d (drop (i * d) xs)) (rows_of d m xs)
row_in d m xs i l = Memᴰ.cast (sym (row_at_lem d m xs i l)) (member_at (rows_of d m xs) [] i (omega (arith, rows-length d m xs)))

-- where a row stands
pub record RowPlace (d m : ℕ) (xs k : List ℤ) : Type 0 where
  pub index : ℕ
  pub inside : index < m
  pub is : k ≡ take d (drop (index * d) xs)

pub row_out : (d m : ℕ) (xs k : List ℤ) → Memᴰ k (rows_of d m xs) → RowPlace d m xs k
row_out d m xs k i = go (place_of (rows_of d m xs) k [] i)
  where
    go : Place (rows_of d m xs) k [] → RowPlace d m xs k
    go p = record { index = p.index; inside = inner; is = sym p.is ∙ row_at_lem d m xs p.index inner }
      where
        inner : p.index < m
        inner = omega (arith, p.inside, rows-length d m xs)

pub member_length : (d m : ℕ) (xs k : List ℤ) → m * d ≤ length xs → Memᴰ k (rows_of d m xs) → length k ≡ d
member_length d m xs k f i = go (row_out d m xs k i)
  where
    go : RowPlace d m xs k → length k ≡ d
    go p = ap length p.is ∙ part_length d m xs p.index p.inside f

-- a component of a row is a number of the run
pub component_in : (d m : ℕ) (xs k : List ℤ) (x : ℤ) → Memᴰ k (rows_of d m xs) → Memᴰ x k → Memᴰ x xs
component_in d zero xs k x i j = absurd (Memᴰ.not-nil i)
component_in d (suc m) xs k x i j =
    subst (Memᴰ x) (take-append-drop d xs)
    (⊎_elim
    (λ e. Memᴰ.append_left (drop d xs) (subst (Memᴰ x) e j))
    (λ i'. Memᴰ.append_right (take d xs) (component_in d m (drop d xs) k x i' j))
    (Memᴰ.cases_cons i))

-- ---- the rows before a place, and those from it on
pub rows_take : (d m : ℕ) (xs : List ℤ) (i : ℕ) → i ≤ m → take i (rows_of d m xs) ≡ rows_of d i xs
rows_take d m xs zero l = refl
rows_take d zero xs (suc i) l = absurd (omega arith)
rows_take d (suc m) xs (suc i) l = ap (λ (ks : List (List ℤ)). take d xs ∷ ks) (rows_take d m (drop d xs) i (omega arith))

-- row i is the next one of those from place i on
pub rows-drop-cons : (d m : ℕ) (xs : List ℤ) (i : ℕ) → i < m → drop i (rows_of d m xs) ≡ take d (drop (i * d) xs) ∷ drop (suc i) (rows_of d m xs)
rows-drop-cons d m xs i l =
    drop-cons (rows_of d m xs) i [] (omega (arith, rows-length d m xs))
    ∙ ap (λ (k : List ℤ). k ∷ drop (suc i) (rows_of d m xs)) (row_at_lem d m xs i l)

-- and the last one of those up to place i
pub rows_snoc : (d i : ℕ) (xs : List ℤ) → rows_of d (suc i) xs ≡ rows_of d i xs ++ (take d (drop (i * d) xs) ∷ [])
rows_snoc d zero xs = ap (λ (k : List ℤ). take d k ∷ []) (sym (none_past d xs))
rows_snoc d (suc i) xs =
    ap (λ (ks : List (List ℤ)). take d xs ∷ ks)
    (rows_snoc d i (drop d xs) ∙ ap (λ (k : List ℤ). rows_of d i (drop d xs) ++ (take d k ∷ [])) (past d i xs))

-- the first rows are not moved by what comes behind them
pub rows_front : (d m : ℕ) (xs ys : List ℤ) → m * d ≤ length xs → rows_of d m (xs ++ ys) ≡ rows_of d m xs
rows_front d zero xs ys l = refl
rows_front d (suc m) xs ys l =
    ap₂ (λ (a : List ℤ) (b : List (List ℤ)). a ∷ b) (take-append-le d xs ys fits)
    (ap (rows_of d m) (drop-append-le d xs ys fits) ∙ rows_front d m (drop d xs) ys (omega (arith, length-drop d xs, suc-mul m d)))
  where
    fits : d ≤ length xs
    fits = omega (arith, suc-mul m d)
