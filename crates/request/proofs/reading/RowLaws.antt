-- Rows by what is left of them: a row one field a turn (RowSoFar, for Reader::row), and rows one row a turn (RowsSoFar, for
-- Reader::rows), as they are read and written.
use mathlib.Core.Path.{◌≡◌, refl, sym, ◌∙◌, ap}
use mathlib.Core.List.{List, [], ◌∷◌, ◌++◌, map, map-append}
use Prim.Native.Nat.{ℕ, suc, ◌+◌, ◌-◌, ◌*◌, ◌≤◌, ◌<◌}
use native.Mathlib.Nat.{mul-le-mul_right}
use native.Mathlib.Numerals.{add-one}
use native.Mathlib.Omega.{arith}
use lib.IntN.{ℤ}
use lib.ListN.{length, take, drop, set, length-map, length-drop}
use lib.Seq.{take-suc-set, take_all, length-take-le}
use borrow.Rule.Slice.PartMut.{put_mid}
use Rattle.std.proofs.lemmas.Slice.{take-put_mid}
use Rattle.request.specs.Reading.{Parsed, bad, got, and_then, read_line, read_signed, read_rows}
use Rattle.request.specs.Inner.{before, clamped, separator_of, mapped}
use Rattle.request.proofs.RequestLaws.{members_got, line-members}
use Rattle.request.proofs.reading.ByteLaws.{mapped_bad, mapped_got}
use Rattle.request.proofs.reading.LineLaws.{prepend, prepend_twice, prepend_end, LineSoFar, line-start, line-next, line_stop}

-- ---- rows by what is left of them
-- the next row is out of form, or it is got
pub rows_bad : (d m : ℕ) (s : List ℕ) → read_line read_signed d s ≡ bad → read_rows d (suc m) s ≡ bad
rows_bad d m s e = ap (λ (p : Parsed (List ℤ)). and_then p (λ k r. prepend k (read_rows d m r))) e

pub rows_got : (d m : ℕ) (s : List ℕ) (row : List ℤ) (t : List ℕ) → read_line read_signed d s ≡ got row t → read_rows d (suc m) s ≡ prepend row (read_rows d m t)
rows_got d m s row t e = ap (λ (p : Parsed (List ℤ)). and_then p (λ k r. prepend k (read_rows d m r))) e

-- ---- a row, one field a turn: j fields are read, and stand clamped in the first places
pub record RowSoFar (s : List ℕ) (d : ℕ) (places : List ℤ) (j : ℕ) (rest : List ℕ) : Type 0 where
  pub fields : List ℤ
  pub line : LineSoFar read_signed s d fields j rest
  pub written : take j places ≡ map clamped fields

pub row-start : (s : List ℕ) (d : ℕ) (places : List ℤ) → 1 ≤ d → RowSoFar s d places 0 s
row-start s d places some = record { fields = []; line = line-start read_signed s d some; written = refl }

module _ (s : List ℕ) (d : ℕ) (places : List ℤ) (j : ℕ) (rest : List ℕ) (so_far : RowSoFar s d places j rest) where
  module _ (more : j < d) where
    -- a field is read and written
    pub row_more : (v : ℤ) (left : List ℕ) → j < length places → mapped clamped (before (separator_of j d) (read_signed rest)) ≡ got v left → RowSoFar s d (set places j v) (j + 1) left
    row_more v left fits e =
        let field = mapped_got clamped (before (separator_of j d) (read_signed rest)) v left e in
        record {
          fields = so_far.fields ++ (field.part ∷ []);
          line = line-next read_signed s d so_far.fields j rest so_far.line more field.part left field.parsed;
          written =
              ap (λ (n : ℕ). take n (set places j v)) (add-one j)
              ∙ take-suc-set places j v fits
              ∙ ap (λ (t : List ℤ). t ++ (v ∷ [])) so_far.written
              ∙ ap (λ (y : ℤ). map clamped so_far.fields ++ (y ∷ [])) (sym field.value)
              ∙ sym (map-append clamped so_far.fields (field.part ∷ []));
        }

    -- a field is out of form, or another byte stands behind it
    pub row_stop : mapped clamped (before (separator_of j d) (read_signed rest)) ≡ bad → read_line read_signed d s ≡ bad
    row_stop e =
        line_stop read_signed s d so_far.fields j rest so_far.line more (mapped_bad clamped (before (separator_of j d) (read_signed rest)) e)

-- ---- rows, one row a turn
-- row i lies within the places, and d places are lent to it
pub rows_fit : (d m i : ℕ) → i < m → i * d + d ≤ m * d
rows_fit d m i l =
    let next : i + 1 ≤ m = omega arith in
    omega (arith, mul-le-mul_right d next)

pub lent_row : (d at : ℕ) (places : List ℤ) → at + d ≤ length places → length (take (at + d - at) (drop at places)) ≡ d
lent_row d at places l = length-take-le (at + d - at) (drop at places) (omega (arith, length-drop at places)) ∙ omega arith

-- i rows are read, and stand clamped in the first places
pub record RowsSoFar (s : List ℕ) (d m : ℕ) (places : List ℤ) (i : ℕ) (rest : List ℕ) : Type 0 where
  pub run : List ℤ
  pub left : read_rows d m s ≡ prepend run (read_rows d (m - i) rest)
  pub written : take (i * d) places ≡ map clamped run

module _ (s : List ℕ) (d m : ℕ) (places : List ℤ) (i : ℕ) (rest : List ℕ) (so_far : RowsSoFar s d m places i rest) where
  module _ (more : i < m) where
    -- how many rows are left behind the next one
    abbrev behind_it : ℕ
    behind_it = m - suc i

    next_left : read_rows d m s ≡ prepend so_far.run (read_rows d (suc behind_it) rest)
    next_left =
        let left : m - i ≡ suc behind_it = omega arith in
        so_far.left ∙ ap (λ (n : ℕ). prepend so_far.run (read_rows d n rest)) left

    -- a row out of form
    pub rows_stop : read_line read_signed d rest ≡ bad → read_rows d m s ≡ bad
    rows_stop e = next_left ∙ ap (prepend so_far.run) (rows_bad d behind_it rest e)

    -- a row is read and written
    pub rows_more : (row : List ℤ) (k : ℕ) (left : List ℕ) → i * d ≤ length places → mapped (map clamped) (read_line read_signed d rest) ≡ got row left → RowsSoFar s d m (put_mid (i * d) k places row) (i + 1) left
    rows_more row k left fits e =
        let line = mapped_got (map clamped) (read_line read_signed d rest) row left e in
        let long : length line.part ≡ d = members_got d (read_line read_signed d rest) line.part left (line-members read_signed d rest) line.parsed in
        let size : length row ≡ d = ap length (sym line.value) ∙ length-map line.part clamped ∙ long in
        let fewer : behind_it ≡ m - (i + 1) = omega arith in
        record {
          run = so_far.run ++ line.part;
          left =
              next_left
              ∙ ap (prepend so_far.run) (rows_got d behind_it rest line.part left line.parsed)
              ∙ prepend_twice so_far.run line.part (read_rows d behind_it left)
              ∙ ap (λ (n : ℕ). prepend (so_far.run ++ line.part) (read_rows d n left)) fewer;
          written =
              take-put_mid (i * d) k places row ((i + 1) * d) (omega (arith, size)) fits
              ∙ ap (λ (t : List ℤ). t ++ row) so_far.written
              ∙ ap (λ (t : List ℤ). map clamped so_far.run ++ t) (sym line.value)
              ∙ sym (map-append clamped so_far.run line.part);
        }

  -- all rows are read: m times d numbers
  pub rows_end : m ≤ i → i ≤ m → length places ≤ m * d → mapped (map clamped) (read_rows d m s) ≡ got places rest
  rows_end l h few =
      let none : m - i ≡ 0 = omega arith in
      let all : i ≡ m = omega arith in
      ap (mapped (map clamped)) (so_far.left ∙ ap (λ (n : ℕ). prepend so_far.run (read_rows d n rest)) none ∙ prepend_end so_far.run rest)
      ∙ ap (λ (xs : List ℤ). got xs rest) (sym so_far.written ∙ ap (λ (n : ℕ). take (n * d) places) all ∙ take_all (m * d) places few)
