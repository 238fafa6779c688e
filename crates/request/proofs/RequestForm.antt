-- The text form of requests is exact. A field is the text of its number, and nothing else is one (field_is, number_is_field and, in a
-- row, signed_is_field). A request that can be written is read back from its text (written_reads), with anything behind it it is not
-- (behind_refused), and whatever reads as a request is that request's text (reads_written); so two texts that ask for the same are the
-- same (asked_once).
use mathlib.Core.Path.{◌≡◌, refl, sym, ◌∙◌, ap, subst}
use mathlib.Core.Logic.{◌↔◌, ⊎_elim}
use mathlib.Core.Bool.{true, false}
use mathlib.Core.List.{List, [], ◌∷◌, ◌++◌, append_assoc, append-nil, flatten, Memᴰ}
use Prim.Native.Nat.{ℕ, ◌*◌, ◌<◌, ◌≤◌}
use native.Mathlib.Omega.{arith}
use borrow.Author.Tests.{le-ltb}
use lib.IntN.{ℤ, nat_abs}
use lib.ListN.{length}
use Rattle.rank1.specs.Tests.{every}
use Rattle.rank1.specs.Index.{rows_of, row_count, index_list}
use Rattle.rank1.proofs.IndexLaws.{rows-length}
use Rattle.rank1.proofs.Order.{compared}
use Rattle.request.specs.Text.{is_digit, digits, decimal, is_field, number_text}
use Rattle.request.specs.Reading.{got, read_line, read_number, read_signed, read_rows, refused, request, after_rows, reading}
use Rattle.request.specs.Printing.{signed_text, line_text, rows_text, request_text, WritableRow, Writable}
use Rattle.request.proofs.CondLaws.{within_is}
use Rattle.request.proofs.FieldLaws.{field_text, field_small, number_only, signed_only, signed_read}
use Rattle.request.proofs.NumberLaws.{number_front, number_field, number_read}
use Rattle.request.proofs.PrintingLaws.{text_size, line_reads, number_fields, head_fields, fields_small, rows_read_back, line_only, rows_only}
use Rattle.request.proofs.RequestLaws.{lines_of, head_in, members_got, rows-members, rows-counted}
use Rattle.request.proofs.reading.DigitLaws.{all_digits}
use Rattle.request.proofs.reading.AskedLaws.{reading_long, reading-rest}
use Rattle.request.proofs.reading.HeadLaws.{head_is}

-- ---- fields
-- a field exactly where it is the text of its number, below 1000000
pub field_is : (s : List ℕ) → ((digits s ≡ s) × (is_field s ≡ true)) ↔ ((number_text (decimal s) ≡ s) × (decimal s < 1000000))
field_is s = (
  (λ h.
      let text = field_text s (subst (λ (r : List ℕ). every is_digit r ≡ true) h.0 (all_digits s)) h.1 in
      (text, field_small s h.1 text)),
  (λ h. (
    subst (λ (r : List ℕ). digits r ≡ r) h.0 (sym (ap digits (append-nil (number_text (decimal s)))) ∙ number_front (decimal s) [] refl),
    subst (λ (r : List ℕ). is_field r ≡ true) h.0 (number_field (decimal s) h.1),
  )),
)

-- it reads as x exactly where it is the text of x: without a sign, and in a row
pub number_is_field : (s : List ℕ) (x : ℕ) → (read_number s ≡ got x []) ↔ ((s ≡ number_text x) × (x < 1000000))
number_is_field s x = (
  (λ e. let is = number_only s x [] e in (is.0 ∙ append-nil (number_text x), is.1)),
  (λ h. ap read_number (h.0 ∙ sym (append-nil (number_text x))) ∙ number_read x [] h.1 refl),
)

pub signed_is_field : (s : List ℕ) (x : ℤ) → (read_signed s ≡ got x []) ↔ ((s ≡ signed_text x) × (nat_abs x < 1000000))
signed_is_field s x = (
  (λ e. let is = signed_only s x [] e in (is.0 ∙ append-nil (signed_text x), is.1)),
  (λ h. ap read_signed (h.0 ∙ sym (append-nil (signed_text x))) ∙ signed_read x [] h.1 refl),
)

-- ---- requests
-- one that can be written is read from the front of a text, its rows joined, up to what stands behind it
written_front : (plan d ceiling : ℕ) (ks : List (List ℤ)) (s : List ℕ) → Writable plan d ceiling ks → length (request_text plan d ceiling ks ++ s) ≤ 32768 → reading (request_text plan d ceiling ks ++ s) ≡ after_rows plan d ceiling (got (flatten ks) s)
written_front plan d ceiling ks s w short =
    reading-rest (request_text plan d ceiling ks ++ s) plan d (length ks) ceiling (rows_text ks ++ s) short
    (ap (read_line read_number 4) (append_assoc (line_text number_text (head_fields plan d ceiling ks w)) (rows_text ks) s)
    ∙ line_reads read_number number_text (λ x. x < 1000000) number_fields (head_fields plan d ceiling ks w) (rows_text ks ++ s) (omega arith) (fields_small plan d ceiling ks w))
    (head_is plan d (length ks) false true false (le-ltb 4 plan w.plans) (within_is 1 6 d w.axes.0 w.axes.1) (le-ltb 512 (length ks) w.count))
    ∙ ap (after_rows plan d ceiling) (rows_read_back d ks s w.axes.0 w.rows)

-- alone it is read back
pub written_reads : (plan d ceiling : ℕ) (ks : List (List ℤ)) → Writable plan d ceiling ks → reading (request_text plan d ceiling ks) ≡ request plan d ceiling (flatten ks)
written_reads plan d ceiling ks w =
    let bare : request_text plan d ceiling ks ++ [] ≡ request_text plan d ceiling ks = append-nil (request_text plan d ceiling ks) in
    ap reading (sym bare) ∙ written_front plan d ceiling ks [] w (omega (arith, ap length bare, text_size plan d ceiling ks w))

-- and with anything behind it, it is 12
pub behind_refused : (plan d ceiling : ℕ) (ks : List (List ℤ)) (b : ℕ) (s : List ℕ) → Writable plan d ceiling ks → reading (request_text plan d ceiling ks ++ b ∷ s) ≡ refused 12
behind_refused plan d ceiling ks b s w =
    let text = request_text plan d ceiling ks ++ b ∷ s in
    let front = written_front plan d ceiling ks (b ∷ s) w in
    ⊎_elim (reading_long text) (⊎_elim (λ e. front (omega arith)) (λ l. front (omega arith))) (compared 32768 (length text))

-- whatever reads as a request is that request's text, and can be written
pub reads_written : (text : List ℕ) (plan d ceiling : ℕ) (run : List ℤ) → reading text ≡ request plan d ceiling run → (text ≡ request_text plan d ceiling (index_list d run)) × Writable plan d ceiling (index_list d run)
reads_written text plan d ceiling run e =
    let lines = lines_of text plan d ceiling run e in
    let m = lines.count in
    let head = head_in plan d m lines.none in
    let line = line_only read_number number_text (λ x. x < 1000000) number_fields 4 text (plan ∷ d ∷ m ∷ ceiling ∷ []) lines.rest (omega arith) lines.head in
    let rows = rows_only d m lines.rest run [] head.axes.0 lines.rows in
    let size : length run ≡ m * d = members_got (m * d) (read_rows d m lines.rest) run [] (rows-members d m lines.rest) lines.rows in
    let count : m ≡ row_count d run = sym (rows-counted d m run head.axes.0 size) in
    let list : length (index_list d run) ≡ m = rows-length d (row_count d run) run ∙ sym count in (
      line.text
          ∙ ap (λ (s : List ℕ). line_text number_text (plan ∷ d ∷ m ∷ ceiling ∷ []) ++ s) (rows.text ∙ append-nil (rows_text (rows_of d m run)))
          ∙ ap (λ (k : ℕ). line_text number_text (plan ∷ d ∷ m ∷ ceiling ∷ []) ++ rows_text (rows_of d k run)) count
          ∙ ap (λ (k : ℕ). line_text number_text (plan ∷ d ∷ k ∷ ceiling ∷ []) ++ rows_text (index_list d run)) (sym list),
      record {
        plans = head.plans;
        axes = head.axes;
        count = omega (arith, list, head.rows);
        rows = subst (λ (n : ℕ). (k : List ℤ) → Memᴰ k (rows_of d n run) → WritableRow d k) count rows.rows;
        bound = line.small ceiling (Memᴰ.tail (Memᴰ.tail (Memᴰ.tail (Memᴰ.head refl))));
      },
    )

-- so what asks the same is the same text
pub asked_once : (text text' : List ℕ) (plan d ceiling : ℕ) (run : List ℤ) → reading text ≡ request plan d ceiling run → reading text' ≡ request plan d ceiling run → text ≡ text'
asked_once text text' plan d ceiling run e e' =
    (reads_written text plan d ceiling run e).0 ∙ sym (reads_written text' plan d ceiling run e').0
