-- What a whole text asks: with too many bytes it is refused, and else line 1 is read and, where it is not refused, the rest.
use mathlib.Core.Path.{◌≡◌, ◌∙◌, ap}
use mathlib.Core.List.{List, [], ◌∷◌}
use Prim.Native.Nat.{ℕ, ◌≤◌, ◌<◌}
use borrow.Author.Tests.{lt-ltb, le-ltb}
use lib.Dec.{ltb}
use lib.ListN.{length}
use Rattle.request.specs.Reading.{got, read_line, read_number, read_rows, refused, after_rows, head_refusal, unless, after_head, reading}
use Rattle.std.proofs.lemmas.Bool.{cond-true, cond-false}

pub reading_long : (text : List ℕ) → 32768 < length text → reading text ≡ refused 12
unfolding reading
reading_long text l = cond-true (ltb 32768 (length text)) (refused 12) (after_head (read_line read_number 4 text)) (lt-ltb 32768 (length text) l)

reading_short : (text : List ℕ) → length text ≤ 32768 → reading text ≡ after_head (read_line read_number 4 text)
unfolding reading
reading_short text l = cond-false (ltb 32768 (length text)) (refused 12) (after_head (read_line read_number 4 text)) (le-ltb 32768 (length text) l)

module _ (text : List ℕ) (plan d m ceiling : ℕ) (s : List ℕ) (short : length text ≤ 32768) (head : read_line read_number 4 text ≡ got (plan ∷ d ∷ m ∷ ceiling ∷ []) s) where
  pub reading-rest : head_refusal plan d m ≡ 0 → reading text ≡ after_rows plan d ceiling (read_rows d m s)
  reading-rest e =
      reading_short text short ∙ ap after_head head ∙ ap (λ (k : ℕ). unless k (after_rows plan d ceiling (read_rows d m s))) e
