-- Theorems of the calls but the searches, over what the calls promise (specs/Answer.antt). Beside each stands the sentence of
-- document 00, 01 or 02 that it meets.
use mathlib.Core.Path.{◌≡◌, refl, sym, ◌∙◌, ap}
use mathlib.Core.Logic.{◌↔◌, ◌⊎◌, ◌≢◌, inl, inr, ⊎_elim}
use mathlib.Core.Bool.{Bool, true, false}
use mathlib.Core.List.{List, [], map, Memᴰ}
use Prim.Native.Nat.{ℕ, ◌+◌, ◌*◌, ◌-◌, ◌%◌, ◌<◌, ◌≤◌}
use native.Mathlib.Omega.{arith}
use denote.Ref.{Bor}
use lib.IntN.{ℤ, pos}
use lib.ListN.{length, get_or}
use Rattle.std.specs.Prelude.{Result, Ok}
use Rattle.rank1.specs.declared.Refusal.{Refusal}
use Rattle.rank1.specs.Named.{refused}
use Rattle.rank1.specs.Tests.{every, up_to}
use Rattle.rank1.specs.Residue.{residue_at}
use Rattle.rank1.specs.Index.{row_count, index_list}
use Rattle.rank1.specs.Rule.{Admissible}
use Rattle.rank1.specs.RuleTest.{admissible}
use Rattle.rank1.specs.Sums.{in32, copies, residue_map, sum_at, spread_sums, gathered_terms, gathers}
use Rattle.rank1.specs.Points.{coordinate, line_count, point_lines, point_list}
use Rattle.rank1.specs.declared.TentCase.{TentCase}
use Rattle.rank1.specs.Tent.{Meets, numerator}
use Rattle.rank1.specs.Search.{Gentler}
use Rattle.rank1.specs.Refusal.{check_refusal, map_refusal, spread_refusal, gather_refusal, point_refusal}
use Rattle.rank1.proofs.NamedLaws.{answers_ok, answers_refused, answers_same}
use Rattle.rank1.proofs.UpTo.{length-map-up_to}
use Rattle.rank1.proofs.IndexLaws.{rows-length}
use Rattle.rank1.proofs.TestLaws.{every_true}
use Rattle.rank1.proofs.RuleTestLaws.{rule_true, rule_false}
use Rattle.rank1.proofs.WholeSums.{total, in32_mag}
use Rattle.rank1.proofs.SumLaws.{weighted, map-residue, map-copies, spread_total}
use Rattle.rank1.proofs.GatherLaws.{gather_spread, gather_passes, reads_terms}
use Rattle.rank1.proofs.PointLaws.{lines_whole, coordinate_twin, omitting, omitted}
use Rattle.rank1.proofs.TentLaws.{coordinate_case}
use Rattle.rank1.proofs.WinnerLaws.{shorter_wins, longer_loses, gentler_wins, rougher_loses, equal_wins, one_wins}
use Rattle.planner.specs.Answer.{CheckCall, written, Answered, ResidueMapCall, SpreadCall, GatherCall, PointListCall, GentlerCall}
use Rattle.planner.proofs.CallLaws.{written_kept, written_result, determined}
use Rattle.planner.proofs.refusals.HandedLaws.{SpreadHanded, spread_clear, gather_answers, reads_number, point_clear}
use Rattle.planner.proofs.points.PointSteps.{points_length, points_at}

-- ---- check
module _ (plan d : ℕ) (xs : List ℤ) (n : ℕ) (z : List ℕ) (r : Result Bool Refusal) (told : CheckCall plan d xs n z r) where
  -- "The check says yes exactly when the pair n, z meets the published rule of the plan named" (document 00, demand 2)
  pub check_yes : (r ≡ Ok true) ↔ ((check_refusal plan d xs n z ≡ 0) × Admissible plan (index_list d xs) n (map pos z))
  unfolding CheckCall
  check_yes =
      let v = answers_ok (check_refusal plan d xs n z) (admissible plan (index_list d xs) n (map pos z)) true r told in
      let rule = rule_true (index_list d xs) n (map pos z) plan in
      ((λ e. let p = v.0 e in (p.0, rule.0 p.1)), (λ p. v.1 (p.0, rule.1 p.1)))

  -- no exactly where it does not, and both "never before the input is known to be valid" (document 01, "The five plan rules")
  pub check_no : (r ≡ Ok false) ↔ ((check_refusal plan d xs n z ≡ 0) × (Admissible plan (index_list d xs) n (map pos z) → ⊥))
  unfolding CheckCall
  check_no =
      let v = answers_ok (check_refusal plan d xs n z) (admissible plan (index_list d xs) n (map pos z)) false r told in
      let rule = rule_false (index_list d xs) n (map pos z) plan in
      ((λ e. let p = v.0 e in (p.0, rule.0 p.1)), (λ p. v.1 (p.0, rule.1 p.1)))

  -- "the first that applies is returned as the number alone" (document 01, "Refusal table")
  pub check_refused : refused r ≡ check_refusal plan d xs n z
  unfolding CheckCall
  check_refused = answers_refused (check_refusal plan d xs n z) (admissible plan (index_list d xs) n (map pos z)) r told

-- one answer alone
pub check_one : (plan d : ℕ) (xs : List ℤ) (n : ℕ) (z : List ℕ) (r r' : Result Bool Refusal) → CheckCall plan d xs n z r → CheckCall plan d xs n z r' → r ≡ r'
unfolding CheckCall
check_one plan d xs n z = answers_same (check_refusal plan d xs n z) (admissible plan (index_list d xs) n (map pos z))

-- ---- map, spread, gather and point list: the lent places
module _ {A : Type 0} (refusal : ℕ) (result before after : List A) (r : ℕ) (told : Answered refusal result before after r) where
  -- "the first that applies is returned as the number alone, and nothing lent is written" (document 01, "Refusal table")
  pub refused_keeps : r ≢ 0 → after ≡ before
  refused_keeps some = told.places ∙ written_kept refusal result before (λ e. some (told.number ∙ e))

  -- the answer 0: the result is written
  pub answered_writes : r ≡ 0 → after ≡ result
  answered_writes e = told.places ∙ written_result refusal result before (sym told.number ∙ e)

-- two outcomes on the same arguments are the same number and leave the same content: "determines, from the arguments alone and for
-- valid and refused ones alike, the value returned and each lent place afterwards" (document 01, "What a contract here is measured by")
pub points_determined : (plan d n : ℕ) (z before after after' : List ℕ) (r r' : ℕ) → PointListCall plan d n z before after r → PointListCall plan d n z before after' r' → (r ≡ r') × (after ≡ after')
points_determined plan d n z before after after' r r' a b = determined a b

module _ (plan d : ℕ) (xs : List ℤ) (n : ℕ) (z : List ℕ) where
  pub map_determined : (before after after' : List ℕ) (r r' : ℕ) → ResidueMapCall plan d xs n z before after r → ResidueMapCall plan d xs n z before after' r' → (r ≡ r') × (after ≡ after')
  map_determined before after after' r r' a b = determined a b

  pub spread_determined : (terms before after after' : List ℤ) (r r' : ℕ) → SpreadCall plan d xs n z terms before after r → SpreadCall plan d xs n z terms before after' r' → (r ≡ r') × (after ≡ after')
  spread_determined terms before after after' r r' a b = determined a.answered b.answered

  pub gather_determined : (sums before after after' : List ℤ) (r r' : ℕ) → GatherCall plan d xs n z sums before after r → GatherCall plan d xs n z sums before after' r' → (r ≡ r') × (after ≡ after')
  gather_determined sums before after after' r r' a b = determined a b

  -- ---- map
  -- "a row's residue and then its c" (document 01, "Map, spread and gather")
  pub residue-map_at : (old out : List ℕ) → ResidueMapCall plan d xs n z old out 0 → (i : ℕ) → i < row_count d xs → (get_or out (2 * i) 0 ≡ residue_at n (map pos z) (get_or (index_list d xs) i [])) × (get_or out (2 * i + 1) 0 ≡ copies plan n (map pos z) (get_or (index_list d xs) i []))
  residue-map_at old out told i l =
      let ks = index_list d xs in
      let wrote = answered_writes (map_refusal plan d xs n z (length old)) (residue_map plan n (map pos z) ks) old out 0 told refl in
      let inside : i < length ks = omega (arith, rows-length d (row_count d xs) xs) in (
        ap (λ (o : List ℕ). get_or o (2 * i) 0) wrote ∙ map-residue plan n (map pos z) ks i inside,
        ap (λ (o : List ℕ). get_or o (2 * i + 1) 0) wrote ∙ map-copies plan n (map pos z) ks i inside,
      )

  -- ---- spread and gather
  -- "Their total is the sum of a times the size of S(k)" (document 01, "Map, spread and gather")
  pub spread_sums_total : (terms old sums : List ℤ) → SpreadCall plan d xs n z terms old sums 0 → total sums ≡ weighted plan (index_list d xs) terms
  spread_sums_total terms old sums s =
      let h = spread_clear plan d xs n z (length terms) (length old) (sym s.answered.number) in
      ap total (answered_writes (spread_refusal plan d xs n z (length terms) (length old)) (spread_sums plan n (map pos z) (index_list d xs) terms) old sums 0 s.answered refl)
      ∙ spread_total plan n (map pos z) (index_list d xs) terms (omega (arith, h.valid.modulus.low))

  -- "Gathering after spreading gives the numbers a back" (document 01, "Map, spread and gather"): with the sums that spreading wrote and
  -- m places it answers 0 and leaves exactly the terms
  pub gather_after_spread : (terms old sums places after : List ℤ) (r : ℕ) → SpreadCall plan d xs n z terms old sums 0 → length places ≡ row_count d xs → GatherCall plan d xs n z sums places after r → (r ≡ 0) × (after ≡ terms)
  gather_after_spread terms old sums places after r s room g = (zero_told, back)
    where
      h : SpreadHanded plan d xs n z (length terms) (length old)
      h = spread_clear plan d xs n z (length terms) (length old) (sym s.answered.number)

      wrote : sums ≡ spread_sums plan n (map pos z) (index_list d xs) terms
      wrote = answered_writes (spread_refusal plan d xs n z (length terms) (length old)) (spread_sums plan n (map pos z) (index_list d xs) terms) old sums 0 s.answered refl

      some : 0 < n
      some = omega (arith, h.valid.modulus.low)

      as_many : length terms ≡ length (index_list d xs)
      as_many = h.term_room ∙ sym (rows-length d (row_count d xs) xs)

      -- the conditions of spreading do not apply to the sums that it wrote
      not_before : spread_refusal plan d xs n z (length places) (length sums) ≡ 0
      not_before =
          ap (λ (k : ℕ). spread_refusal plan d xs n z k (length sums)) (room ∙ sym h.term_room)
          ∙ ap (spread_refusal plan d xs n z (length terms)) (ap length wrote ∙ length-map-up_to (sum_at plan n (map pos z) (index_list d xs) terms) n ∙ sym h.sum_room)
          ∙ sym s.answered.number

      -- and 11 does not: the terms are numbers of 32 bits
      passes : every (gathers plan n (map pos z) sums) (index_list d xs) ≡ true
      passes =
          ap (λ (l : List ℤ). every (gathers plan n (map pos z) l) (index_list d xs)) wrote
          ∙ gather_passes plan n (map pos z) (index_list d xs) terms h.mapped some h.valid.list.different h.valid.list.unsigned h.rule as_many
          (λ a m. in32_mag a (every_true in32 terms (s.narrow refl) a m))

      zero_told : r ≡ 0
      zero_told = g.number ∙ gather_answers plan d xs n z sums (length places) not_before passes

      back : after ≡ terms
      back =
          answered_writes (gather_refusal plan d xs n z sums (length places)) (gathered_terms plan n (map pos z) (index_list d xs) sums) places after r g zero_told
          ∙ ap (gathered_terms plan n (map pos z) (index_list d xs)) wrote
          ∙ gather_spread plan n (map pos z) (index_list d xs) terms h.mapped some h.valid.list.different h.valid.list.unsigned h.rule as_many

  -- "It reads no other sum" (document 01, "Map, spread and gather"): as many sums that agree at the residues of the rows give the same
  -- number and the same terms
  pub gather_reads : (sums sums' places after after' : List ℤ) (r r' : ℕ) → length sums ≡ length sums' → ((k : List ℤ) → Memᴰ k (index_list d xs) → get_or sums (residue_at n (map pos z) k) (pos 0) ≡ get_or sums' (residue_at n (map pos z) k) (pos 0)) → GatherCall plan d xs n z sums places after r → GatherCall plan d xs n z sums' places after' r' → (r ≡ r') × (after ≡ after')
  gather_reads sums sums' places after after' r r' size same g g' =
      let number = reads_number plan d xs n z sums sums' (length places) size same in (
        g.number ∙ number ∙ sym g'.number,
        g.places
            ∙ ap (λ (k : ℕ). written k (gathered_terms plan n (map pos z) (index_list d xs) sums) places) number
            ∙ ap (λ (l : List ℤ). written (gather_refusal plan d xs n z sums' (length places)) l places) (reads_terms plan n (map pos z) (index_list d xs) sums sums' same)
            ∙ sym g'.places,
      )

-- ---- point list
-- where the call answers 0
module _ (plan d n : ℕ) (z old out : List ℕ) (told : PointListCall plan d n z old out 0) where
  lines_written : out ≡ point_list plan n z
  lines_written = answered_writes (point_refusal plan d n z (length old)) (point_list plan n z) old out 0 told refl

  axes : length z ≡ d
  axes = (point_clear plan d n z (length old) (sym told.number)).vector.size

  -- "that is the lens count" (document 02, d), "d unsigned 16-bit numbers to a line" (document 01, "Cutting list")
  pub point_list-length : length out ≡ line_count plan n * d
  point_list-length = ap length lines_written ∙ points_length plan n z ∙ ap (λ (t : ℕ). line_count plan n * t) axes

  -- "Line i .. holds for each axis j the residue r of i × z_j", or what stands for it (document 01, "Cutting list")
  pub point_list_at : (i j : ℕ) → i < line_count plan n → j < d → get_or out (i * d + j) 0 ≡ coordinate plan n ((i * get_or z j 0) % n)
  point_list_at i j l h =
      ap (λ (o : List ℕ). get_or o (i * d + j) 0) lines_written
      ∙ ap (λ (t : ℕ). get_or (point_list plan n z) (i * t + j) 0) (sym axes)
      ∙ points_at plan n z i j l (omega (arith, axes))

  -- "the numerator goes by cases" (document 02, e): for plans 2, 3 and 4, what the case gives that the residue meets
  pub point_list_case : (i j : ℕ) (c : TentCase) → i < line_count plan n → j < d → 2 ≤ plan → Meets n ((i * get_or z j 0) % n) c → get_or out (i * d + j) 0 ≡ numerator n ((i * get_or z j 0) % n) c
  point_list_case i j c l h p m = point_list_at i j l h ∙ coordinate_case plan n ((i * get_or z j 0) % n) c p m

  -- "The omitted lines are shown equal to kept ones" (document 02, d): what document 01 says of line i stands at line n - i
  pub point_list_omitted : (i j : ℕ) → line_count plan n ≤ i → i < n → j < d → get_or out ((n - i) * d + j) 0 ≡ coordinate plan n ((i * get_or z j 0) % n)
  point_list_omitted i j o h k =
      point_list_at (n - i) j (omitted plan n z i o h).0 k ∙ coordinate_twin plan n i (get_or z j 0) (omitting plan n i o h) h

  -- "Fourier users see their old list" (document 02, d): all n lines
  pub point_list_whole : plan < 2 → out ≡ point_lines plan n z (up_to n)
  point_list_whole l = lines_written ∙ ap (λ (t : ℕ). point_lines plan n z (up_to t)) (lines_whole plan n l)

-- ---- the gentler of two vectors (document 02, f): the answer is one of the two lent slices, the one that document 02 names
module _ (left right answer : Bor (List ℕ)) (call : GentlerCall left right answer) where
  pub gentler_either : (answer ≡ left) ⊎ (answer ≡ right)
  gentler_either = ⊎_elim (λ w. inl (call.left_wins w)) (λ w. inr (call.right_wins w)) (one_wins left.now right.now)

  -- "the shorter wins if lengths differ"
  pub shorter_left : length left.now < length right.now → answer ≡ left
  shorter_left l = call.left_wins (shorter_wins left.now right.now l)

  pub shorter_right : length right.now < length left.now → answer ≡ right
  shorter_right l = call.right_wins (longer_loses left.now right.now l)

  -- at one length the gentler
  pub gentler_left : length left.now ≡ length right.now → Gentler left.now right.now → answer ≡ left
  gentler_left e g = call.left_wins (gentler_wins left.now right.now e g)

  pub gentler_right : length left.now ≡ length right.now → Gentler right.now left.now → answer ≡ right
  gentler_right e g = call.right_wins (rougher_loses left.now right.now e g)

  -- "the left one on a full tie"
  pub tie_left : left.now ≡ right.now → answer ≡ left
  tie_left e = call.left_wins (equal_wins left.now right.now e)

-- two answers are one
pub gentler_determined : (left right a a' : Bor (List ℕ)) → GentlerCall left right a → GentlerCall left right a' → a ≡ a'
gentler_determined left right a a' p q =
    ⊎_elim (λ w. p.left_wins w ∙ sym (q.left_wins w)) (λ w. p.right_wins w ∙ sym (q.right_wins w)) (one_wins left.now right.now)
