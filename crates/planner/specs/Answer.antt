-- What the public calls answer, in the terms of document 01, and what a lent place holds afterwards. The promise of each call has one
-- name, with the call's arguments: `CheckCall`, `ResidueMapCall`, `SpreadCall`, `GatherCall`, `PointListCall`, `VectorSearch`,
-- `SmallestSearch`, `GentlerCall`. What a call answers is a result or a refusal; `refused` (rank1, Named) is the number, 0 for none.
use Rattle.std.specs.Prelude.{◌≡◌, Bool, true, List, map, ℕ, zero, suc, ℤ, pos, length, Result, Ok, Err}
use Rattle.std.specs.Borrow.{Bor}
use Rattle.rank1.specs.declared.Refusal.{Refusal}
use Rattle.rank1.specs.declared.Refusal.TheVariants as refusals
use Rattle.rank1.specs.Named.{refused, Answers}
use Rattle.rank1.specs.Tests.{every}
use Rattle.rank1.specs.Index.{index_list}
use Rattle.rank1.specs.Rule.{Rule, Admissible}
use Rattle.rank1.specs.RuleTest.{admissible}
use Rattle.rank1.specs.Search.{Gentlest, Hopeless, Smallest, NoPlan}
use Rattle.rank1.specs.Sums.{in32, residue_map, spread_sums, gathered_terms}
use Rattle.rank1.specs.Points.{point_list}
use Rattle.rank1.specs.Winner.{LeftWins}
use Rattle.rank1.specs.Refusal.{check_refusal, map_refusal, spread_refusal, gather_refusal, point_refusal, search_refusal}

-- ---- the check
-- whether the pair is admissible, or the refusal
unfoldable pub CheckCall : ℕ → ℕ → List ℤ → ℕ → List ℕ → Result Bool Refusal → Type 0
CheckCall plan d xs n z answer = Answers (check_refusal plan d xs n z) (admissible plan (index_list d xs) n (map pos z)) answer

-- ---- calls that answer `()` or a refusal: what is spoken of is the number of the refusal (`refused`), 0 for none
-- what a lent place holds after a call: the result, or where the call was refused what it held before
abbrev pub written : {A : Type 0} → ℕ → List A → List A → List A
written zero result before = result
written (suc k) result before = before

-- the number, and what the lent place then holds
pub record Answered {A : Type 0} (refusal : ℕ) (result before after : List A) (answer : ℕ) : Type 0 where
  pub number : answer ≡ refusal
  pub places : after ≡ written refusal result before

-- the residue map
abbrev pub ResidueMapCall : ℕ → ℕ → List ℤ → ℕ → List ℕ → List ℕ → List ℕ → ℕ → Type 0
ResidueMapCall plan d xs n z before after answer =
    Answered (map_refusal plan d xs n z (length before)) (residue_map plan n (map pos z) (index_list d xs)) before after answer

-- spreading; the terms are signed 32-bit numbers, as document 01 and the slice's type say
pub record SpreadCall (plan d : ℕ) (xs : List ℤ) (n : ℕ) (z : List ℕ) (terms before after : List ℤ) (answer : ℕ) : Type 0 where
  pub answered : Answered (spread_refusal plan d xs n z (length terms) (length before)) (spread_sums plan n (map pos z) (index_list d xs) terms) before after answer
  pub narrow : answer ≡ 0 → every in32 terms ≡ true

-- gathering
abbrev pub GatherCall : ℕ → ℕ → List ℤ → ℕ → List ℕ → List ℤ → List ℤ → List ℤ → ℕ → Type 0
GatherCall plan d xs n z sums before after answer =
    Answered (gather_refusal plan d xs n z sums (length before)) (gathered_terms plan n (map pos z) (index_list d xs) sums) before after answer

-- the point list
abbrev pub PointListCall : ℕ → ℕ → ℕ → List ℕ → List ℕ → List ℕ → ℕ → Type 0
PointListCall plan d n z before after answer =
    Answered (point_refusal plan d n z (length before)) (point_list plan n z) before after answer

-- ---- the searches: an answer is the modulus of a plan, with the vector in the lent places, or a refusal, with them as before
-- refused by the number k of a condition, or (0) answered
abbrev pub RefusedOr : ℕ → List ℕ → List ℕ → Result ℕ Refusal → Type 0 → Type 0
RefusedOr zero before after answer Found = Found
RefusedOr (suc k) before after answer Found = (refused answer ≡ suc k) × (after ≡ before)

-- where conditions 1 to 8 do not apply: the gentlest vector at n, or 9 where n fails with every vector
abbrev pub GentlestOrNone : Rule → ℕ → ℕ → List ℕ → List ℕ → Result ℕ Refusal → Type 0
GentlestOrNone rule d n before after (Ok m) = (m ≡ n) × Gentlest rule d n after
GentlestOrNone rule d n before after (Err refusal) = (refusal ≡ refusals.NoPlan) × (after ≡ before) × Hopeless rule d n

-- where conditions 1 to 8 do not apply: the smallest plan up to the ceiling, or 9 where there is none
abbrev pub SmallestOrNone : Rule → ℕ → ℕ → List ℕ → List ℕ → Result ℕ Refusal → Type 0
SmallestOrNone rule d ceiling before after (Ok n) = Smallest rule d ceiling n after
SmallestOrNone rule d ceiling before after (Err refusal) = (refusal ≡ refusals.NoPlan) × (after ≡ before) × NoPlan rule d ceiling

-- the vector search at n
abbrev pub VectorSearch : ℕ → ℕ → List ℤ → ℕ → List ℕ → List ℕ → Result ℕ Refusal → Type 0
VectorSearch plan d xs n before after answer =
    RefusedOr (search_refusal plan d xs n (length before)) before after answer (GentlestOrNone (Admissible plan (index_list d xs)) d n before after answer)

-- the smallest plan up to the ceiling
abbrev pub SmallestSearch : ℕ → ℕ → List ℤ → ℕ → List ℕ → List ℕ → Result ℕ Refusal → Type 0
SmallestSearch plan d xs ceiling before after answer =
    RefusedOr (search_refusal plan d xs ceiling (length before)) before after answer (SmallestOrNone (Admissible plan (index_list d xs)) d ceiling before after answer)

-- ---- the gentler of two lent vectors (document 02, f): the winner is handed back as the lent numbers themselves, where they lie, and
-- not a copy of them
pub record GentlerCall (left right answer : Bor (List ℕ)) : Type 0 where
  pub left_wins : LeftWins left.now right.now → answer ≡ left
  pub right_wins : (LeftWins left.now right.now → ⊥) → answer ≡ right
