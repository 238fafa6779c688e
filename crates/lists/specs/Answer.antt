-- What the calls about lists answer (document 02), and what a lent run holds afterwards. The promise of each call has one name, a property of
-- its result (and of the run): `TallyCall`, `AddCall`, `LeastCall`, `CornerCall`, `LowerCall`. A refused call answers the refusal (`Answers`).
use Rattle.std.specs.Prelude.{◌≡◌, Bool, List, ◌++◌, ℕ, zero, suc, ℤ, length, drop, Result, Ok, Err}
use Rattle.rank1.specs.declared.Refusal.{Refusal}
use Rattle.rank1.specs.declared.Tally.{Tally}
use Rattle.rank1.specs.Tests.{Decides}
use Rattle.rank1.specs.Index.{index_list, run_of}
use Rattle.rank1.specs.Tally.{recount, least_modulus}
use Rattle.rank1.specs.Corners.{CornerList, Lower}
use Rattle.rank1.specs.Named.{number, Answers}
use Rattle.rank1.specs.Refusal.{tally_refusal, add_refusal, least_refusal, corner_refusal, lower_refusal}

-- ---- counting
-- a whole list: its recount
abbrev pub TallyCall : ℕ → ℕ → List ℤ → Result Tally Refusal → Type 0
TallyCall plan d xs answer = Answers (tally_refusal plan d xs) (recount plan d (index_list d xs)) answer

-- a row more: the recount of the longer list
abbrev pub AddCall : ℕ → ℕ → List ℤ → Tally → List ℤ → Result Tally Refusal → Type 0
AddCall plan d xs t row answer = Answers (add_refusal plan d xs t row) (recount plan d (index_list d (xs ++ row))) answer

-- ---- the least modulus worth trying
abbrev pub LeastCall : ℕ → Tally → Result ℕ Refusal → Type 0
LeastCall plan t answer = Answers (least_refusal plan t) (least_modulus plan t) answer

-- ---- rows written to the front of a lent run
-- the rows at the front and the rest as before; where the call was refused, all as before
abbrev pub front_or : ℕ → List (List ℤ) → List ℤ → List ℤ
front_or zero ks before = run_of ks ++ drop (length (run_of ks)) before
front_or (suc k) ks before = before

-- the rows ks: how many they are, and the run with them at its front; or the refusal
pub record Fronted (refusal : ℕ) (ks : List (List ℤ)) (before after : List ℤ) (answer : Result ℕ Refusal) : Type 0 where
  pub number : Answers refusal (length ks) answer
  pub places : after ≡ front_or refusal ks before

-- ---- lists given by corners
-- the list of the corners: there is one, and the call gives it
pub record CornerCall (d : ℕ) (xs before after : List ℤ) (answer : Result ℕ Refusal) : Type 0 where
  pub list : List (List ℤ)
  pub is : CornerList (index_list d xs) list
  pub fronted : Fronted (corner_refusal d xs (length list) (length before)) list before after answer

-- whether a list is lower, or the refusal
abbrev pub LowerCall : ℕ → List ℤ → Result Bool Refusal → Type 0
LowerCall d xs (Ok lower) = (lower_refusal d xs ≡ 0) × Decides lower (Lower (index_list d xs))
LowerCall d xs (Err refusal) = number refusal ≡ lower_refusal d xs
