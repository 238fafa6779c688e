-- The answers of the calls as numbers: what an export returns, and what the places lent for what it finds hold afterwards: yes or no, the
-- modulus, the record, the number of rows. And which of two vectors wins.
use Rattle.std.specs.Prelude.{◌≡◌, Bool, not, List, ℕ, eqb, Result, Ok, Err}
use Rattle.exports.specs.declared.tally.PlannerTally.{PlannerTally}
use Rattle.rank1.specs.declared.Tally.{Tally}
use Rattle.rank1.specs.declared.Refusal.{Refusal}
use Rattle.rank1.specs.Named.{refused}
use Rattle.rank1.specs.Tally.{zeros}
use Rattle.rank1.specs.Winner.{LeftWins}

-- what a lent place holds afterwards: what was found, in the form in which it is told; where the call is refused, what it held before
abbrev pub place_or : {A B : Type 0} → (A → B) → B → Result A Refusal → B
place_or told before (Ok x) = told x
place_or told before (Err refusal) = before

-- a call has an answer that meets its promise: the number of its refusal is returned, 0 for none, and what it found goes to the lent place
pub record Told {A B : Type 0} (told : A → B) (Promise : Result A Refusal → Type 0) (before after : B) (returned : ℕ) : Type 0 where
  pub answer : Result A Refusal
  pub meets : Promise answer
  pub number : returned ≡ refused answer
  pub place : after ≡ place_or told before answer

-- ---- the forms in which it is told
-- a number: as it is
abbrev pub as_it_is : ℕ → ℕ
as_it_is n = n

-- 1 for yes and 0 for no
abbrev pub yes_or_no : Bool → ℕ
yes_or_no b = zeros b

-- the record that the numbers of a call in C stand for: 0 is no, any other number yes
abbrev pub tally_of : PlannerTally → Tally
tally_of given = record { m = given.m; size = given.size; zero = not (eqb given.zero 0) }

-- three places for a record
abbrev pub places : ℕ → ℕ → ℕ → PlannerTally
places m size byte = record { m = m; size = size; zero = byte }

-- the numbers of the record, 1 or 0 for the zero row
abbrev pub numbers : Tally → PlannerTally
numbers t = places t.m t.size (zeros t.zero)

-- ---- the gentler of two vectors (document 02, f)
-- 0 where the left one wins, and else 1
pub record WinnerTold (left right : List ℕ) (returned : ℕ) : Type 0 where
  pub left_wins : LeftWins left right → returned ≡ 0
  pub right_wins : (LeftWins left right → ⊥) → returned ≡ 1
