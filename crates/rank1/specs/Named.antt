-- The numbers that document 01 and 02 give the refusals and the plans, which are enums in the code.
use Rattle.std.specs.Prelude.{◌≡◌, ◌<◌, ℕ, Result, Ok, Err}
use Rattle.rank1.specs.declared.Refusal.{Refusal}
use Rattle.rank1.specs.declared.Refusal.TheVariants as refusals
use Rattle.rank1.specs.declared.Plan.{Plan}
use Rattle.rank1.specs.declared.Plan.TheVariants as plans

-- the number of a refusal
abbrev pub number : Refusal → ℕ
number refusals.Plan = 1
number refusals.Axes = 2
number refusals.Length = 3
number refusals.Component = 4
number refusals.EqualRows = 5
number refusals.Modulus = 6
number refusals.Vector = 7
number refusals.Places = 8
number refusals.NoPlan = 9
number refusals.Inadmissible = 10
number refusals.Sums = 11
number refusals.Text = 12
number refusals.Corners = 13

-- the number that a call answers with, 0 for none
abbrev pub refused : {A : Type 0} → Result A Refusal → ℕ
refused (Ok x) = 0
refused (Err refusal) = number refusal

-- what a call answers: the refusal with the number k, or (0) x
abbrev pub Answers : {A : Type 0} → ℕ → A → Result A Refusal → Type 0
Answers k x (Ok y) = (k ≡ 0) × (y ≡ x)
Answers k x (Err refusal) = number refusal ≡ k

-- the number of a plan
abbrev pub plan_number : Plan → ℕ
plan_number plans.Integration = 0
plan_number plans.Fourier = 1
plan_number plans.A = 2
plan_number plans.B = 3
plan_number plans.C = 4

-- a number names the plan that has it, and is refused where none has
abbrev pub Names : ℕ → Result Plan Refusal → Type 0
Names k (Ok plan) = plan_number plan ≡ k
Names k (Err refusal) = (4 < k) × (refusal ≡ refusals.Plan)
