-- The answers taken apart: what a record, a modulus or a refusal says of the conditions. So a caller who has one in hand knows which.
use mathlib.Core.Path.{◌≡◌}
use mathlib.Core.Logic.{◌≢◌}
use mathlib.Core.List.{List}
use Prim.Native.Nat.{ℕ}
use native.Mathlib.Omega.{arith}
use lib.IntN.{ℤ}
use Rattle.std.specs.Prelude.{Ok, Err}
use Rattle.rank1.specs.declared.Refusal.{Refusal}
use Rattle.rank1.specs.declared.Tally.{Tally}
use Rattle.rank1.specs.Index.{index_list}
use Rattle.rank1.specs.Named.{number}
use Rattle.rank1.specs.Tally.{recount, least_modulus}
use Rattle.rank1.specs.Refusal.{tally_refusal, least_refusal}
use Rattle.rank1.proofs.NamedLaws.{number_some}
use Rattle.lists.specs.Answer.{TallyCall, LeastCall}

-- a refusal's number is not 0
named : (e : Refusal) (k : ℕ) → number e ≡ k → (number e ≡ k) × (k ≢ 0)
named e k f = (f, λ o. omega (arith, number_some e, f, o))

module _ (plan d : ℕ) (xs : List ℤ) where
  pub tally_kept_is : (t : Tally) → TallyCall plan d xs (Ok t) → (tally_refusal plan d xs ≡ 0) × (t ≡ recount plan d (index_list d xs))
  tally_kept_is t call = call

  pub tally_refused_is : (e : Refusal) → TallyCall plan d xs (Err e) → (number e ≡ tally_refusal plan d xs) × (tally_refusal plan d xs ≢ 0)
  tally_refused_is e call = named e (tally_refusal plan d xs) call

module _ (plan : ℕ) (t : Tally) where
  pub modulus_is : (n : ℕ) → LeastCall plan t (Ok n) → (least_refusal plan t ≡ 0) × (n ≡ least_modulus plan t)
  modulus_is n call = call

  pub modulus_none_is : (e : Refusal) → LeastCall plan t (Err e) → (number e ≡ least_refusal plan t) × (least_refusal plan t ≢ 0)
  modulus_none_is e call = named e (least_refusal plan t) call
