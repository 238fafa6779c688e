-- `refusal::check_components` meets its contract: where no component is out of range, `any` found none at any place.
use Rattle.std.proofs.Common.{rules, ◌≡◌, ◌<◌, ℕ, false, length, get_or}
use Rattle.std.proofs.iter.runs.Made.{chains}
use lib.IntN.{pos}
use Rattle.rank1.specs.Tests.{any}
use Rattle.rank1.specs.Refusal.{outside}
use Rattle.rank1.proofs.TestLaws.{any_nowhere}
use Rattle.refusal.proofs.check_components.Goals as goal

pub returns : goal.returns
returns c =
    let xs = c.args.rows.now in
    let within : (k : ℕ) → k < length xs → outside c.args.plan (get_or xs k (pos 0)) ≡ false = λ k l. search (rules, chains) in
    let none : any (outside c.args.plan) xs ≡ false = any_nowhere (outside c.args.plan) (pos 0) xs within in
    search rules
