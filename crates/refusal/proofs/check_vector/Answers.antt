-- `refusal::check_vector` meets its contract: where no component is n or more, `any` found none at any place.
use Rattle.std.proofs.Common.{rules, ◌≡◌, ◌<◌, ℕ, false, length, get_or}
use Rattle.std.proofs.iter.runs.Made.{chains}
use lib.Dec.{leb}
use Rattle.rank1.specs.Tests.{any}
use Rattle.rank1.proofs.TestLaws.{any_nowhere}
use Rattle.refusal.proofs.check_vector.Goals as goal

pub returns : goal.returns
returns c =
    let z = c.args.z.now in
    let below : (k : ℕ) → k < length z → leb c.args.n (get_or z k 0) ≡ false = λ k l. search (rules, chains) in
    let none : any (leb c.args.n) z ≡ false = any_nowhere (leb c.args.n) 0 z below in
    search rules
