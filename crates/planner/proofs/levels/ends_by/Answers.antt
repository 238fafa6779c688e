-- `levels::ends_by`: the row is 0 from axis j on where no component from there on is another number.
use Rattle.std.proofs.Common.{rules, ◌≡◌, ◌<◌, ◌+◌, ℕ, length, get_or}
use Rattle.std.proofs.iter.runs.Made.{chains}
use native.Mathlib.Omega.{arith}
use lib.IntN.{pos}
use Rattle.rank1.proofs.TestLaws.{fails_false, holds_true}
use Rattle.planner.specs.Levels.{zero_from}
use Rattle.planner.proofs.levels.LevelLaws.{zero_from_lem, from_zero_lem, from_places}
use Rattle.refusal.proofs.InputLaws.{same_test}
use Rattle.planner.proofs.levels.ends_by.Goals as goal

pub returns : goal.returns
returns c =
    let j = c.args.j in
    let row = c.args.row.now in
    same_test c.all.result (zero_from j row)
    (λ yes.
    let zeros : (k : ℕ) → j + k < length row → get_or row (j + k) (pos 0) ≡ pos 0 = λ k l. search (rules, chains) in
    from_zero_lem j row (from_places j row zeros))
    (λ no. fails_false (zero_from j row)
    (λ t. let zeros : (i : ℕ) → get_or row (j + i) (pos 0) ≡ pos 0 = λ i. zero_from_lem j row (holds_true (zero_from j row) t) (j + i) (omega arith) in search (rules, chains)))
