-- `search::next_free`: what `find` passes over is struck (first_from_Range).
use mathlib.Core.Bool.{Bool, true, false}
use mathlib.Core.List.{List}
use Prim.Native.Nat.{ℕ, ◌≤◌, ◌<◌}
use Rattle.std.proofs.Common.{◌≡◌, rules, tests}
use Rattle.std.specs.Prelude.{Option, Some, None, MatchOption}
use Rattle.std.proofs.lemmas.Iterator.{first_from_Range}
use lib.ListN.{get_or}
use Rattle.planner.specs.Stage.{NextFree}
use Rattle.planner.proofs.search.next_free.Goals as goal

-- what `find` over a range says of the marks
first_free :
    (from end : ℕ) (struck : List Bool) (r : Option ℕ)
    → MatchOption r ((v : ℕ) → from ≤ v → v < end → get_or struck v false ≡ true)
    (λ i. (from ≤ i) × (i < end) × (get_or struck i false ≡ false) × ((v : ℕ) → from ≤ v → v < i → get_or struck v false ≡ true))
    → NextFree from end struck r
first_free from end struck None none = none
first_free from end struck (Some i) some = (some.0, some.1, some.3)

pub returns : goal.returns
returns c =
    let a = c.args in
    first_free a.from a.end a.struck.now c.find.result
    (first_from_Range _ _ _ _ (λ i. get_or a.struck.now i false ≡ false) (λ i. get_or a.struck.now i false ≡ true) c.find.ensures.ran
    (λ x q k. search (rules, tests))
    (λ x q k. (search rules, search (rules, tests))))
