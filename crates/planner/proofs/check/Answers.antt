-- `check` meets its contract: where nothing is refused the test of the rule answers.
use mathlib.Core.Path.{◌≡◌, sym}
use mathlib.Core.List.{map}
use borrow.Author.Rules.{rules}
use lib.IntN.{pos}
use Rattle.rank1.specs.Index.{index_list}
use Rattle.rank1.specs.RuleTest.{admissible}
use Rattle.planner.specs.Answer.{CheckCall}
use Rattle.planner.proofs.CallLaws.{of_given}
use Rattle.planner.proofs.check.Goals as goal

pub returns-in_err-rows : goal.returns-in_err-rows
unfolding CheckCall
returns-in_err-rows c = search rules

pub returns : goal.returns
unfolding CheckCall
returns c =
    let told = of_given (λ plan d xs. c.admits.result ≡ admissible plan (index_list d xs) c.args.n (map pos c.args.z.now))
    c.in_ok-rows.ensures.given c.admits.ensures in
    (sym c.in_ok-rows.ensures.number, told)
