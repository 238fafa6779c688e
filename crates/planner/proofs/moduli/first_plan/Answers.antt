-- `moduli::first_plan`: the moduli that counting passes over fail (all_counted), the others are run (rest-run).
use mathlib.Core.Path.{◌∙◌, ap}
use native.Mathlib.Omega.{arith}
use Rattle.rank1.specs.Named.{plan_number}
use Rattle.rank1.specs.Refusal.{least_refusal}
use Rattle.lists.proofs.RecountLaws.{recount_kept}
use Rattle.planner.proofs.rule.RuleIndex.{few_plans}
use Rattle.planner.proofs.moduli.ModuliLaws.{all_counted, rest-run}
use Rattle.planner.proofs.moduli.first_plan.Goals as goal

pub start_of-start-requires : goal.start_of-start-requires
start_of-start-requires c =
    let a = c.args in
    let rows = a.rows.now in
    let plan = plan_number rows.plan in
    ap (least_refusal plan) c.requires.1 ∙ recount_kept plan rows.d rows.numbers.now rows.valid (few_plans rows.plan)

pub returns-then-high-start : goal.returns-then-high-start
returns-then-high-start c =
    let a = c.args in
    let rows = a.rows.now in
    let plan = plan_number rows.plan in
    let s = c.requires.0 in
    let start = c.start_of-start in
    all_counted plan rows.d a.low start.result a.high rows.numbers.now a.tally rows.valid c.requires.1 s.some start.ensures a.z.now c.if-high-start.true

pub search_list-requires : goal.search_list-requires
search_list-requires c =
    let s = c.requires.0 in
    record { some = omega (arith, s.some, c.start_of-start.ensures); few = s.few; places_for_z = s.places_for_z }

pub returns : goal.returns
returns c =
    let a = c.args in
    let rows = a.rows.now in
    let plan = plan_number rows.plan in
    let s = c.requires.0 in
    let start = c.start_of-start in
    let call = c.search_list in
    rest-run plan rows.d a.low start.result a.high rows.numbers.now a.tally rows.valid c.requires.1 s.some start.ensures a.z.now call.new.z call.result call.ensures
