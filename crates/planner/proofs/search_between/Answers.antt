-- `planner::search_between` meets its contract: a refusal of the plan or of the list is one of the search (refused_list), and past it one by 6
-- or 8 (refused_range); past these the arguments are valid, and the moduli from low to high are run.
use mathlib.Core.Path.{◌≡◌, sym}
use borrow.Author.Rules.{rules}
use lib.ListN.{length}
use Rattle.rank1.specs.Named.{number, refused}
use Rattle.rank1.specs.Refusal.{search_refusal, tally_refusal}
use Rattle.planner.proofs.SearchCalls.{ValidSearch, valid_search, refused_list, refused_range, between_refused, between_answered}
use Rattle.planner.proofs.search_between.Goals as goal
use Rattle.planner.proofs.search_between.Goals.{In_ok-range_refusal}

pub returns-in_err-named : goal.returns-in_err-named
unfolding tally_refusal
returns-in_err-named c =
    let a = c.args in
    let k = c.in_err-named.field-0.0 in
    let told : refused c.from_residual.result ≡ number k = search rules in
    let plan : number k ≡ tally_refusal a.plan a.d a.rows.now = search rules in
    between_refused a.plan a.d a.rows.now a.low a.high a.z.now k c.from_residual.result told (refused_list a.plan a.d a.rows.now a.high (length a.z.now) k plan)

pub returns-in_err-tally : goal.returns-in_err-tally
returns-in_err-tally c =
    let a = c.args in
    let k = c.in_err-tally.field-0.0 in
    let result = c.from_residual-in_err-tally.result in
    let told : refused result ≡ number k = search rules in
    let list : number k ≡ tally_refusal a.plan a.d a.rows.now = search rules in
    between_refused a.plan a.d a.rows.now a.low a.high a.z.now k result told (refused_list a.plan a.d a.rows.now a.high (length a.z.now) k list)

pub returns-in_err-range_refusal : goal.returns-in_err-range_refusal
returns-in_err-range_refusal c =
    let a = c.args in
    let k = c.in_err-range_refusal.field-0.0 in
    let result = c.from_residual-in_err-range_refusal.result in
    let told : refused result ≡ number k = search rules in
    let ranged = refused_range a.plan a.d a.rows.now a.high (length a.z.now) (number k) (c.in_ok-tally.ensures.0) c.in_err-range_refusal.ensures in
    between_refused a.plan a.d a.rows.now a.low a.high a.z.now k result told ranged

-- past all of them the arguments are valid
none : (c : In_ok-range_refusal) → search_refusal c.args.plan c.args.d c.args.rows.now c.args.high (length c.args.z.now) ≡ 0
none c =
    let a = c.args in
    sym (refused_range a.plan a.d a.rows.now a.high (length a.z.now) 0 (c.in_ok-tally.ensures.0) c.in_ok-range_refusal.ensures)

valid : (c : In_ok-range_refusal) → ValidSearch c.args.plan c.args.d c.args.rows.now c.args.high (length c.args.z.now)
valid c = let a = c.args in valid_search a.plan a.d a.rows.now a.high (length a.z.now) (none c)

pub invariant_of-rows : goal.invariant_of-rows
invariant_of-rows c = record { valid = rw c.in_ok-named.ensures (valid (goal.at.invariant_of-rows c).In_ok-range_refusal).list }

pub first_plan-requires : goal.first_plan-requires
first_plan-requires c =
    let v = valid (goal.at.first_plan-requires c).In_ok-range_refusal in
    (record { some = c.requires v.modulus.low; few = v.modulus.high; places_for_z = v.room }, rw c.in_ok-named.ensures c.in_ok-tally.ensures.1)

pub returns : goal.returns
returns c =
    let a = c.args in
    between_answered a.plan a.d a.rows.now a.low a.high a.z.now (none (goal.at.returns c).In_ok-range_refusal) _ c.first_plan.result
    (rw c.in_ok-named.ensures at c.first_plan.ensures)
