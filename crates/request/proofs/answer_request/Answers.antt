-- `request::answer_request` meets its contract. The search's vector stands in the first d of six places and the map in the first
-- 2 × m of 1024; what is written is the refusal (refused_answered), the first line under plan 0 (line_answered), or the first line and
-- the map (map_answered).
use mathlib.Core.Path.{◌≡◌, refl, ap, ◌∙◌, subst}
use mathlib.Core.List.{List, ◌++◌, map}
use Prim.Native.Nat.{ℕ, ◌*◌, ◌/◌, ◌≤◌}
use native.Mathlib.Omega.{arith}
use borrow.Author.Rules.{rules}
use lib.IntN.{ℤ, pos}
use lib.ListN.{length, take, drop, replicate}
use lib.Seq.{length-take-le, take_at}
use Rattle.std.proofs.Math.Nat.{mul-div_cancel}
use Rattle.rank1.specs.Named.{plan_number, number, refused}
use Rattle.rank1.specs.declared.Plan.{Plan}
use Rattle.rank1.specs.declared.Plan.TheVariants.{Integration, Fourier, A, B, C}
use Rattle.rank1.specs.Index.{index_list}
use Rattle.rank1.specs.Sums.{residue_map}
use Rattle.planner.specs.Answer.{ResidueMapCall, SmallestSearch}
use Rattle.request.specs.Text.{number_text}
use Rattle.request.specs.Answer.{refusal_text, vector_text}
use Rattle.request.specs.Inner.{Counted}
use Rattle.request.proofs.SearchedLaws.{SearchedFor, refused_answered, line_answered, first_line_end, map-written, map_answered}
use Rattle.request.proofs.answer_request.Goals as goal
use Rattle.request.proofs.answer_request.Goals.{After-residue_map, After-search_smallest-found, After-plan}

-- the places of the vector, and those of the map
abbrev six : List ℕ
six = replicate 6 0

abbrev many : List ℕ
many = replicate 1024 0

-- what was left in the first places is read back
read_back : (n : ℕ) (all z : List ℕ) → n ≤ length all → length z ≡ length (take n all) → take n (z ++ drop n all) ≡ z
read_back n all z few kept = take_at z (drop n all) n (kept ∙ length-take-le n all few)

-- m rows are counted
rows_counted : (plan d : ℕ) (xs : List ℤ) (counted : Counted plan d xs) → length xs / d ≡ counted.m
rows_counted plan d xs counted = ap (λ (k : ℕ). k / d) counted.size ∙ mul-div_cancel counted.m counted.head.axes.0

-- plan 0 alone is Integration
other-plan : (plan : Plan) → (plan ≡ Integration → ⊥) → plan_number plan ≡ 0 → ⊥
other-plan Integration h e = h refl
other-plan Fourier h e = omega arith
other-plan A h e = omega arith
other-plan B h e = omega arith
other-plan C h e = omega arith

-- what was searched for
searched : (c : After-search_smallest-found) → SearchedFor (plan_number c.args.asked.now.plan) c.args.asked.now.d c.requires.0.m c.args.asked.now.rows.now c.args.asked.now.ceiling c.search_smallest-found.new.z c.search_smallest-found.result
searched c =
    let asked = c.args.asked.now in
    let z = c.search_smallest-found.new.z in
    record {
      head = c.requires.0.head;
      size = c.requires.0.size;
      before = take asked.d six;
      room = length-take-le asked.d six c.requires.0.head.axes.1;
      told = subst (λ (k : ℕ). SmallestSearch k asked.d asked.rows.now asked.ceiling (take asked.d six) z c.search_smallest-found.result) c.from.ensures c.search_smallest-found.ensures;
    }

pub returns-in-Err : goal.returns-in-Err
returns-in-Err c =
    refused_answered (searched (goal.at.returns-in-Err c).After-search_smallest-found) c.in-Err.refusal c.refusal.new.self (c.in_default.is ∙ c.in-Err.is)
    (c.refusal.ensures ∙ ap (λ (s : List ℕ). s ++ refusal_text (number c.in-Err.refusal)) c.requires.1)

-- n and z are written
first_line : (c : After-plan) → c.plan.new.self ≡ number_text c.in-Ok.n ++ vector_text c.search_smallest-found.new.z
first_line c =
    let d = c.args.asked.now.d in
    let z = c.search_smallest-found.new.z in
    c.plan.ensures
    ∙ ap (λ (s : List ℕ). s ++ number_text c.in-Ok.n ++ vector_text (take d (z ++ drop d six))) c.requires.1
    ∙ ap (λ (s : List ℕ). number_text c.in-Ok.n ++ vector_text s) (read_back d six z c.requires.0.head.axes.1 c.search_smallest-found.auto.z)

pub returns-else-ne : goal.returns-else-ne
returns-else-ne c =
    let is : c.args.asked.now.plan ≡ Integration = search rules in
    line_answered (searched (goal.at.returns-else-ne c).After-search_smallest-found) c.in-Ok.is c.plan.new.self (ap plan_number is) (first_line (goal.at.returns-else-ne c).After-plan)

-- the map of the rows and the plan found stands in the places
abbrev size_of : After-residue_map → ℕ
size_of c = 2 * (length c.args.asked.now.rows.now / c.args.asked.now.d)

size_is : (c : After-residue_map) → size_of c ≡ 2 * c.requires.0.m
size_is c = ap (λ (k : ℕ). 2 * k) (rows_counted (plan_number c.args.asked.now.plan) c.args.asked.now.d c.args.asked.now.rows.now c.requires.0)

abbrev pairs_of : After-residue_map → List ℕ
pairs_of c = take (size_of c) (c.residue_map.new.out ++ drop (size_of c) many)

pairs_read : (c : After-residue_map) → pairs_of c ≡ c.residue_map.new.out
pairs_read c = read_back (size_of c) many c.residue_map.new.out (omega (arith, size_is c, c.requires.0.head.rows)) c.residue_map.auto.out

pairs-size : (c : After-residue_map) → length (take (size_of c) many) ≡ 2 * c.requires.0.m
pairs-size c = length-take-le (size_of c) many (omega (arith, size_is c, c.requires.0.head.rows)) ∙ size_is c

-- another plan than plan 0
not_zero : (c : After-residue_map) → plan_number c.args.asked.now.plan ≡ 0 → ⊥
not_zero c = other-plan c.args.asked.now.plan (search rules)

map_of : (c : After-residue_map) → SearchedFor (plan_number c.args.asked.now.plan) c.args.asked.now.d c.requires.0.m c.args.asked.now.rows.now c.args.asked.now.ceiling c.search_smallest-found.new.z c.search_smallest-found.result → pairs_of c ≡ residue_map (plan_number c.args.asked.now.plan) c.in-Ok.n (map pos c.search_smallest-found.new.z) (index_list c.args.asked.now.d c.args.asked.now.rows.now)
map_of c searched =
    let asked = c.args.asked.now in
    let plan = plan_number asked.plan in
    let z = c.search_smallest-found.new.z in
    let old = take (size_of c) many in
    pairs_read c
    ∙ map-written searched c.in-Ok.is (not_zero c) old c.residue_map.new.out (refused c.residue_map.result) (pairs-size c)
    (subst (λ (z : List ℕ). ResidueMapCall plan asked.d asked.rows.now c.in-Ok.n z old c.residue_map.new.out (refused c.residue_map.result))
    (read_back asked.d six z c.requires.0.head.axes.1 c.search_smallest-found.auto.z)
    (subst (λ (k : ℕ). ResidueMapCall k asked.d asked.rows.now c.in-Ok.n (take asked.d (z ++ drop asked.d six)) old c.residue_map.new.out (refused c.residue_map.result))
    c.from-then-ne.ensures c.residue_map.ensures))

pub map-requires : goal.map-requires
map-requires c =
    let here = (goal.at.map-requires c).After-residue_map in
    let end = first_line_end (searched (goal.at.map-requires c).After-search_smallest-found) c.in-Ok.is c.plan.new.self (first_line (goal.at.map-requires c).After-plan) in
    let size : length (pairs_of here) ≡ 2 * c.requires.0.m =
    ap length (pairs_read here) ∙ c.residue_map.auto.out ∙ pairs-size here in
    omega (arith, end, size, c.requires.0.head.rows)

pub returns-then-ne : goal.returns-then-ne
returns-then-ne c =
    let here = (goal.at.returns-then-ne c).After-residue_map in
    let asked = searched (goal.at.returns-then-ne c).After-search_smallest-found in
    map_answered asked c.in-Ok.is (not_zero here) (pairs_of here) c.plan.new.self c.map.new.self
    (map_of here asked) (first_line (goal.at.returns-then-ne c).After-plan) c.map.ensures
