-- `moduli::search_list`: the tables are those of the list, where at first no run is (`bounds_none`); the vector is built in the first d of its places, which the call of
-- `first_modulus` leaves in front of the others.
use mathlib.Core.Path.{◌≡◌, sym, ap, ◌∙◌, subst}
use mathlib.Core.Bool.{Bool, false}
use mathlib.Core.List.{List}
use Prim.Native.Nat.{◌+◌, ◌*◌}
use native.Mathlib.Omega.{arith}
use lib.ListN.{get_or, replicate}
use Rattle.planner.specs.declared.tables.ListTables.{ListTables}
use Rattle.planner.specs.Inner.{Covered}
use Rattle.planner.specs.Sizes.{axes, room, level_room}
use Rattle.planner.proofs.products.ProductLaws.{covered_zeros}
use Rattle.planner.proofs.Writing.{unwritten}
use Rattle.planner.proofs.runs.RunLaws.{bounds_none}
use Rattle.planner.proofs.moduli.search_list.Goals as goal
use Rattle.planner.proofs.moduli.search_list.Goals.{After-set_levels}

pub set_differences-listing-requires : goal.set_differences-listing-requires
set_differences-listing-requires c = covered_zeros 0 (axes * room) (omega arith)

pub set_levels-requires-clause-level_places : goal.set_levels-requires-clause-level_places
set_levels-requires-clause-level_places c =
    let made = c.set_differences-listing in
    subst (Covered made.result.top) (sym (ap (λ (T : ListTables). T.levels) made.ensures.only))
    (covered_zeros made.result.top ((axes + 1) * level_room) made.ensures.made.covers.narrow)

-- the marks of the pairs of axes are as they were made
no_swaps : (c : After-set_levels) → c.set_levels.new.list.swaps ≡ replicate (axes * axes) false
no_swaps c = ap (λ (T : ListTables). T.swaps) c.set_levels.ensures.only ∙ ap (λ (T : ListTables). T.swaps) c.set_differences-listing.ensures.only

pub set_swaps-requires : goal.set_swaps-requires
set_swaps-requires c =
    let e = no_swaps (goal.at.set_swaps-requires c).After-set_levels in
    λ i. subst (λ (s : List Bool). get_or s i false ≡ false) (sym e) (unwritten false (axes * axes) i)

pub invariant_of-list : goal.invariant_of-list
invariant_of-list c = record { bounded = bounds_none }
