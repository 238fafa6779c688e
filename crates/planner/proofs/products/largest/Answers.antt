-- `products::largest`: the maximum of the sizes, 0 of none, is the largest (`largest_is`), and it covers all of them (`covered_largest`).
use Rattle.std.proofs.Common.{rules, tests, sym, ◌∙◌, ap, subst, Option, ℕ, nat_abs}
use Rattle.std.specs.Option.{unwrap_or}
use Rattle.std.proofs.lemmas.Iterator.{YieldsList-from_slice, YieldsList-from_map}
use Rattle.std.proofs.lemmas.Iterator.Adapters.{option_map_id}
use Rattle.std.proofs.lemmas.Iterator.Consumers.{YieldsList-at, max_from_yields_List}
use Rattle.planner.specs.Inner.{Covered}
use Rattle.planner.proofs.products.ProductLaws.{covered_largest}
use Rattle.planner.proofs.vectors.LargestLaws.{largest_is}
use mathlib.Core.List.{map}
use Rattle.planner.proofs.products.largest.Goals as goal

pub returns : goal.returns
returns c =
    let xs = c.args.rows.now in
    let most = sym (option_map_id c.max.result) ∙ max_from_yields_List c.map.result c.max.result c.max.ensures.ran
    (YieldsList-from_map _ nat_abs (YieldsList-at c.map.ensures.source (YieldsList-from_slice xs c.iter.ensures.rest)) c.map.ensures.closure (λ x r q k. search (rules, tests))) in
    let top = c.unwrap_or.ensures ∙ ap (λ (o : Option ℕ). unwrap_or o 0) most ∙ largest_is (map nat_abs xs) in
    subst (λ (n : ℕ). Covered n xs) (sym top) (covered_largest xs c.requires)
