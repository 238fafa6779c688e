-- `vectors::largest_of`: the maximum of the components, 0 of none, is the largest (`largest_is`).
use Rattle.std.proofs.Common.{rules, sym, ◌∙◌, ap, Option, ℕ}
use Rattle.std.specs.Option.{unwrap_or}
use Rattle.std.proofs.lemmas.Iterator.{YieldsList-from_slice}
use Rattle.std.proofs.lemmas.Iterator.Adapters.{option_map_id}
use Rattle.std.proofs.lemmas.Iterator.Consumers.{YieldsList-from_copied, max_from_yields_List}
use Rattle.planner.proofs.vectors.LargestLaws.{largest_is}
use Rattle.planner.proofs.vectors.largest_of.Goals as goal

pub returns : goal.returns
returns c =
    let road = YieldsList-from_copied (YieldsList-from_slice c.args.z.now (search rules)) in
    let most = sym (option_map_id c.max.result) ∙ max_from_yields_List c.copied.result c.max.result c.max.ensures.ran road in
    c.unwrap_or.ensures ∙ ap (λ (o : Option ℕ). unwrap_or o 0) most ∙ largest_is c.args.z.now
