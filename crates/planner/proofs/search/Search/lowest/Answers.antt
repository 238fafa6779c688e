-- `Search::lowest`: the start of the first component; of a later one what was found among the axes before i.
use Rattle.std.proofs.Common.{arith, subst, ℕ, false, get_or, ◌+◌, ◌*◌, ◌<◌}
use Rattle.std.proofs.lemmas.List.{length-take-le, get_or-take}
use Rattle.planner.specs.Sizes.{axes}
use Rattle.planner.specs.Stage.{Raised}
use Rattle.planner.proofs.search.ValueLaws.{lowest_more}
use Rattle.planner.proofs.search.Search.lowest.Goals as goal

pub loop-i-preserved : goal.loop-i-preserved
loop-i-preserved c =
    let a = c.args in
    let l = c.loop-i in
    let inside : l.i < a.at = omega (arith, length-take-le a.at a.z.now c.requires.1) in
    let mark = get_or a.self.now.task.list.now.swaps (l.i * axes + a.at) false in
    lowest_more a.self.now a.at a.z.now l.low l.i c.raised-low.result inside
    (subst (λ (x : ℕ). Raised l.low mark x c.raised-low.result) (get_or-take a.at a.z.now l.i 0 inside) c.raised-low.ensures) l.invariant
