-- `sieve::set_sums`: the sums before e are set (`sums_more`); those that are read stand before them and are as they were.
use mathlib.Core.Path.{◌≡◌, ◌∙◌, ap}
use Prim.Native.Nat.{ℕ, ◌+◌, ◌*◌, ◌%◌}
use native.Mathlib.Omega.{arith}
use lib.IntN.{pos}
use lib.ListN.{get_or}
use Rattle.planner.specs.Inner.{place}
use Rattle.planner.specs.Sizes.{places, room}
use Rattle.planner.proofs.products.ProductLaws.{read_back}
use Rattle.planner.proofs.sieve.SieveLaws.{sums_more}
use Rattle.planner.proofs.sieve.set_sums.Goals as goal
use Rattle.planner.proofs.sieve.set_sums.Goals.{After-place_of}

-- the place that the code finds
placed : (c : After-place_of) → c.place_of.result ≡ place (get_or c.args.components.now (c.args.at * room + c.loop-e.e) (pos 0))
placed c =
    let l = c.loop-e in
    let i = c.args.at * room + l.e in
    c.place_of.ensures.0 ∙ ap place (read_back (get_or c.args.components.now i (pos 0)) (c.requires.small.covered i))

pub loop-e-preserved : goal.loop-e-preserved
loop-e-preserved c =
    let l = c.loop-e in
    let a = c.args in
    let p = c.requires in
    sums_more a.n a.at a.components.now a.products.now a.sums.now a.from l.e c.sum_of.result l.sums
    (omega arith) (omega arith) p.inner (omega arith)
    (c.sum_of.ensures.0
    ∙ ap (λ (x : ℕ). (x + get_or a.products.now (a.at * places + c.place_of.result) 0) % a.n) (l.invariant.kept (a.at * room + l.e) (omega arith))
    ∙ ap (λ (x : ℕ). (get_or a.sums.now (a.at * room + l.e) 0 + get_or a.products.now (a.at * places + x) 0) % a.n) (placed (goal.at.loop-e-preserved c).After-place_of))
    c.sum_of.ensures.1 l.invariant
