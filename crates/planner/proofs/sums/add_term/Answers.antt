-- `sums::add_term` meets its contract. The invariant: at each place a has been added as often as it occurs among the residues passed.
-- `Addable` keeps the sums in 64 bits.
use Rattle.std.proofs.Common.{◌≡◌, ℕ, ◌<◌, ◌+ℤ◌, ◌*ℤ◌, pos, arith, length, get_or, take, w64}
use borrow.Author.Rules.{sfits_of}
use mir.Val.{SFits}
use mir.Facts.{to_z-of_z}
use Rattle.planner.specs.Inner.{occurrences}
use Rattle.planner.proofs.sums.SignedSteps.{sum_fits, sum_back}
use Rattle.planner.proofs.sums.SumSteps.{term_more, held_fits, term_fits}
use Rattle.planner.proofs.sums.add_term.Goals as goal
use Rattle.planner.proofs.sums.add_term.Goals.{After-from}

so_far : (c : After-from) → (r : ℕ) → get_or c.loop-r.sums r (pos 0) ≡ get_or c.args.sums.now r (pos 0) +ℤ (c.args.a *ℤ pos (occurrences r (take c.loop-r.r-index c.args.residues.now)))
so_far c r = rw (to_z-of_z c.ranges.a) at (c.loop-r.invariant r)

-- the sum there, before and after, has 64 bits
held : (c : After-from) → SFits w64 (get_or c.loop-r.sums c.from.result (pos 0))
held c =
    let rs = c.args.residues.now in
    sfits_of (held_fits c.args.a rs c.args.sums.now c.loop-r.sums c.loop-r.r-index c.loop-r-test.true (so_far c) c.from.result c.from.ensures (length rs) c.loop-r-test.true (c.requires.fits c.from.result))

next : (c : After-from) → SFits w64 (get_or c.loop-r.sums c.from.result (pos 0) +ℤ c.args.a)
next c =
    let rs = c.args.residues.now in
    sfits_of (term_fits c.args.a rs c.args.sums.now c.loop-r.sums c.loop-r.r-index c.loop-r-test.true (so_far c) c.from.result c.from.ensures (length rs) c.loop-r-test.true (c.requires.fits c.from.result))

pub overflow_add-sums : goal.overflow_add-sums
overflow_add-sums c =
    let here = (goal.at.overflow_add-sums c).After-from in
    sum_fits (get_or c.loop-r.sums c.from.result (pos 0)) c.args.a (held here) c.ranges.a (next here)

pub loop-r-preserved : goal.loop-r-preserved
loop-r-preserved c =
    let here = (goal.at.loop-r-preserved c).After-from in
    let inside : c.from.result < length c.loop-r.sums = omega (arith, c.from.ensures, c.requires.inside c.loop-r.r-index c.loop-r-test.true) in
    λ r. rw (sum_back (get_or c.loop-r.sums c.from.result (pos 0)) c.args.a (held here) c.ranges.a (next here), to_z-of_z c.ranges.a)
    (term_more c.args.a c.args.residues.now c.args.sums.now c.loop-r.sums c.loop-r.r-index c.loop-r-test.true (so_far here) c.from.result c.from.ensures inside r)
