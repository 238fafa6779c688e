-- `sieve::strike_first`: what is struck is a number of periods (`first-marked`); nothing where the run is empty or t has no table.
use native.Mathlib.Numerals.{add-one}
use mathlib.Core.Path.{subst}
use Prim.Native.Nat.{ℕ, ◌<◌}
use lib.ListN.{get_or}
use Rattle.planner.proofs.sieve.FirstSieve.{first-marked}
use Rattle.planner.proofs.sieve.strike_first.Goals as goal

pub returns-in-Some : goal.returns-in-Some
returns-in-Some c =
    let a = c.args in
    let s = c.in-Some.field-0 in
    first-marked a.n a.bounds.now a.t s.step a.struck.now c.mark_steps.new.struck c.requires.short
    (subst (λ (k : ℕ). get_or a.bounds.now a.t 0 < get_or a.bounds.now k 0) (add-one a.t) c.if-bounds-t.true)
    (c.requires.periods.period a.t s c.requires.short c.in-Some.is)
    (rw c.in-Some.field-0-is at c.mark_steps.ensures)
