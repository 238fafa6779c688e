-- `Search::complete`: with all components fixed the rule is checked; else the values of the component are passed one by one
-- (passed_first, passed-alone, passed-call) until one is found (found-call) or they end (ended). Measure: the components left.
use mathlib.Core.Path.{◌≡◌, sym, subst}
use mathlib.Core.Bool.{Bool, true, false}
use Prim.Native.Nat.{ℕ, ◌+◌, ◌*◌, ◌<◌}
use native.Mathlib.Omega.{arith}
use lib.ListN.{get_or}
use Rattle.planner.specs.Sizes.{largest_modulus}
use Rattle.planner.specs.Stage.{Prefixed, CompletedOf}
use Rattle.planner.proofs.search.StageLaws.{siftable, summable, triable}
use Rattle.planner.proofs.search.EndLaws.{list-ready}
use Rattle.planner.proofs.search.SearchSteps.{passed-anew, passed-same, ended, whole, marked, passed_first, looped, passed_struck, stage_next, passed-alone, passed-call, found-call, kept-call}
use Rattle.planner.proofs.search.Search.+complete.Goals as goal
use Rattle.planner.proofs.search.Search.+complete.Goals.{else-try_component-via-then-try_component+else-complete, else-try_component-via-else-try_component}

pub invariant_of-lattice : goal.invariant_of-lattice
invariant_of-lattice t c =
    let a = c.args in
    let w = a.work.now in
    record {
      ready = list-ready a.self.now a.z.now w.products c.requires.fixed.tabled.listed
          (subst (λ (k : ℕ). Prefixed a.self.now k a.z.now w.products) c.if-at-self.true c.requires.fixed.prefix) (omega arith);
    }

pub returns-then-at-self-clause-completed : goal.returns-then-at-self-clause-completed
returns-then-at-self-clause-completed t c =
    let s = c.args.self.now in
    let z = c.args.z.now in
    subst (λ (k : ℕ). CompletedOf s k z z c.keeps_rule.result) (sym c.if-at-self.true)
    (whole s z c.keeps_rule.result c.requires.fixed.prefix.size (λ j l. c.requires.fixed.below j (omega arith)) c.keeps_rule.ensures)

pub sieve_at-requires : goal.sieve_at-requires
sieve_at-requires t c =
    let a = c.args in
    siftable a.self.now a.at a.z.now a.work.now c.requires (omega arith)

pub returns-in_default-clause-completed : goal.returns-in_default-clause-completed
returns-in_default-clause-completed t c =
    let a = c.args in
    let w = c.sieve_at.new.work in
    let end = c.value_end-end in
    ended a.self.now a.at a.z.now w
    (marked a.self.now a.at a.z.now a.work.now c.requires (omega arith) w c.sieve_at.ensures) (omega arith)
    w a.z.now w end.result end.result end.ensures (omega arith)
    (passed_first a.self.now a.at a.z.now a.work.now c.requires (omega arith) w c.sieve_at.ensures c.lowest-low.result end.result _ (omega (arith, end.ensures.low))
    c.lowest-low.ensures c.in_default.ensures)
    a.z.now

pub add_sums-requires : goal.add_sums-requires
add_sums-requires t c =
    let a = c.args in
    let w = c.sieve_at.new.work in
    summable a.self.now a.at a.z.now w
    (marked a.self.now a.at a.z.now a.work.now c.requires (omega arith) w c.sieve_at.ensures) (omega arith)

pub loop-v-init : goal.loop-v-init
loop-v-init t c =
    let a = c.args in
    let w = c.sieve_at.new.work in
    let first = c.in-Some.first in
    passed-anew a.self.now a.at first a.z.now w a.z.now w c.add_sums.new.work
    (passed_first a.self.now a.at a.z.now a.work.now c.requires (omega arith) w c.sieve_at.ensures c.lowest-low.result first _ (omega (arith, c.value_end-end.ensures.low, c.in-Some.ensures.1))
    c.lowest-low.ensures c.in-Some.ensures.2)

pub try_component-requires : goal.try_component-requires
try_component-requires t c =
    let a = c.args in
    let l = c.loop-v in
    triable a.self.now a.at l.v l.z l.work
    (looped a.self.now a.at a.z.now a.work.now c.requires (omega arith) c.sieve_at.new.work c.sieve_at.ensures c.add_sums.new.work c.add_sums.ensures l.z l.work l.v l.invariant)
    (omega arith) (omega (arith, c.value_end-end.ensures.low))

pub complete-requires : goal.complete-requires
complete-requires t c =
    let a = c.args in
    let l = c.loop-v in
    let y = c.try_component in (
      omega (arith, c.decreases),
      stage_next a.self.now a.at a.z.now a.work.now c.requires (omega arith) c.sieve_at.new.work c.sieve_at.ensures c.add_sums.new.work c.add_sums.ensures l.z l.work l.v l.invariant
          (omega (arith, c.value_end-end.ensures.low)) y.new.z y.new.work y.result y.ensures c.if-try_component.true,
    )

pub returns-then-complete-clause-completed : goal.returns-then-complete-clause-completed
returns-then-complete-clause-completed t c =
    let a = c.args in
    let s = a.self.now in
    let l = c.loop-v in
    let y = c.try_component in
    let done = c.complete in
    found-call s a.at a.z.now a.work.now c.requires (omega arith) c.sieve_at.new.work c.sieve_at.ensures c.add_sums.new.work c.add_sums.ensures l.z l.work l.v l.invariant
    (omega (arith, c.value_end-end.ensures.low)) y.new.z y.new.work y.result y.ensures done.new.z done.new.work done.ensures.kept_before
    (subst (λ (r : Bool). CompletedOf s (a.at + 1) y.new.z done.new.z r) c.if-complete.true done.ensures.completed)

pub returns-then-complete-clause-kept_before : goal.returns-then-complete-clause-kept_before
returns-then-complete-clause-kept_before t c =
    let a = c.args in
    let l = c.loop-v in
    let y = c.try_component in
    let done = c.complete in
    kept-call a.self.now a.at a.z.now a.work.now c.requires (omega arith) c.sieve_at.new.work c.sieve_at.ensures c.add_sums.new.work c.add_sums.ensures l.z l.work l.v l.invariant
    (omega (arith, c.value_end-end.ensures.low)) y.new.z y.new.work y.result y.ensures done.new.z done.new.work done.ensures.kept_before

pub loop-v-preserved-then-work-base : goal.loop-v-preserved-then-work-base
loop-v-preserved-then-work-base t c =
    let a = c.args in
    let l = c.loop-v in
    passed_struck a.self.now a.at a.z.now a.work.now c.requires (omega arith) c.sieve_at.new.work c.sieve_at.ensures c.add_sums.new.work c.add_sums.ensures l.z l.work l.v l.invariant
    (subst (λ (v : ℕ). get_or l.work.struck (a.at * largest_modulus + v) false ≡ true) c.from.ensures c.if-work-base.true)

pub loop-v-preserved : goal.loop-v-preserved
loop-v-preserved t c =
    let a = c.args in
    let s = a.self.now in
    let l = c.loop-v in
    let y = c.try_component in
    let x = c.else-try_component in
    let w = c.sieve_at.new.work in
    let w' = c.add_sums.new.work in
    let less : l.v < s.values = omega (arith, c.value_end-end.ensures.low) in
    let within : a.at < s.task.rows.d = omega arith in
    elim x.branch [
      | else-try_component-via-then-try_component+else-complete b ↦
          passed-same s a.at (l.v + 1) a.z.now w' b.complete.new.z x.z b.complete.new.work x.work b.z-is b.work-is
          (passed-call s a.at a.z.now a.work.now c.requires within w c.sieve_at.ensures w' c.add_sums.ensures l.z l.work l.v l.invariant
          less y.new.z y.new.work y.result y.ensures b.complete.new.z b.complete.new.work b.complete.ensures.kept_before
          (b.complete.ensures.completed.none b.if-complete.false))
      | else-try_component-via-else-try_component b ↦
          passed-same s a.at (l.v + 1) a.z.now w' y.new.z x.z y.new.work x.work b.z-is b.work-is
          (passed-alone s a.at a.z.now a.work.now c.requires within w c.sieve_at.ensures w' c.add_sums.ensures l.z l.work l.v l.invariant
          less y.new.z y.new.work y.result y.ensures b.if-try_component.false)
    ]

pub returns-clause-completed : goal.returns-clause-completed
returns-clause-completed t c =
    let a = c.args in
    let l = c.loop-v in
    ended a.self.now a.at a.z.now c.sieve_at.new.work
    (marked a.self.now a.at a.z.now a.work.now c.requires (omega arith) c.sieve_at.new.work c.sieve_at.ensures) (omega arith)
    c.add_sums.new.work l.z l.work l.v c.value_end-end.result c.value_end-end.ensures (omega arith) l.invariant l.z
