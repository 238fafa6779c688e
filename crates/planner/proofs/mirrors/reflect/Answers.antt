-- `mirrors::reflect`: the first t entries stand once more behind the first count, with the step added (`Repeated`).
use Rattle.std.proofs.Common.{◌≡◌, sym, subst, ℕ, ◌+◌, ◌<◌, ◌%◌, arith, get_or}
use Rattle.planner.proofs.mirrors.MirrorResidues.{repeated_none, repeated_at, repeated_more}
use Rattle.planner.proofs.mirrors.reflect.Goals as goal

pub loop-t-init : goal.loop-t-init
loop-t-init c =
    let a = c.args in
    repeated_none (λ r. (r + a.step) % a.n) a.out.now a.count (omega arith)

pub sum_of-requires : goal.sum_of-requires
sum_of-requires c =
    let a = c.args in
    let l = c.loop-t in
    let same : get_or l.out l.t 0 ≡ get_or a.out.now l.t 0 = repeated_at (λ r. (r + a.step) % a.n) a.out.now a.count (omega arith) l.out l.t c.loop-t-test.true l.invariant in
    (subst (λ (i : ℕ). i < a.n) (sym same) (c.requires.by_index l.t c.loop-t-test.true), c.requires.count_in_bounds.1, c.requires.count_in_bounds.2)

pub loop-t-preserved : goal.loop-t-preserved
loop-t-preserved c =
    let a = c.args in
    let l = c.loop-t in
    repeated_more (λ r. (r + a.step) % a.n) a.out.now a.count (omega arith) l.out l.t c.loop-t-test.true l.invariant c.sum_of.result c.sum_of.ensures.0

pub returns : goal.returns
returns c =
    let end : c.loop-t.t ≡ c.args.count = omega arith in
    rw end at c.loop-t.invariant.front
