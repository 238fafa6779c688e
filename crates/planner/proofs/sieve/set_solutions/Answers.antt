-- `sieve::set_solutions`: c is the residue of -t v, so v is a solution for it (`next_solves`).
use mathlib.Core.Path.{◌≡◌, refl, sym, ◌∙◌, ap}
use Prim.Native.Nat.{ℕ, ◌+◌, ◌*◌, ◌%◌, zero-le}
use native.Mathlib.Nat.{mul-one, add-mod-mod, mod-lt, mul-mod_left}
use native.Mathlib.Omega.{arith}
use mathlib.Core.List.{◌++◌}
use lib.ListN.{length, take, drop}
use lib.Seq.{length-take-le}
use Rattle.planner.proofs.sieve.SolutionLaws.{solutions_none, solutions_more, negative_sum, zero_solves, next_solves}
use Rattle.planner.proofs.sieve.set_solutions.Goals as goal
use Rattle.planner.proofs.sieve.set_solutions.Goals.{After-negative-down}

-- what t lacks
lacks : (c : After-negative-down) → (c.negative-down.result + c.args.t % c.args.n) % c.args.n ≡ 0
lacks c =
    let p = c.args.t % c.args.n in
    negative_sum c.args.n p c.negative-down.result (omega (arith, mod-lt c.args.t c.requires.0.low)) c.negative-down.ensures.0

pub loop-v-init : goal.loop-v-init
loop-v-init c =
    let n = c.args.n in
    let t = c.args.t in
    let down = c.negative-down.result in
    let end = c.from-end.result in
    let front : length (take end c.args.solutions.now) ≡ n = length-take-le end c.args.solutions.now (omega arith) ∙ c.from-end.ensures in
    let rest = drop end c.args.solutions.now in (
      omega arith,
      c.requires.0.low,
      c.negative-down.ensures.1,
      ap (λ (x : ℕ). (down + x) % n) (mul-one t) ∙ sym (add-mod-mod down t n) ∙ lacks c,
      solutions_more n t (c.fill.new.self ++ rest) 0 0 c.requires.0.low zero-le (zero_solves n t)
          (solutions_none n t c.fill.new.self rest (c.fill.ensures.len ∙ front) (λ v l. c.fill.ensures.clones v 0 (omega arith) refl)),
    )

pub loop-v-preserved : goal.loop-v-preserved
loop-v-preserved c =
    let l = c.loop-v in
    let n = c.args.n in
    let t = c.args.t in (
      omega arith,
      omega arith,
      c.sum_of-c.ensures.1,
      ap (λ (x : ℕ). (x + t * (l.v + 1)) % n) c.sum_of-c.ensures.0 ∙ next_solves n t l.c l.v c.negative-down.result l.invariant.3 (lacks (goal.at.loop-v-preserved c).After-negative-down),
      rw c.from.ensures (solutions_more n t l.solutions l.c l.v l.invariant.2 l.invariant.1 l.invariant.3 l.invariant.4),
    )

pub returns : goal.returns
returns c =
    record {
      table = c.loop-v.invariant.4;
      some = c.requires.0.low;
      few = omega arith;
      period = mul-mod_left c.args.t c.args.n;
    }
