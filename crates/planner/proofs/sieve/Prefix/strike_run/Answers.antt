-- `sieve::Prefix::strike_run`: the run is a part of the tables (`run-ready`), and what it strikes is forbidden (`run_bars`).
use mathlib.Core.Path.{refl}
use native.Mathlib.Omega.{arith}
use Rattle.planner.proofs.sieve.SieveLaws.{run-ready, run_bars, table-cut}
use Rattle.planner.proofs.sieve.Prefix.strike_run.Goals as goal

pub strike-requires : goal.strike-requires
strike-requires c =
    let a = c.args in
    record {
      parts =
          run-ready _ a.self.now.before a.self.now.list.now a.self.now.products.now a.self.now.sums.now a.self.now.modulus.now c.requires.sievable (omega arith) (omega arith) (omega arith) c.requires.t_lt_lasts.0
          c.run_start-begin.result c.run_start-end.result c.run_start-begin.ensures c.run_start-end.ensures refl refl refl;
      solved =
          rw c.in-Some.field-0-is
          (table-cut a.self.now.n a.t c.from.result c.in-Some.field-0 a.self.now.modulus.now.solutions c.from.ensures (c.requires.sievable.solved a.t c.in-Some.field-0 c.requires.t_lt_lasts.0 c.in-Some.is));
      inside = c.requires.t_lt_lasts.1;
    }

pub returns-then-begin-end : goal.returns-then-begin-end
returns-then-begin-end c =
    let a = c.args in
    run_bars _ a.self.now.before a.self.now.list.now a.self.now.products.now a.self.now.sums.now a.self.now.modulus.now c.requires.sievable (omega arith) (omega arith) (omega arith) c.requires.t_lt_lasts.0
    c.run_start-begin.result c.run_start-end.result c.run_start-begin.ensures c.run_start-end.ensures refl refl refl a.struck.now c.strike.new.struck c.strike.ensures

-- the table of solutions stands among the numbers
pub overflow_add-stop : goal.overflow_add-stop
overflow_add-stop c =
    rw c.in-Some.field-0-is (omega (arith, (c.requires.sievable.solved c.args.t c.in-Some.field-0 c.requires.t_lt_lasts.0 c.in-Some.is).inside))

pub offset_bounds-modulus-start : goal.offset_bounds-modulus-start
offset_bounds-modulus-start c =
    rw c.in-Some.field-0-is (omega (arith, (c.requires.sievable.solved c.args.t c.in-Some.field-0 c.requires.t_lt_lasts.0 c.in-Some.is).inside))

pub slice_bounds-run-end-then-begin-end-3 : goal.slice_bounds-run-end-then-begin-end-3
slice_bounds-run-end-then-begin-end-3 c =
    rw c.in-Some.field-0-is (omega (arith, (c.requires.sievable.solved c.args.t c.in-Some.field-0 c.requires.t_lt_lasts.0 c.in-Some.is).inside))
