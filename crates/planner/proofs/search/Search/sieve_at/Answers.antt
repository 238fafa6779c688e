-- `Search::sieve_at`: the first axis has a sieve of its own, which takes the steps for periods; behind it the sieve sets the marks
-- (sifted_behind).
use Prim.Native.Nat.{◌-◌}
use native.Mathlib.Omega.{arith}
use Rattle.std.proofs.Common.{rules}
use Rattle.planner.proofs.sieve.FirstSieve.{periods}
use Rattle.planner.proofs.search.SiftLaws.{sifted_behind}
use Rattle.planner.proofs.search.Search.sieve_at.Goals as goal

pub returns : goal.returns
returns c =
    let a = c.args in
    sifted_behind a.self.now a.at a.work.now (a.at - 1) c.sieve.new.work
    (omega arith) c.sieve.ensures.only c.sieve.ensures.sieved

pub sieve_first-requires : goal.sieve_first-requires
sieve_first-requires c =
    let p = c.requires in
    let s = c.args.self.now in
    record {
      modulus = p.modulus;
      short = p.short;
      periods = periods s.n s.modulus.now p.solved;
      inside = search rules;
    }

pub sieve-requires : goal.sieve-requires
sieve-requires c = c.requires.sievable (c.args.at - 1) (omega arith)
