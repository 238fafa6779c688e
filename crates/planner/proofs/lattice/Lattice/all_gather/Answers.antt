-- `Lattice::all_gather` meets its contract: the lattice is ready for each row of the list, and `all` is whether each passes.
use Rattle.std.proofs.Common.{rules, tests, map, pos}
use Rattle.rank1.specs.Named.{plan_number}
use Rattle.rank1.specs.Sums.{gathers}
use Rattle.planner.proofs.RowLaws.{all-every}
use Rattle.planner.proofs.mirrors.MirrorResidues.{ready-served}
use Rattle.planner.proofs.lattice.Lattice.all_gather.Goals as goal

pub all-requires-clause-callable : goal.all-requires-clause-callable
all-requires-clause-callable c = ready-served c.args.self.now (search rules) (λ k q h. search (rules, tests)) (λ k ready. search (rules, ready))

pub returns : goal.returns
returns c =
    let lattice = c.args.self.now in
    all-every lattice.rows (search rules) c.all.ensures.ran (gathers (plan_number lattice.rows.plan) lattice.n (map pos lattice.z.now) c.args.sums.now)
    (λ k f h. search (rules, tests)) (λ k f h. search (rules, tests))
