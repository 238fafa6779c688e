-- `Lattice::integrates` meets its contract: the lattice is ready for each row of the list, and `all` is whether each keeps the rule.
use Rattle.std.proofs.Common.{rules, tests, ◌≢◌, length}
use Rattle.rank1.specs.Index.{zero_row}
use Rattle.rank1.specs.Rule.{Integrates}
use Rattle.planner.specs.Lists.{residue_by}
use Rattle.planner.proofs.RowLaws.{all-decided}
use Rattle.planner.proofs.mirrors.MirrorResidues.{ready-served}
use Rattle.planner.proofs.lattice.Lattice.integrates.Goals as goal

pub all-requires-clause-callable : goal.all-requires-clause-callable
all-requires-clause-callable c = ready-served c.args.self.now (search rules) (λ k q h. search (rules, tests)) (λ k ready. search (rules, ready))

pub returns : goal.returns
unfolding Integrates
returns c =
    all-decided c.args.self.now.rows (search rules) c.all.ensures.ran (λ k. k ≢ zero_row (length k) → residue_by c.args.self.now k ≢ 0)
    (λ k f h. search (rules, tests)) (λ k f h. search (rules, tests))
