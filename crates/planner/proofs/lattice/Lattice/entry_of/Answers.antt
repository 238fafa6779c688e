-- `Lattice::entry_of` meets its contract: the first of the row's residues is its own, and c is how often that occurs (`entry_is`).
use Rattle.std.proofs.Common.{refl, ◌∙◌, ap, arith, length, get_or}
use lib.ListN.{length-map}
use Rattle.rank1.specs.Named.{plan_number}
use Rattle.rank1.specs.Sums.{mirrors_under}
use Rattle.planner.specs.Lists.{residue_by}
use Rattle.planner.proofs.sums.SumSteps.{entry_is, counted}
use Rattle.planner.proofs.lattice.Lattice.entry_of.Goals as goal

pub returns : goal.returns
returns c =
    let lattice = c.args.self.now in
    let plan = plan_number lattice.rows.plan in
    let k = c.args.row.now in
    let out = c.residues_under-residues in
    let copies = c.occurrences_of-copies in
    entry_is plan lattice.n lattice.z.now k out.result.now out.ensures.0 (get_or out.result.now 0 0) copies.result c.requires.modulus.low c.requires.few_axes
    (omega (arith, out.ensures.1, ap length out.ensures.0, length-map (mirrors_under plan k) (residue_by lattice))) refl
    (copies.ensures ∙ counted (get_or out.result.now 0 0) out.result.now)
