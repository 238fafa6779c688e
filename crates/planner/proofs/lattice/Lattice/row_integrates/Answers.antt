-- `Lattice::row_integrates` meets its contract: the mask's ones are the row's non-zero components, which all count.
use Rattle.std.proofs.Common.{rules, tests, ◌≡◌, sym, ◌∙◌, ap, not}
use mathlib.Core.Bool.{true≢false}
use borrow.Author.Tests.{eq-eqb}
use lib.Count.{ones}
use Rattle.rank1.specs.Index.{nonzeros}
use Rattle.lists.proofs.MaskLaws.{on_axes_lem, mask_some}
use Rattle.planner.proofs.lattice.Lattice.row_integrates.Goals as goal
use Rattle.planner.proofs.lattice.Lattice.row_integrates.Goals.{After-nonzero_mask}

bits : (c : After-nonzero_mask) → ones c.nonzero_mask.result ≡ nonzeros c.args.row.now
bits c = c.nonzero_mask.ensures.0 ∙ ap nonzeros (on_axes_lem c.args.row.now c.requires.few_axes)

pub returns-else-nonzero_mask-eq0 : goal.returns-else-nonzero_mask-eq0
returns-else-nonzero_mask-eq0 c =
    let some = mask_some c.args.row.now c.nonzero_mask.result (bits (goal.at.returns-else-nonzero_mask-eq0 c).After-nonzero_mask) c.if-nonzero_mask-eq0.false in
    record {
      yes = λ e _ z. true≢false (sym e ∙ ap not (eq-eqb c.residue.result 0 (c.residue.ensures.0 ∙ z)));
      no = λ e h. h some (sym c.residue.ensures.0 ∙ search (rules, tests, e));
    }
