-- `lattice::Lattice::residues_under`: under a plan that takes no mirrors the row's own residue stands alone (`take-one`).
use Rattle.std.proofs.Common.{sym, ◌∙◌, ap, [], ◌∷◌, length, map, ℕ, arith, Bool, cond}
use Rattle.rank1.specs.Index.{mirrors}
use Rattle.planner.specs.Lists.{residue_by}
use Rattle.planner.proofs.mirrors.MirrorResidues.{take-one}
use Rattle.planner.proofs.lattice.Lattice.residues_under.Goals as goal

pub returns : goal.returns
returns c =
    let k = c.args.row.now in
    let alone = take-one c.args.out.now c.residue.result (omega arith) in
    let none = sym c.if-takes_mirrors.false ∙ c.takes_mirrors.ensures in (
      alone
          ∙ ap (λ (r : ℕ). r ∷ []) c.residue.ensures.0
          ∙ ap (λ (b : Bool). map (residue_by c.args.self.now) (cond b (mirrors k) (k ∷ []))) none,
      omega (arith, ap length alone),
      omega (arith, ap length alone),
    )
