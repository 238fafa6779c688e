-- `Differences::add_pair`: a row with itself gives nothing (`grown_same`); of two that differ the table has the difference (`grown-added`).
use mathlib.Core.Path.{sym, ◌∙◌, subst}
use mathlib.Core.Bool.{true≢false}
use mathlib.Core.List.{List}
use lib.IntN.{ℤ}
use Rattle.std.proofs.lemmas.Bool.Decides.{Decides-int_eq}
use Rattle.std.proofs.lemmas.Slice.Eq.{slice_eq-Decides}
use Rattle.planner.specs.Sizes.{largest_size}
use Rattle.planner.specs.Inner.{Covered}
use Rattle.planner.specs.Table.{EitherSign}
use Rattle.planner.proofs.differences.MinusLaws.{covered_minus}
use Rattle.planner.proofs.differences.PairLaws.{grown_same, grown-added}
use Rattle.planner.proofs.table.Differences.add_pair.Goals as goal

pub returns-then-eq : goal.returns-then-eq
returns-then-eq c = grown_same ((slice_eq-Decides Decides-int_eq c.args.s.now c.args.t.now c.eq.result c.eq.ensures).0 c.if-eq.true)

pub set_upright-requires : goal.set_upright-requires
set_upright-requires c =
    subst (Covered largest_size) (sym c.set_minus.ensures) (covered_minus c.args.s.now c.args.t.now c.requires.left_small c.requires.right_small)

pub returns : goal.returns
returns c =
    grown-added
    (λ same. true≢false (sym ((slice_eq-Decides Decides-int_eq c.args.s.now c.args.t.now c.eq.result c.eq.ensures).1 same) ∙ c.if-eq.false))
    (subst (λ (g : List ℤ). EitherSign g c.set_upright.new.h) c.set_minus.ensures c.set_upright.ensures.which) c.add.ensures
