-- `table::Differences::takes`: a row of the table that is h is found (`row-found`).
use mathlib.Core.Path.{sym, ◌∙◌, ap}
use mathlib.Core.Logic.{inr}
use Rattle.std.proofs.lemmas.Bool.Decides.{Decides-int_eq}
use Rattle.std.proofs.lemmas.Slice.Eq.{slice_eq-Decides}
use Rattle.planner.specs.Inner.{row_at}
use Rattle.planner.proofs.table.TableLaws.{row-found}
use Rattle.planner.proofs.table.Differences.takes.Goals as goal

pub returns-in-Some : goal.returns-in-Some
returns-in-Some c = λ w.
    let h = c.args.h.now in
    let t = c.args.self.now in
    let row = c.row_at in
    let same = (slice_eq-Decides Decides-int_eq row.result.now h c.eq.result c.eq.ensures).0 w in (
      c.requires.within,
      inr (row-found t c.in-Some.i h (t.known c.args.p c.in-Some.i c.in-Some.is) (sym (row.ensures.0 ∙ ap (row_at t.d t.rows) c.from.ensures) ∙ same)),
    )
