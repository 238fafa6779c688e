-- `sieve::add_table`: the table of t stands behind the others (`tables_more`).
use mathlib.Core.Path.{sym, ◌∙◌, subst}
use Prim.Native.Nat.{ℕ, ◌+◌, ◌-◌}
use native.Mathlib.Omega.{arith}
use lib.ListN.{set}
use Rattle.std.proofs.Common.{Some}
use Rattle.planner.specs.Sieve.{TablesTo}
use Rattle.planner.proofs.sieve.Parts.{cut-size, pasted}
use Rattle.planner.proofs.sieve.SolutionLaws.{tables_more}
use Rattle.planner.proofs.sieve.add_table.Goals as goal

pub returns : goal.returns
returns c =
    let a = c.args in
    let M = a.modulus.now in
    let w = c.from in
    let k = a.at + w.result - a.at in
    let new = c.set_solutions-step in
    let part = new.new.solutions in
    subst (λ (x : ℕ). TablesTo a.n (a.at + x) (record { solutions = pasted a.at k M.solutions part; solved = set M.solved a.t (Some record { start = a.at; step = new.result }) })) (sym w.ensures)
    (tables_more a.n a.t a.at k new.result M part (omega arith) (omega arith) c.requires.tabulable.short (omega (arith, w.ensures)) (omega (arith, w.ensures))
    (new.auto.solutions ∙ cut-size a.at (a.at + w.result) M.solutions (omega arith))
    new.ensures c.requires.tables_to)
