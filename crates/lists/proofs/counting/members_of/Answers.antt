-- `counting::members_of` meets its contract: as many as the mirrors, which are at most 64.
use mathlib.Core.Path.{sym, ◌∙◌, ap}
use mathlib.Core.List.{List}
use Prim.Native.Nat.{◌≤◌}
use native.Mathlib.Omega.{arith}
use borrow.Author.Rules.{rules}
use lib.IntN.{ℤ}
use lib.ListN.{length, length-take}
use Rattle.rank1.specs.Index.{mirrors}
use Rattle.rank1.specs.Named.{plan_number}
use Rattle.rank1.proofs.SumLaws.{under-mirrors, under-length}
use Rattle.lists.specs.Rows.{most_axes, on_axes}
use Rattle.lists.proofs.counting.members_of.Goals as goal

-- there are at most 64 mirrors
few : (k : List ℤ) → length (mirrors (on_axes k)) ≤ 64
few k = under-length 2 (on_axes k) (omega (arith, length-take most_axes k))

pub overflow_cast-result : goal.overflow_cast-result
overflow_cast-result c = omega (arith, c.mirror_count.ensures, few c.args.row.now)

pub returns-in-A : goal.returns-in-A
returns-in-A c =
    let k = on_axes c.args.row.now in
    let many : 2 ≤ plan_number c.args.plan = search rules in (
      c.mirror_count.ensures ∙ ap length (sym (under-mirrors (plan_number c.args.plan) k many)),
      omega (arith, c.mirror_count.ensures, few c.args.row.now),
    )
