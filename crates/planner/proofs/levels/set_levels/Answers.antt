-- `planner::levels::set_levels` meets its contract. The invariant: the levels before j are set.
use mathlib.Core.Path.{◌≡◌, ap, ◌∙◌}
use mathlib.Core.List.{List}
use Prim.Native.Nat.{ℕ, ◌+◌, ◌*◌, ◌-◌}
use native.Mathlib.Omega.{arith}
use Rattle.rank1.specs.Named.{plan_number}
use lib.IntN.{ℤ}
use Rattle.planner.specs.declared.tables.ListTables.{ListTables}
use Rattle.planner.specs.Runs.{Bounds}
use Rattle.planner.specs.Sizes.{level_room}
use Rattle.planner.proofs.levels.LevelLaws.{levels-more, valid_size}
use Rattle.planner.proofs.runs.RunLaws.{Bounds-prop}
use Rattle.planner.proofs.levels.set_levels.Goals as goal

-- writing the levels and their sizes leaves the other tables, and what is shown anew of the bounds is what was known of them
others_stay :
    (T old : ListTables) (levels : List ℤ) (sizes : List ℕ) (b : Bounds T.bounds) → T ≡ record old { levels = T.levels; sizes = T.sizes }
    → record T { levels = levels; sizes = sizes; bounded = b } ≡ record old { levels = levels; sizes = sizes }
others_stay T old levels sizes b e =
    ap (λ (s : Bounds T.bounds). record T { levels = levels; sizes = sizes; bounded = s }) (Bounds-prop T.bounds b T.bounded)
    ∙ ap (λ (S : ListTables). record S { levels = levels; sizes = sizes }) e

pub loop-j-preserved : goal.loop-j-preserved
loop-j-preserved c =
    let a = c.args in
    let rows = a.rows.now in
    let l = c.loop-j in
    let v = rows.valid in
    let e : l.j * level_room + level_room - l.j * level_room ≡ level_room = omega arith in (
      levels-more rows.d a.top l.j rows.numbers.now l.list.levels l.list.sizes (l.j * level_room + level_room - l.j * level_room)
          c.keep_ending.result c.keep_ending.new.out e (omega (arith, v.few_axes)) (omega arith) (omega arith)
          (valid_size (plan_number rows.plan) rows.d rows.numbers.now v) c.requires.covered c.keep_ending.auto.out
          c.keep_ending.ensures l.invariant.0,
      others_stay l.list c.args.list.now _ _ _ l.invariant.1,
    )
