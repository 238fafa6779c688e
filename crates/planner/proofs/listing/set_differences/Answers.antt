-- `listing::set_differences`: the table is sound, what it marks is right for the list, and its runs are its rows, with bounds that rise; no component is
-- larger than the larger of the largest of the list and of the table.
use mathlib.Core.Path.{sym, ◌∙◌, subst}
use Prim.Native.Nat.{ℕ, ◌*◌, ◌≤◌}
use native.Mathlib.Omega.{arith}
use Rattle.planner.specs.Sizes.{axes, room, largest_size, slot_count}
use Rattle.planner.specs.Lists.{rows_in}
use Rattle.planner.specs.Table.{rows_found, FlipMarks}
use Rattle.planner.specs.Runs.{Arranged}
use Rattle.planner.specs.Stage.{rule_of}
use Rattle.planner.proofs.products.ProductLaws.{covered_zeros, covered_wider}
use Rattle.std.proofs.Common.{None}
use Rattle.std.proofs.lemmas.Option.{none-some}
use Rattle.planner.proofs.Writing.{unwritten}
use Rattle.planner.proofs.listing.set_differences.Goals as goal

pub invariant_of-found : goal.invariant_of-found
invariant_of-found c = record {
  some_axes = c.args.rows.now.valid.some_axes;
  few_axes = c.args.rows.now.valid.few_axes;
  few = omega arith;
  known = λ p i e. absurd (none-some i (sym (unwritten None slot_count p) ∙ e));
  small = covered_zeros largest_size (room * axes) (omega arith);
}

pub returns-clause-made : goal.returns-clause-made
returns-clause-made c =
    let a = c.args in
    let list = a.rows.now in
    let t = c.fill.new.self in
    let made = c.fill.ensures in
    let flips = c.set_flips in
    let runs = c.arrange-tail.ensures in
    let rows = c.largest in
    let found = c.largest-2 in
    let top = c.max.result in
    let narrow : top ≤ largest_size = omega (arith, c.max.ensures, rows.ensures.narrow, found.ensures.narrow) in
    record {
      covers = covered_wider rows.result top list.numbers.now (omega (arith, c.max.ensures)) narrow rows.ensures;
      flips_right = subst (λ (d : ℕ). FlipMarks d (rule_of list) flips.new.flips) made.axes (flips.ensures (rows_in list) made.found);
      differences = rows_found t;
      sound = made.found.sound;
      arranged = subst (λ (d : ℕ). Arranged (rows_found t) d c.arrange-tail.new.components c.arrange-tail.new.bounds) made.axes runs.arranged;
      small =
          runs.covers top (covered_wider found.result top t.rows (omega (arith, c.max.ensures)) narrow found.ensures)
          (covered_wider 0 top a.list.now.components (omega arith) narrow c.requires);
      tails = runs.short;
    }

pub invariant_of-list : goal.invariant_of-list
invariant_of-list c = record { bounded = c.arrange-tail.ensures.arranged.bounded }
