-- `lists::nonzero_mask`: the bits set so far, and the components still to come that are not 0, make up those of the components that count.
use Prim.Native.Nat.{◌≤◌, ◌<◌}
use native.Mathlib.Omega.{arith}
use borrow.Author.Rules.{rules}
use lib.IntN.{pos}
use lib.ListN.{length, get_or, take, length-take}
use Rattle.lists.proofs.MaskLaws.{bits_zero, nonzeros_zero, nonzeros_other, mask_ones, mask_lt, pow_step}
use Rattle.lists.proofs.nonzero_mask.Goals as goal
use Rattle.lists.proofs.nonzero_mask.Goals.{then-x-ne0, else-x-ne0}

pub loop-j-preserved : goal.loop-j-preserved
loop-j-preserved c =
    let l = c.loop-j in
    let k = take c.min.result c.args.row.now in
    let few : length k ≤ 6 = omega (arith, length-take c.min.result c.args.row.now, c.min.ensures) in
    let more : l.j < length k = omega arith in
    elim c.if-x-ne0.branch [
      | then-x-ne0 w ↦ rw w.mask-is (
        search rules,
        mask_lt l.mask l.j (omega arith) l.invariant.1,
        (let other = nonzeros_other k l.j more (search rules) in omega (arith, mask_ones l.mask l.j (omega arith) l.invariant.1, other)),
      )
      | else-x-ne0 w ↦ rw w.mask-is (
        search rules,
        omega (arith, pow_step l.j),
        (let zero = nonzeros_zero k l.j more (bits_zero (get_or k l.j (pos 0)) (search rules) w.if-x-ne0.false) in omega (arith, zero)),
      )
    ]
