-- `differences::set_minus`: the components below j are set (`minus_back`: what is written is read back).
use mathlib.Core.Path.{◌≡◌, sym, ◌∙◌}
use native.Mathlib.Omega.{arith}
use borrow.Author.Count.{below_more}
use lib.IntN.{pos, ◌-ℤ◌}
use lib.ListN.{get_or, set}
use lib.Seq.{ext_get_or, get_or-set_same, get_or-set_other}
use Rattle.rank1.specs.Differences.{minus}
use Rattle.rank1.proofs.DifferenceLaws.{minus_at, minus-length}
use Rattle.planner.proofs.differences.MinusLaws.{minus_back}
use Rattle.planner.proofs.differences.set_minus.Goals as goal

pub loop-j-preserved : goal.loop-j-preserved
loop-j-preserved c =
    let l = c.loop-j in
    let s = c.args.s.now in
    let t = c.args.t.now in
    let x = get_or s l.j (pos 0) in
    let y = get_or t l.j (pos 0) in
    rw (minus_back x y (c.requires.left_small.covered l.j) (c.requires.right_small.covered l.j))
    (below_more (λ i. get_or (set l.h l.j (x -ℤ y)) i (pos 0) ≡ get_or s i (pos 0) -ℤ get_or t i (pos 0)) l.j
    (λ i h. get_or-set_other l.h l.j i (x -ℤ y) (pos 0) (λ q. omega arith) ∙ l.invariant i h)
    (get_or-set_same l.h l.j (x -ℤ y) (pos 0) (omega arith)))

pub returns : goal.returns
returns c =
    let l = c.loop-j in
    let s = c.args.s.now in
    let t = c.args.t.now in
    ext_get_or (pos 0) l.h (minus s t) (omega (arith, minus-length s t (c.requires.left ∙ sym c.requires.right)))
    (λ i h. l.invariant i (omega arith) ∙ sym (minus_at s t i))
