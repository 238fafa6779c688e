-- `lattice::Lattice::residue`: the sum of the entries passed, with the residue of what is left of the row, has the residue of the
-- row (`row-turn`).
use Rattle.std.proofs.Common.{◌≡◌, ℕ, ◌*◌, ◌+◌, ◌∙◌, ap, arith, get_or, pos, mod-lt}
use Rattle.planner.specs.Sizes.{places}
use Rattle.planner.specs.Inner.{place}
use Rattle.planner.proofs.products.ProductLaws.{read_back, component_small, entry_is, entry_lt, row-turn, row_finished}
use Rattle.planner.proofs.lattice.Lattice.residue.Goals as goal

pub loop-j-preserved : goal.loop-j-preserved
loop-j-preserved c =
    let n = c.args.self.now.n in
    let z = c.args.self.now.z.now in
    let table = c.args.self.now.products.now in
    let k = c.args.row.now in
    let p = c.requires in
    let j = c.loop-j.j in
    let x = get_or k j (pos 0) in
    let entry : c.from-sum.result ≡ get_or table (j * places + place x) 0 =
    c.from-sum.ensures ∙ ap (λ (i : ℕ). get_or table (j * places + i) 0) (c.place_of.ensures.0 ∙ ap place (read_back x (component_small n z k table p.prepared j)))
    in
    let small = entry_lt n z k table p.prepared j j p.modulus.low c.loop-j-test.true in (
      omega (arith, entry, small, p.modulus.high),
      row-turn k z n c.loop-j.sum c.from-sum.result j p.modulus.low (omega (arith, p.short, c.loop-j-test.true)) c.loop-j-test.true (entry ∙ entry_is n z k table p.prepared j j c.loop-j-test.true) ∙ c.loop-j.invariant.1,
    )

pub returns : goal.returns
returns c =
    let n = c.args.self.now.n in
    rw c.from.ensures (
      row_finished c.args.row.now c.args.self.now.z.now n c.loop-j.sum c.loop-j.j c.loop-j-test.false ∙ c.loop-j.invariant.1,
      mod-lt c.loop-j.sum c.requires.modulus.low,
    )
