-- `lattice::Lattice::mirror_residues`: the residues of the mirrors that differ from the row from axis j on stand at the front
-- (`Doubling`); a turn takes one axis more, by `doubling_zero` or `doubling_other`.
use Rattle.std.proofs.Common.{◌≡◌, ◌∙◌, ap, subst, List, ℕ, suc, ◌+◌, ◌*◌, ◌-◌, ◌<◌, arith, ℤ, pos, get_or}
use Rattle.lists.proofs.MaskLaws.{bits_zero, bits_other}
use Rattle.planner.specs.Sizes.{places}
use Rattle.planner.specs.Inner.{place}
use Rattle.planner.proofs.products.ProductLaws.{small_fits, component_small}
use Rattle.planner.proofs.mirrors.MirrorResidues.{minus_is, Doubling, doubling_start, doubling_half, doubling_below, doubling_zero, doubling_other, turned_product}
use Rattle.planner.proofs.lattice.Lattice.mirror_residues.Goals as goal

pub loop-j-init : goal.loop-j-init
loop-j-init c = doubling_start c.requires c.args.out.now c.residue.result (omega arith) c.residue.ensures.0

-- the axis below j
below : {n : ℕ} {z : List ℕ} {k : List ℤ} {out : List ℕ} {count : ℕ} (j : ℕ) → 0 < j → Doubling n z k out count j → Doubling n z k out count (suc (j - 1))
below {n} {z} {k} {out} {count} j some s =
    let next : j ≡ suc (j - 1) = omega arith in
    subst (Doubling n z k out count) next s

pub reflect-requires-clause-count_in_bounds : goal.reflect-requires-clause-count_in_bounds
reflect-requires-clause-count_in_bounds c =
    let s = below c.loop-j.j c.loop-j-test.true c.loop-j.invariant in
    (doubling_half c.requires s, c.sum_of.ensures.1, c.requires.modulus.high)

pub reflect-requires-clause-by_index : goal.reflect-requires-clause-by_index
reflect-requires-clause-by_index c = doubling_below c.requires (below c.loop-j.j c.loop-j-test.true c.loop-j.invariant)

pub loop-j-preserved-then-x-ne0 : goal.loop-j-preserved-then-x-ne0
loop-j-preserved-then-x-ne0 c =
    let l = c.args.self.now in
    let k = c.args.row.now in
    let j = c.loop-j.j - 1 in
    let x = get_or k j (pos 0) in
    let s = below c.loop-j.j c.loop-j-test.true c.loop-j.invariant in
    let small = component_small l.n l.z.now k l.products.now c.requires.prepared j in
    let product = ap (λ (i : ℕ). get_or l.products.now (j * places + i) 0) (c.place_of.ensures.0 ∙ ap place (minus_is x small)) ∙ turned_product c.requires s in
    doubling_other c.requires s c.reflect.new.out _ c.sum_of.result (bits_other x c.if-x-ne0.true) (omega (arith, s.room)) product c.sum_of.ensures.0 c.reflect.ensures

pub loop-j-preserved : goal.loop-j-preserved
loop-j-preserved c =
    let l = c.args.self.now in
    let j = c.loop-j.j - 1 in
    let x = get_or c.args.row.now j (pos 0) in
    let small = component_small l.n l.z.now c.args.row.now l.products.now c.requires.prepared j in
    doubling_zero c.requires (below c.loop-j.j c.loop-j-test.true c.loop-j.invariant) (bits_zero x (small_fits x small) c.if-x-ne0.false)
