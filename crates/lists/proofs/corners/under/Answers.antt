-- `corners::under` meets its contract: the two rows are as long as each other, and each component of the one is up to that of the other.
use Rattle.std.proofs.Common.{rules, tests, ◌≡◌, refl, ◌∙◌, ap, List, [], ◌∷◌, Bool, ◌&&◌, ℤ, length, zip, arith}
use Rattle.std.specs.List.{list_all}
use Rattle.std.proofs.lemmas.Iterator.{YieldsList-from_slice, YieldsList-from_zip}
use Rattle.std.proofs.lemmas.Iterator.Search.{all_from_yields_List}
use Rattle.rank1.specs.Corners.{from_zero, under}
use Rattle.rank1.proofs.UnderLaws.{under_apart}
use Rattle.lists.proofs.corners.under.Goals as goal

-- component by component
under_zip : (k h : List ℤ) → length k ≡ length h → list_all (λ p. from_zero p.0 p.1) (zip k h) ≡ under k h
under_zip [] [] e = refl
under_zip [] (y ∷ h) e = absurd (omega arith)
under_zip (x ∷ k) [] e = absurd (omega arith)
under_zip (x ∷ k) (y ∷ h) e = ap (λ (b : Bool). from_zero x y && b) (under_zip k h (omega arith))

pub returns-then-row-corner : goal.returns-then-row-corner
returns-then-row-corner c =
    let k = c.args.row.now in
    let h = c.args.corner.now in
    all_from_yields_List (λ p. from_zero p.0 p.1) c.all.new.self _ c.all.result c.all.ensures.ran
    (YieldsList-from_zip {s = c.zip.result} (YieldsList-from_slice k (search rules)) (YieldsList-from_slice h (search rules))) (λ x b q t. search (rules, tests))
    ∙ under_zip k h c.if-row-corner.true

pub returns-else-row-corner : goal.returns-else-row-corner
returns-else-row-corner c =
    let apart = under_apart c.args.row.now c.args.corner.now c.if-row-corner.false in
    search (rules, apart)
