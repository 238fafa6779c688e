-- `input::fill` meets its contract. What a read gave stands behind what was read before (read_behind), and the reader gave both.
use Rattle.std.proofs.Common.{◌≡◌, ℕ, ◌+◌, ◌-◌, ◌≤◌, List, ◌++◌, rules, length, take, drop, sym, ap, ◌∙◌, subst, le_refl, drop_at, length-take-le}
use Rattle.std.proofs.lemmas.Slice.{take-put_mid_below}
use Rattle.std.specs.Io.KnownBytes.{Consumes}
use Rattle.std.proofs.KnownBytes.{Consumes-trans, Consumes-kept}
use borrow.Rule.Slice.PartMut.{put_mid, post_of}
use lib.Seq.{take-add, take-append-le}
use Rattle.input.proofs.fill.Goals as goal
use Rattle.input.proofs.fill.Goals.{in-Ok, in-Err+else-ne}

read_behind : (a k n : ℕ) (xs ys : List ℕ) → a ≤ length xs → n ≤ length ys → take a xs ++ take n ys ≡ take (a + n) (put_mid a k xs ys)
read_behind a k n xs ys h l =
    let new = put_mid a k xs ys in
    let after = post_of a k xs in
    ap (λ (s : List ℕ). take a xs ++ s) (sym (ap (take n) (drop_at (take a xs) (ys ++ after) a (length-take-le a xs h)) ∙ take-append-le n ys after l))
    ∙ ap (λ (s : List ℕ). s ++ take n (drop a new)) (sym (take-put_mid_below a k xs ys a (le_refl a) h))
    ∙ sym (take-add a n new)

pub loop-preserved : goal.loop-preserved
loop-preserved g c =
    let from = c.loop.got in
    let room = length c.loop.out - from in
    let kept = take-put_mid_below from room c.loop.out c.read.new.buf from (le_refl from) c.loop.invariant.0 in
    elim c.match-read.branch [
      | in-Ok w ↦ (
        search rules,
        search rules,
        rw w.got-is (subst (Consumes _ _) (read_behind from room w.in-Ok.size c.loop.out c.read.new.buf c.loop.invariant.0 w.in-Ok.ensures.bound.0)
            (Consumes-trans _ _ _ _ _ c.loop.invariant.2 w.in-Ok.ensures.bytes.0)),
      )
      | in-Err+else-ne w ↦ (
        search rules,
        search rules,
        rw w.got-is (subst (Consumes _ _) (sym kept) (Consumes-kept _ _ _ _ c.loop.invariant.2 w.in-Err.ensures.bytes)),
      )
    ]
