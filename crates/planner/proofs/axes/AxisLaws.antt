-- Axes that can change places: how the test of two axes finds that the list stays itself, and how such axes are marked.
use mathlib.Core.Path.{◌≡◌, sym, ap, ◌∙◌}
use mathlib.Core.List.{List}
use Prim.Native.Nat.{ℕ, ◌<◌}
use native.Mathlib.Decide.{ℕ_discrete}
use native.Mathlib.Omega.{arith}
use lib.IntN.{ℤ, pos}
use lib.ListN.{length, get_or, set}
use Rattle.std.specs.List.{swap as list_swap}
use Rattle.std.proofs.lemmas.List.{length-set, get_or-set_same, get_or-set_other}
use Rattle.std.proofs.lemmas.Grind.{get_or-set_at}
use Rattle.std.proofs.lemmas.List.Edits.{swap_is as list_swap_is}
use Rattle.rank1.specs.Axes.{swap}
use Rattle.rank1.proofs.SwapLaws.{swap_is}

-- the library's exchange of two components is the definition's
pub exchanged : (i j : ℕ) (k : List ℤ) → i < length k → j < length k → list_swap k i j ≡ swap i j k
exchanged i j k p q =
    sym (list_swap_is k i j (pos 0) p q)
    ∙ swap_is i j k both (pos 0) p q (length-set first j (get_or k i (pos 0)) ∙ length-set k i (get_or k j (pos 0))) (left (ℕ_discrete i j))
    (get_or-set_same first j (get_or k i (pos 0)) (pos 0) inside)
    (λ a l e h. get_or-set_other first j a (get_or k i (pos 0)) (pos 0) h ∙ get_or-set_other k i a (get_or k j (pos 0)) (pos 0) e)
  where
    first : List ℤ
    first = set k i (get_or k j (pos 0))

    both : List ℤ
    both = set first j (get_or k i (pos 0))

    inside : j < length first
    inside = omega (arith, length-set k i (get_or k j (pos 0)))

    left : Dec (i ≡ j) → get_or both i (pos 0) ≡ get_or k j (pos 0)
    left (yes e) = get_or-set_at first j i (get_or k i (pos 0)) (pos 0) e inside ∙ ap (λ (a : ℕ). get_or k a (pos 0)) e
    left (no h) = get_or-set_other first j i (get_or k i (pos 0)) (pos 0) h ∙ get_or-set_same k i (get_or k j (pos 0)) (pos 0) p
