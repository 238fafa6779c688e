-- A component from 0 to 255, and one more than it, have 16 bits; so what is stored for it is one more.
use mathlib.Core.Path.{◌≡◌, ◌∙◌, ap}
use Prim.Native.Nat.{◌+◌}
use native.Mathlib.Omega.{arith}
use borrow.Author.Rules.{sfits_of}
use lib.Dec.{T, leb→le}
use lib.IntN.{ℤ, pos, negsuc, ◌+ℤ◌}
use mir.Syntax.{w16}
use mir.Val.{SFits, to_z, of_z}
use mir.Facts.{to_z-of_z}
use Rattle.rank1.specs.Corners.{from_zero}
use Rattle.lists.specs.Inner.{up}

small_fits : (x : ℤ) → T (from_zero x (pos 255)) → SFits w16 x
small_fits (pos a) t = sfits_of {w = w16} {z = pos a} (omega (arith, leb→le a 255 t))
small_fits (negsuc a) t = absurd t

pub up_fits : (x : ℤ) → T (from_zero x (pos 255)) → SFits w16 (to_z w16 (of_z w16 x) +ℤ pos 1)
up_fits x t = rw (to_z-of_z (small_fits x t)) (fits x t)
  where
    fits : (y : ℤ) → T (from_zero y (pos 255)) → SFits w16 (y +ℤ pos 1)
    fits (pos a) u = sfits_of {w = w16} {z = pos (a + 1)} (omega (arith, leb→le a 255 u))
    fits (negsuc a) u = absurd u

pub up_stored : (x : ℤ) → T (from_zero x (pos 255)) → to_z w16 (of_z w16 (to_z w16 (of_z w16 x) +ℤ pos 1)) ≡ up x
up_stored x t = to_z-of_z (up_fits x t) ∙ ap (λ (y : ℤ). y +ℤ pos 1) (to_z-of_z (small_fits x t))
