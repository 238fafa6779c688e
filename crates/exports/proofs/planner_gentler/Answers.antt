-- `planner_gentler`: 0 where `left_wins` says yes, and else 1.
use mathlib.Core.Path.{◌≡◌, refl}
use mathlib.Core.Bool.{Bool, true, false, not}
use mathlib.Core.List.{List}
use Prim.Native.Nat.{ℕ}
use mir.Val.{bool_byte}
use Rattle.rank1.specs.Tests.{Decides}
use Rattle.rank1.specs.Winner.{LeftWins}
use Rattle.exports.specs.Numbers.{WinnerTold}
use Rattle.exports.proofs.planner_gentler.Goals as goal

-- the number by the answer: that of its denial
told : (left right : List ℕ) (b : Bool) (n : ℕ) → Decides b (LeftWins left right) → n ≡ bool_byte (not b) → WinnerTold left right n
told left right true n d e = record { left_wins = λ w. e; right_wins = λ w. absurd (w (d.yes refl)) }
told left right false n d e = record { left_wins = λ w. absurd (d.no refl w); right_wins = λ w. e }

pub returns : goal.returns
returns c = told c.args.left.now c.args.right.now c.left_wins.result c.from.result c.left_wins.ensures c.from.ensures
