-- `gentler`: the slice that is handed back is the argument itself; `left_wins` says which.
use mathlib.Core.Path.{refl}
use Rattle.planner.proofs.gentler.Goals as goal

pub returns-then-left_wins : goal.returns-then-left_wins
returns-then-left_wins c = record { left_wins = λ w. refl; right_wins = λ w. absurd (w (c.left_wins.ensures.yes c.if-left_wins.true)) }

pub returns : goal.returns
returns c = record { left_wins = λ w. absurd (c.left_wins.ensures.no c.if-left_wins.false w); right_wins = λ w. refl }
