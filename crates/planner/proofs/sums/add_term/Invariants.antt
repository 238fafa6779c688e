-- `sums::add_term` meets its contract. The invariant: at each place a has been added as often as it occurs among the residues passed.
use Rattle.std.proofs.Common.{◌≡◌, ℕ, pos, ◌+ℤ◌, ◌*ℤ◌, get_or, take}
use Rattle.planner.specs.Inner.{occurrences}
use Rattle.planner.proofs.sums.add_term.Given as goal

abbrev pub invariant-loop-r : goal.invariant-loop-r
invariant-loop-r l =
    (r : ℕ) → get_or l.sums r (pos 0) ≡ get_or l.initial.sums r (pos 0) +ℤ (l.a *ℤ pos (occurrences r (take l.r-index l.residues)))
