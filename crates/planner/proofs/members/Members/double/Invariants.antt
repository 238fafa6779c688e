-- `members::Members::double`: the members from number `from` to the one before i stand once more behind the others.
use Prim.Native.Nat.{◌-◌}
use Rattle.planner.specs.Members.{Doubled}
use Rattle.planner.proofs.members.Members.double.Given as goal

abbrev pub invariant-loop-i : goal.invariant-loop-i
invariant-loop-i l = Doubled l.d l.from (l.i - l.from) l.axis l.owner l.initial.self l.self
