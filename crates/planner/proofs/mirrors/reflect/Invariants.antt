-- `mirrors::reflect`: the first t entries stand once more behind the first count, with the step added (`Repeated`).
use Prim.Native.Nat.{◌+◌, ◌%◌}
use Rattle.planner.proofs.mirrors.MirrorResidues.{Repeated}
use Rattle.planner.proofs.mirrors.reflect.Given as goal

abbrev pub invariant-loop-t : goal.invariant-loop-t
invariant-loop-t l = Repeated (λ r. (r + l.step) % l.n) l.initial.out l.count l.out l.t
