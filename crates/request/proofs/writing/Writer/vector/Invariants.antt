-- `Writer::vector` meets its contract. The invariant: what stands there, with the text of the components that are left, is the whole.
use mathlib.Core.Path.{◌≡◌}
use mathlib.Core.List.{◌++◌}
use Prim.Native.Nat.{◌+◌, ◌-◌, ◌*◌, ◌≤◌}
use lib.ListN.{length, drop}
use Rattle.request.specs.Answer.{vector_text}
use Rattle.request.proofs.writing.Writer.vector.Given as goal

abbrev pub invariant-loop-x : goal.invariant-loop-x
invariant-loop-x l = (l.self ++ vector_text (drop l.x-index l.z) ≡ l.initial.self ++ vector_text l.z) × (length l.self + 6 * (length l.z - l.x-index) + 1 ≤ 8192)
