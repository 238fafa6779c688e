-- `Writer::map` meets its contract. The invariant: what stands there, with the map of the pairs that are left, is the whole.
use mathlib.Core.Path.{◌≡◌}
use mathlib.Core.List.{◌++◌}
use Prim.Native.Nat.{◌+◌, ◌*◌, ◌≤◌}
use lib.ListN.{length}
use Rattle.std.specs.Slice.Iter.{chunks_exact_rest, chunks_exact_size}
use Rattle.request.specs.Answer.{map_text}
use Rattle.request.proofs.writing.Writer.map.Given as goal

abbrev pub invariant-loop-pair : goal.invariant-loop-pair
invariant-loop-pair l = record {
  can_next : (goal.iterator-loop-pair).can_next l.pair-iterator;
  is_finite : (goal.iterator-loop-pair).is_finite l.pair-iterator;
  size : chunks_exact_size l.pair-iterator ≡ 2;
  whole : l.self ++ map_text (chunks_exact_rest l.pair-iterator) ≡ l.initial.self ++ map_text l.pairs;
  room : length l.self + 6 * length (chunks_exact_rest l.pair-iterator) ≤ 8192;
}
