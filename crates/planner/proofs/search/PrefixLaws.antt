-- Vectors with the same beginning, as the search compares them, and what it knows of a prefix: that no vector of whole numbers that
-- meets the rule begins so, or that no first vector does.
use mathlib.Core.Path.{◌≡◌, ap, ◌∙◌}
use mathlib.Core.List.{List, map}
use Prim.Native.Nat.{ℕ, ◌+◌}
use native.Mathlib.Omega.{arith}
use borrow.Author.Count.{below_more}
use lib.IntN.{pos}
use lib.ListN.{length, get_or, set, length-map, get_or-map}
use lib.Seq.{ext_get_or, get_or-set_other}
use Rattle.rank1.specs.Rule.{Rule}
use Rattle.rank1.specs.Axes.{Agree}
use Rattle.planner.specs.Stage.{BeginsAs, NoneFrom, NoFirstFrom}

-- vectors of one length that agree throughout are one
pub agree_all : (y x : List ℕ) → length y ≡ length x → Agree (length x) y x → y ≡ x
agree_all y x l same = ext_get_or 0 y x l (λ i h. same i (omega arith))

-- one component more
pub agree_more : (k : ℕ) (y z : List ℕ) → Agree k y z → get_or y k 0 ≡ get_or z k 0 → Agree (k + 1) y z
agree_more k y z below here = below_more (λ i. get_or y i 0 ≡ get_or z i 0) k below here

-- a store at k leaves what stands before it, and is read back there
pub agree_set : (k v : ℕ) (z : List ℕ) → Agree k (set z k v) z
agree_set k v z i l = get_or-set_other z k i v 0 (omega arith)

-- as whole numbers y begins as z where it agrees with it
pub agree_begins : (k : ℕ) (y z : List ℕ) → Agree k y z → BeginsAs k (map pos y) z
agree_begins k y z same i l = get_or-map pos y i 0 ∙ ap pos (same i l)

-- where no vector of whole numbers begins so, no first vector does
pub none_first : (rule : Rule) (d n b k : ℕ) (z : List ℕ) → NoneFrom rule d n k z → NoFirstFrom rule d n b k z
unfolding NoneFrom NoFirstFrom
none_first rule d n b k z none y f same = none (map pos y) (length-map y pos ∙ f.ranged.size) (agree_begins k y z same) f.admissible
