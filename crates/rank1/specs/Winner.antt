-- Which of two vectors wins (document 02, f).
use Rattle.std.specs.Prelude.{◌≡◌, ◌⊎◌, List, ℕ, ◌<◌, length}
use Rattle.rank1.specs.Search.{Gentler}

-- the left one wins where it is the shorter, and at one length unless the right one is gentler, so on a full tie too; else the right one
unfoldable pub LeftWins : List ℕ → List ℕ → Type 0
LeftWins left right = (length left < length right) ⊎ ((length left ≡ length right) × (Gentler right left → ⊥))
