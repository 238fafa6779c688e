-- Vectors below a bound, as the private functions of the search speak of them: the gentlest one is found by dictionary order under
-- bounds that fall. No public contract cites this.
use Rattle.std.specs.Prelude.{List, ℕ}
use Rattle.rank1.specs.Rule.{Rule}
use Rattle.rank1.specs.Search.{Before, First}

-- z is in dictionary order the first admissible vector at n with components below b
abbrev pub FirstBelow : Rule → ℕ → ℕ → ℕ → List ℕ → Type 0
FirstBelow rule d = First rule d Before
