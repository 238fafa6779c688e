-- What the private functions say of the list and of the lattice that a call is about.
use Rattle.std.specs.Prelude.{◌≡◌, ℕ, List, ℤ, pos, map}
use Rattle.rank1.specs.Named.{plan_number}
use Rattle.rank1.specs.Residue.{residue_at}
use Rattle.rank1.specs.Index.{index_list}
use Rattle.rank1.specs.Rule.{Admissible}
use Rattle.rank1.specs.Search.{InRange}
use Rattle.rank1.specs.Valid.{ValidModulus}
use Rattle.planner.specs.Inner.{RowReady}
use Rattle.planner.specs.declared.list.Rows.{Rows}
use Rattle.planner.specs.declared.lattice.Lattice.{Lattice}

-- the rows, one by one
abbrev pub rows_in : Rows → List (List ℤ)
rows_in rows = index_list rows.d rows.numbers.now

-- the rows that a call was given, and the plan with the number that it was given
pub record Given (plan d : ℕ) (xs : List ℤ) (rows : Rows) : Type 0 where
  pub plans : plan_number rows.plan ≡ plan
  pub axes : rows.d ≡ d
  pub numbers : rows.numbers.now ≡ xs

-- n and z are a valid pair for the rows
abbrev pub PairFor : ℕ → List ℕ → Rows → Type 0
PairFor n z rows = ValidModulus n × InRange n rows.d z

-- the residue of a row
abbrev pub residue_by : Lattice → List ℤ → ℕ
residue_by lattice k = residue_at lattice.n (map pos lattice.z.now) k

-- what the residues of a row's mirrors ask of the lattice and the row
abbrev pub ReadyRow : Lattice → List ℤ → Type 0
ReadyRow lattice k = RowReady lattice.n lattice.z.now k lattice.products.now

-- the lattice keeps the rule of its rows' plan
abbrev pub Keeps : Lattice → Type 0
Keeps lattice = Admissible (plan_number lattice.rows.plan) (rows_in lattice.rows) lattice.n (map pos lattice.z.now)
