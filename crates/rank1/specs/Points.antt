-- The point list (document 01, "Cutting list"; how many lines it has: document 02, d).
use Rattle.std.specs.Prelude.{cond, List, [], ◌∷◌, ◌++◌, map, ℕ, ◌+◌, ◌*◌, ◌-◌, ◌/◌, ◌%◌, min, leb}
use Rattle.rank1.specs.Tests.{up_to}

-- the tent numerator of a residue r, over the denominator n: the smaller of 2r and 2n - 2r
abbrev pub tent : ℕ → ℕ → ℕ
tent n r = min (2 * r) (2 * n - 2 * r)

-- what stands for a residue r: r itself for plans 0 and 1, its tent numerator for plans 2, 3 and 4
abbrev pub coordinate : ℕ → ℕ → ℕ → ℕ
coordinate plan n r = cond (leb 2 plan) (tent n r) r

-- line i: for each axis the residue of i × the component of z
abbrev pub point_line : ℕ → ℕ → List ℕ → ℕ → List ℕ
point_line plan n z i = map (λ x. coordinate plan n ((i * x) % n)) z

-- how many lines the list has, which is the lens count: lines 0 to n/2 rounded down for plans 2, 3 and 4, all n for plans 0 and 1
abbrev pub line_count : ℕ → ℕ → ℕ
line_count plan n = cond (leb 2 plan) (n / 2 + 1) n

-- the lines whose numbers are given, one after the other
abbrev pub point_lines : ℕ → ℕ → List ℕ → List ℕ → List ℕ
point_lines plan n z [] = []
point_lines plan n z (i ∷ is) = point_line plan n z i ++ point_lines plan n z is

-- the point list: line 0 and up
abbrev pub point_list : ℕ → ℕ → List ℕ → List ℕ
point_list plan n z = point_lines plan n z (up_to (line_count plan n))
