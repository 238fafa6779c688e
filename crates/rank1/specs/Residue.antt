-- Residues of whole numbers, and h·z (document 01, "Lists and vectors").
use Rattle.std.specs.Prelude.{List, [], ◌∷◌, ℕ, suc, ◌-◌, ◌%◌, ℤ, pos, negsuc, ◌+ℤ◌, ◌*ℤ◌}

-- the residue of x at the modulus n: the number from 0 to n - 1 that differs from x by a multiple of n
abbrev pub residue : ℕ → ℤ → ℕ
residue n (pos a) = a % n
residue n (negsuc a) = n - suc (a % n)

-- h·z, the sum of the products of components
abbrev pub dot : List ℤ → List ℤ → ℤ
dot [] z = pos 0
dot (x ∷ h) [] = pos 0
dot (x ∷ h) (y ∷ z) = (x *ℤ y) +ℤ dot h z

-- the residue of the row h at the pair n, z
abbrev pub residue_at : ℕ → List ℤ → List ℤ → ℕ
residue_at n z h = residue n (dot h z)
