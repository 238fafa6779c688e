-- Rows as the calls take them: at most six components (what is counted of a longer row is counted of its first six); and a row copied into
-- a run.
use Rattle.std.specs.Prelude.{cond, List, ◌++◌, ℕ, ◌+◌, leb, ℤ, length, take, drop}

-- the largest number of axes, of rows, and of mirrors of a row
abbrev pub most_axes : ℕ
most_axes = 6

abbrev pub most_rows : ℕ
most_rows = 512

abbrev pub most_mirrors : ℕ
most_mirrors = 64

-- the components that count
abbrev pub on_axes : List ℤ → List ℤ
on_axes k = take most_axes k

-- a run with the row k copied behind its first `at` numbers; where k does not fit there, the run
abbrev pub placed : ℕ → List ℤ → List ℤ → List ℤ
placed at k xs = cond (leb (at + length k) (length xs)) (take at xs ++ (k ++ drop (at + length k) xs)) xs
