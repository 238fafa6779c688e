-- The sizes of the tables under the names that contracts and proofs use. The limits of document 01 are the code's, which takes them from crate rank1: a wrong
-- one is refused there where the calls meet document 01's numbers. The other numbers stand here and in src/sizes.rt, since nothing else that is proved
-- would tell a wrong one.
use Rattle.std.specs.Prelude.{ℕ, ◌*◌}
use Rattle.planner.specs.declared.sizes.TheConstants.{AXES, MOST_ROWS, LARGEST_MODULUS, MOST_MIRRORS}

-- ---- the limits of document 01
abbrev pub axes : ℕ
axes = AXES

abbrev pub most_rows : ℕ
most_rows = MOST_ROWS

abbrev pub largest_modulus : ℕ
largest_modulus = LARGEST_MODULUS

-- the mirrors of a row: 2 to the number of axes
abbrev pub most_mirrors : ℕ
most_mirrors = MOST_MIRRORS

-- a component of a row has at most this size
abbrev pub largest_component : ℕ
largest_component = 255

-- ---- products: a component of a row or of a difference has at most this size, and its products have these places on each axis
abbrev pub largest_size : ℕ
largest_size = 510

abbrev pub middle : ℕ
middle = 511

abbrev pub places : ℕ
places = 1024

abbrev pub product_room : ℕ
product_room = axes * places

-- ---- the rows that end by an axis: so many numbers for each axis
abbrev pub level_room : ℕ
level_room = most_rows * axes

-- ---- differences: how many members pairs are made of, how many differences there is room for, and the slots of their hash
abbrev pub most_members : ℕ
most_members = 4096

abbrev pub room : ℕ
room = 12288

abbrev pub slot_count : ℕ
slot_count = 32768

-- one run for each last component on each axis: a difference ends with a component from 1 to 510
abbrev pub lasts : ℕ
lasts = 512

-- numbers in the tables of solutions, n for each last component
abbrev pub solution_room : ℕ
solution_room = 262144
