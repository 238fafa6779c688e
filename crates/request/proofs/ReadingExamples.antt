-- Texts and what they ask (document 01, "The ticket program"; document 02, a): one table, and one theorem over it, by computing.
use mathlib.Core.Path.{◌≡◌, refl}
use mathlib.Core.List.{List, [], ◌∷◌, Memᴰ}
use Prim.Native.String.{String}
use lib.IntN.{pos, negsuc}
use Rattle.request.specs.Reading.{Reading, refused, request, reading}
use Rattle.request.proofs.Quoted.{bytes, same_at}

abbrev pub asked : List (String × Reading)
asked =
    -- document 01's request; two axes, a minus
    ("4 1 3 10\n0\n1\n2\n", request 4 1 10 (pos 0 ∷ pos 1 ∷ pos 2 ∷ []))
    ∷ ("1 2 2 8192\n0 -255\n7 10\n", request 1 2 8192 (pos 0 ∷ negsuc 254 ∷ pos 7 ∷ pos 10 ∷ []))
    -- no rows: line 1 alone
    ∷ ("2 2 0 10\n", request 2 2 10 [])
    -- a component or a ceiling outside its range is read: it is refused with 4 or 6 later
    ∷ ("1 1 1 10\n999999\n", request 1 1 10 (pos 999999 ∷ []))
    ∷ ("1 1 1 999999\n0\n", request 1 1 999999 (pos 0 ∷ []))
    -- the form of line 1 (12): no byte; document 01's example; no newline behind line 1
    ∷ ("", refused 12)
    ∷ ("4 1 3", refused 12)
    ∷ ("4 1 3 10", refused 12)
    -- a superfluous leading zero, a minus, seven digits, a byte that is no digit
    ∷ ("4 1 3 010\n0\n1\n2\n", refused 12)
    ∷ ("-4 1 3 10\n0\n1\n2\n", refused 12)
    ∷ ("4 1 3 1000000\n0\n1\n2\n", refused 12)
    ∷ ("4 1 3 1a\n0\n1\n2\n", refused 12)
    -- two spaces, a space behind the last field, three fields, five
    ∷ ("4  1 3 10\n0\n1\n2\n", refused 12)
    ∷ ("4 1 3 10 \n0\n1\n2\n", refused 12)
    ∷ ("4 1 3\n0\n1\n2\n", refused 12)
    ∷ ("4 1 3 10 1\n0\n1\n2\n", refused 12)
    -- 1, 2 and 3, in that order and before the rest is read: plan 5; 1 before 2, 3 and 12
    ∷ ("5 1 1 10\n0\n", refused 1)
    ∷ ("5 0 513 10\n", refused 1)
    -- d = 0, also without rows; d = 7, 2 before 3 and 12
    ∷ ("4 0 1 10\n\n", refused 2)
    ∷ ("4 0 0 10\n", refused 2)
    ∷ ("4 7 513 10\nx", refused 2)
    -- m = 513, 3 before 12
    ∷ ("4 1 513 10\n", refused 3)
    -- the form of the rest (12): a superfluous leading zero, a minus on 0, a minus and no digit, a plus, seven digits
    ∷ ("4 1 1 10\n01\n", refused 12)
    ∷ ("4 1 1 10\n-0\n", refused 12)
    ∷ ("4 1 1 10\n-\n", refused 12)
    ∷ ("4 1 1 10\n+1\n", refused 12)
    ∷ ("4 1 1 10\n1000000\n", refused 12)
    -- two spaces, a field too few, a field too many, an empty line
    ∷ ("4 2 1 10\n1  2\n", refused 12)
    ∷ ("4 2 1 10\n1\n", refused 12)
    ∷ ("4 1 1 10\n1 2\n", refused 12)
    ∷ ("4 1 2 10\n1\n\n", refused 12)
    -- a row too few, also before 4; the last newline is missing
    ∷ ("4 1 2 10\n1\n", refused 12)
    ∷ ("2 1 2 0\n-1\n", refused 12)
    ∷ ("4 1 1 10\n1", refused 12)
    -- behind line 1 where there are no rows: a row, an empty line, a space
    ∷ ("2 2 0 10\n0 0\n", refused 12)
    ∷ ("2 2 0 10\n\n", refused 12)
    ∷ ("2 2 0 10\n ", refused 12)
    -- behind the rows: a row too many, an empty line, a space
    ∷ ("4 1 1 10\n1\n2\n", refused 12)
    ∷ ("4 1 1 10\n1\n\n", refused 12)
    ∷ ("1 1 1 9\n1\n ", refused 12)
    ∷ []

-- every entry of the table
pub readings : (e : String × Reading) → Memᴰ e asked → reading (bytes e.0) ≡ e.1
unfolding reading
readings = same_at (λ e. reading (bytes e.0)) (λ e. e.1) asked refl
