-- Texts as they are printed, byte for byte: one table, and one theorem over it, by computing.
use mathlib.Core.Path.{◌≡◌, refl}
use mathlib.Core.List.{List, [], ◌∷◌, Memᴰ}
use Prim.Native.Nat.{ℕ}
use Prim.Native.String.{String}
use lib.IntN.{pos, negsuc}
use Rattle.request.specs.Text.{number_text}
use Rattle.request.specs.Answer.{refusal_text, plan_text}
use Rattle.request.specs.Printing.{request_text}
use Rattle.request.proofs.Quoted.{bytes, same_at}

abbrev pub printed : List (List ℕ × String)
printed =
    -- numbers
    (number_text 0, "0")
    ∷ (number_text 10, "10")
    ∷ (number_text 8192, "8192")
    -- refusals
    ∷ (refusal_text 9, "refused 9\n")
    ∷ (refusal_text 12, "refused 12\n")
    -- a plan: under plan 0 n and z alone; else with a line for each row
    ∷ (plan_text 0 4 (1 ∷ []) ((pos 6 ∷ []) ∷ []), "4 1\n")
    ∷ (plan_text 0 4 (1 ∷ 2 ∷ []) [], "4 1 2\n")
    ∷ (plan_text 4 4 (1 ∷ []) ((pos 0 ∷ []) ∷ (pos 1 ∷ []) ∷ (pos 2 ∷ []) ∷ []), "4 1\n0 1\n1 1\n2 2\n")
    -- a request
    ∷ (request_text 1 2 8192 ((pos 0 ∷ negsuc 254 ∷ []) ∷ (pos 7 ∷ pos 10 ∷ []) ∷ []), "1 2 2 8192\n0 -255\n7 10\n")
    ∷ []

-- every entry of the table
pub prints : (e : List ℕ × String) → Memᴰ e printed → e.0 ≡ bytes e.1
unfolding number_text
prints = same_at (λ e. e.0) (λ e. bytes e.1) printed refl
