-- What the calls about corners find, in the terms of their contracts: valid corners, and the answers.
use mathlib.Core.Path.{◌≡◌, refl, sym}
use mathlib.Core.Bool.{true≢false}
use mathlib.Core.List.{List, [], ◌∷◌, ◌++◌, Memᴰ}
use Prim.Native.Nat.{ℕ, zero, suc, ◌*◌, ◌≤◌}
use native.Mathlib.Nat.{div-add-mod'}
use native.Mathlib.Omega.{arith}
use lib.Dec.{T}
use lib.IntN.{ℤ, pos, negsuc}
use lib.ListN.{length, drop, replicate}
use Rattle.rank1.specs.Index.{row_count, run_of}
use Rattle.rank1.specs.Corners.{under}
use Rattle.rank1.specs.Refusal.{first_of, bad_axes, bad_whole, bad_component, bad_corners, bad_places, corner_conditions, corner_refusal}
use Rattle.rank1.proofs.IndexLaws.{member_length, component_in}
use Rattle.rank1.proofs.RefusalLaws.{first_of-append, first_of_none}
use Rattle.rank1.proofs.ValidLaws.{axes_clear, whole_clear, component_clear, Ranged}
use Rattle.rank1.proofs.UnderLaws.{turn-under}
use Rattle.std.specs.Prelude.{Result, Ok, Err}
use Rattle.std.specs.Result.{IsErr}
use Rattle.rank1.specs.declared.Refusal.{Refusal}
use Rattle.rank1.specs.Named.{refused}
use Rattle.rank1.proofs.NamedLaws.{number_some}
use Rattle.lists.specs.Answer.{Fronted}
use Rattle.lists.specs.Inner.{ValidCorners}

-- ---- valid corners
row_small : (c : List ℤ) (d : ℕ) → length c ≡ d → ((x : ℤ) → Memᴰ x c → Ranged 2 x) → T (under c (replicate d (pos 255)))
row_small [] zero e h = tt
row_small [] (suc d) e h = absurd (omega arith)
row_small (x ∷ c) zero e h = absurd (omega arith)
row_small (pos a ∷ c) (suc d) e h =
    turn-under a c 255 (replicate d (pos 255)) (h (pos a) (Memᴰ.head refl)).0 (row_small c d (omega arith) (λ x m. h x (Memᴰ.tail m)))
row_small (negsuc a ∷ c) (suc d) e h = absurd ((h (negsuc a) (Memᴰ.head refl)).1 (omega arith))

module _ (d : ℕ) (xs : List ℤ) (none : first_of (corner_conditions d xs) ≡ 0) where
  after-axes : (bad_axes d ≡ 0) × (first_of (bad_whole d xs ∷ bad_component 2 xs ∷ []) ≡ 0)
  after-axes = (first_of_none (bad_axes d) (bad_whole d xs ∷ bad_component 2 xs ∷ [])).0 none

  after_whole : (bad_whole d xs ≡ 0) × (first_of (bad_component 2 xs ∷ []) ≡ 0)
  after_whole = (first_of_none (bad_whole d xs) (bad_component 2 xs ∷ [])).0 after-axes.1

  pub corner-axes : (1 ≤ d) × (d ≤ 6)
  corner-axes = (axes_clear d).0 after-axes.0

  corner_whole : length xs ≡ row_count d xs * d
  corner_whole = omega (arith, div-add-mod' (length xs) d, (whole_clear d xs).0 after_whole.0)

  pub valid_corners : 1 ≤ row_count d xs → ValidCorners d xs
  valid_corners some = record {
    some_axes = corner-axes.0;
    few_axes = corner-axes.1;
    whole = corner_whole;
    some_rows = some;
    small = λ c m. row_small c d (member_length d (row_count d xs) xs c (omega (arith, corner_whole)) m)
        (λ x n. (component_clear 2 xs).0 ((first_of_none (bad_component 2 xs) []).0 after_whole.1).0 x (component_in d (row_count d xs) xs c x m n));
  }

-- ---- the number of the refusal, where the list has so many rows: 2 to 4, then 13, then 8
pub corner_parts : (d : ℕ) (xs : List ℤ) (rows places : ℕ) → corner_refusal d xs rows places ≡ first_of (first_of (corner_conditions d xs) ∷ bad_corners (row_count d xs) rows ∷ bad_places places (512 * d) ∷ [])
unfolding corner_refusal
corner_parts d xs rows places = first_of-append (corner_conditions d xs) (bad_corners (row_count d xs) rows ∷ bad_places places (512 * d) ∷ [])

-- ---- the answers
-- refused: the run is as it was
pub fronted_refused : (refusal : ℕ) (ks : List (List ℤ)) (before : List ℤ) (answer : Result ℕ Refusal) → IsErr answer → refused answer ≡ refusal → Fronted refusal ks before before answer
fronted_refused refusal ks before (Ok m) is f = absurd (true≢false (sym is))
fronted_refused zero ks before (Err e) is f = absurd (omega (arith, number_some e, f))
fronted_refused (suc k) ks before (Err e) is f = record { number = f; places = refl }

-- given: the rows are at its front
pub fronted_given : (refusal m : ℕ) (ks : List (List ℤ)) (before after : List ℤ) → 0 ≡ refusal → m ≡ length ks → after ≡ run_of ks ++ drop (length (run_of ks)) before → Fronted refusal ks before after (Ok m)
fronted_given zero m ks before after e f w = record { number = (refl, f); places = w }
fronted_given (suc k) m ks before after e f w = absurd (omega arith)
