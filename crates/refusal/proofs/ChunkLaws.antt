-- The chunks of a run are the rows of its list, one after the other; and a search over them is a search over the rows.
use mathlib.Core.Path.{◌≡◌, refl, sym, ◌∙◌, ap}
use mathlib.Core.Bool.{Bool, ◌||◌}
use mathlib.Core.List.{List, [], ◌∷◌}
use Prim.Native.Nat.{ℕ, ◌<◌}
use native.Mathlib.Omega.{arith}
use lib.IntN.{ℤ}
use lib.ListN.{length}
use denote.Ref.{Bor}
use Rattle.std.specs.Prelude.{Some}
use Rattle.std.specs.List.{list_any}
use Rattle.std.specs.Slice.Iter.{chunks_exact_rest, chunks_exact_size, chunks_exact_steps}
use Rattle.std.specs.Iterator.{AlwaysYields}
use Rattle.std.proofs.lemmas.Iterator.{YieldsList}
use Rattle.rank1.specs.Tests.{any}
use Rattle.rank1.specs.Index.{index_list}
use Rattle.rank1.proofs.IndexLaws.{index_front, index_short}

module _ (d : ℕ) (some : 0 < d) where
  -- the next chunk is the first row
  first : (x : Bor (List ℤ)) (s t : _) → chunks_exact_size s ≡ d → chunks_exact_steps s (Some x) t → index_list d (chunks_exact_rest s) ≡ x.now ∷ index_list d (chunks_exact_rest t)
  first x s t e p = ap (index_list d) p.1.0 ∙ index_front d x.now (chunks_exact_rest t) some (p.1.1 ∙ e)

  rows : (ks : List (List ℤ)) (s : _) → chunks_exact_size s ≡ d → index_list d (chunks_exact_rest s) ≡ ks → AlwaysYields chunks_exact_steps (λ y. y.now) s ks
  rows [] s e is = λ x t p. omega (arith, ap length (sym is ∙ first x s t e p))
  rows (k ∷ ks) s e is = (
    (λ t p. omega (arith, ap length (sym is ∙ index_short d (chunks_exact_rest s) (omega (arith, p.1.0, e))))),
    λ x t p. (heads (sym (first x s t e p) ∙ is), rows ks t (p.0 ∙ e) (tails (sym (first x s t e p) ∙ is))),
  )
    where
      heads : {a b : List ℤ} {us vs : List (List ℤ)} → a ∷ us ≡ b ∷ vs → a ≡ b
      heads p = cc

      tails : {a b : List ℤ} {us vs : List (List ℤ)} → a ∷ us ≡ b ∷ vs → us ≡ vs
      tails p = cc

  pub chunk_rows : (s : _) (xs : List ℤ) → chunks_exact_size s ≡ d → chunks_exact_rest s ≡ xs → YieldsList chunks_exact_steps (λ y. y.now) s (index_list d xs)
  chunk_rows s xs e is = record { runs = rows (index_list d xs) s e (ap (index_list d) is) }

-- some member passes, as the library says it
pub any_is : {A : Type 0} (f : A → Bool) (xs : List A) → list_any f xs ≡ any f xs
any_is f [] = refl
any_is f (x ∷ xs) = ap (λ (b : Bool). f x || b) (any_is f xs)
