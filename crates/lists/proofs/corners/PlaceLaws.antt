-- From one row of the corners' list to the next: behind a row stands the first later row that is up to some corner, and where there is
-- none it is the last.
use mathlib.Core.Path.{◌≡◌, sym, ◌∙◌, ap, subst}
use mathlib.Core.Logic.{⊎_elim}
use mathlib.Core.List.{List, []}
use Prim.Native.Nat.{ℕ, suc, ◌<◌}
use native.Mathlib.Omega.{arith}
use lib.IntN.{ℤ}
use lib.ListN.{length, get_or}
use Rattle.rank1.specs.Corners.{Earlier, CornerList}
use Rattle.rank1.proofs.Distinct.{Place, place_of}
use Rattle.rank1.proofs.Order.{compared}
use Rattle.rank1.proofs.UnderLaws.{earlier_irrefl, earlier_asym}
use Rattle.rank1.proofs.CornerLaws.{ascending_at, at_within}
use Rattle.lists.specs.Inner.{NextRow, LastRow}

module _ (cs ks : List (List ℤ)) (list : CornerList cs ks) where
  -- a member after the row at place i stands at a later place
  later-place : (i : ℕ) (r : List ℤ) → i < length ks → Earlier (get_or ks i []) r → (p : Place ks r []) → i < p.index
  later-place i r l e p = ⊎_elim (λ h. h) (⊎_elim same before) (compared i p.index)
    where
      same : i ≡ p.index → i < p.index
      same f = absurd (earlier_irrefl r (subst (λ (k : List ℤ). Earlier k r) (ap (λ (j : ℕ). get_or ks j []) f ∙ p.is) e))

      before : p.index < i → i < p.index
      before h = absurd (earlier_asym r (get_or ks i []) (subst (λ (k : List ℤ). Earlier k (get_or ks i [])) p.is (ascending_at ks p.index i list.ascending h l)) e)

  -- after the row at place i stands the first row after it that is up to some corner
  pub next_place : (i : ℕ) (r : List ℤ) → i < length ks → NextRow cs (get_or ks i []) r → (suc i < length ks) × (get_or ks (suc i) [] ≡ r)
  next_place i r l n = go (place_of ks r [] ((list.members r).1 n.within))
    where
      go : Place ks r [] → (suc i < length ks) × (get_or ks (suc i) [] ≡ r)
      go p = (more, ⊎_elim between (⊎_elim (λ f. ap (λ (j : ℕ). get_or ks j []) f ∙ p.is) (λ h. absurd (omega (arith, later-place i r l n.later p)))) (compared (suc i) p.index))
        where
          more : suc i < length ks
          more = omega (arith, p.inside, later-place i r l n.later p)

          -- the row at the next place would come before r, and after it
          between : suc i < p.index → get_or ks (suc i) [] ≡ r
          between h =
              let x = get_or ks (suc i) [] in
              ⊎_elim sym
              (λ e. absurd (earlier_asym r x e (subst (Earlier x) p.is (ascending_at ks (suc i) p.index list.ascending h p.inside))))
              (n.first x (at_within cs ks list (suc i) more) (ascending_at ks i (suc i) list.ascending (omega arith) more))

  -- where no row after the one at place i is up to some corner, it is the last
  pub last-place : (i : ℕ) → i < length ks → LastRow cs (get_or ks i []) → length ks ≡ suc i
  last-place i l n = ⊎_elim (λ h. absurd (omega arith)) (⊎_elim (λ e. e) more) (compared (length ks) (suc i))
    where
      more : suc i < length ks → length ks ≡ suc i
      more h = absurd (n (get_or ks (suc i) []) (at_within cs ks list (suc i) h) (ascending_at ks i (suc i) list.ascending (omega arith) h))
