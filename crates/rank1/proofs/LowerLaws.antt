-- Lower lists: the list of some corners is lower, and a lower list has the rows of the list of its maximal rows.
use mathlib.Core.Path.{◌≡◌, refl, sym, ◌∙◌, ap, subst}
use mathlib.Core.Logic.{◌⊎◌, inl, inr, ⊎_elim, ◌↔◌, ◌≢◌}
use mathlib.Core.Bool.{Bool, true, false, cond}
use mathlib.Core.List.{List, [], ◌∷◌, map, Memᴰ}
use Prim.Native.Nat.{ℕ, suc, ◌<◌, ◌≤◌}
use native.Mathlib.Omega.{arith}
use lib.Dec.{T}
use lib.IntN.{ℤ}
use lib.ListN.{length, get_or, length-map}
use Rattle.rank1.specs.Tests.{same_row}
use Rattle.rank1.specs.Valid.{Distinct, Nonnegative}
use Rattle.rank1.specs.Corners.{under, under_some, CornerList, Lower, Maximal}
use Rattle.rank1.proofs.TestLaws.{true_holds, false_fails, some_of, of_some, row_true, row_false}
use Rattle.rank1.proofs.Distinct.{distinct_map, pigeonhole}
use Rattle.rank1.proofs.UnderLaws.{under_refl, under_trans, under_same, some_unsigned, some_under}

-- ---- corner lists and lower lists
pub corners_lower : (cs ks : List (List ℤ)) → CornerList cs ks → Lower ks
corners_lower cs ks c = record {
  unsigned = λ k m. some_unsigned cs k ((c.members k).0 m);
  closed = λ h k m t. (c.members h).1 (some_under cs h k t ((c.members k).0 m));
}

-- rows that are those up to some corner are the rows of the corners' list
pub same_rows : (ks cs hs : List (List ℤ)) → ((k : List ℤ) → Memᴰ k ks ↔ T (under_some cs k)) → CornerList cs hs → (k : List ℤ) → Memᴰ k hs ↔ Memᴰ k ks
same_rows ks cs hs is list k = ((λ m. (is k).1 ((list.members k).0 m)), (λ m. (list.members k).1 ((is k).0 m)))

-- a row of a lower list is up to some row of it, and what is up to one is in
pub lower_members : (ks : List (List ℤ)) → Lower ks → (k : List ℤ) → Memᴰ k ks ↔ T (under_some ks k)
lower_members ks low k = (
  (λ m. of_some (under k) ks k m (under_refl k (low.unsigned k m))),
  (λ t. let s = some_of (under k) ks t in low.closed k s.found s.listed s.passes),
)

-- ---- different rows that are all in a list are at most as many
-- the first place of a row
abbrev spot : List ℤ → List (List ℤ) → ℕ
spot k [] = 0
spot k (h ∷ ks) = cond (same_row k h) 0 (suc (spot k ks))

spot_at : (k : List ℤ) (ks : List (List ℤ)) → Memᴰ k ks → (spot k ks < length ks) × (get_or ks (spot k ks) [] ≡ k)
spot_at k [] m = absurd (mathlib.Core.List.Memᴰ.not-nil m)
spot_at k (h ∷ ks) m = go (same_row k h) refl (spot_at k ks)
  where
    go : (b : Bool) → same_row k h ≡ b → (Memᴰ k ks → (spot k ks < length ks) × (get_or ks (spot k ks) [] ≡ k)) → (cond b 0 (suc (spot k ks)) < suc (length ks)) × (get_or (h ∷ ks) (cond b 0 (suc (spot k ks))) [] ≡ k)
    go true e rest = (omega arith, sym ((row_true k h).0 e))
    go false e rest =
        let r = ⊎_elim (λ f. absurd ((row_false k h).0 e f)) rest (mathlib.Core.List.Memᴰ.cases_cons m) in
        (omega (arith, r.0), r.1)

pub fewer : (hs ks : List (List ℤ)) → Distinct hs → ((h : List ℤ) → Memᴰ h hs → Memᴰ h ks) → length hs ≤ length ks
fewer hs ks differ listed =
    omega (arith, length-map hs (λ h. spot h ks), pigeonhole (length ks) (map (λ h. spot h ks) hs) (distinct_map (λ h. spot h ks) hs differ apart) below)
  where
    apart : (g h : List ℤ) → Memᴰ g hs → Memᴰ h hs → g ≢ h → spot g ks ≢ spot h ks
    apart g h m n o e = o (sym (spot_at g ks (listed g m)).1 ∙ ap (λ (i : ℕ). get_or ks i []) e ∙ (spot_at h ks (listed h n)).1)

    below : (i : ℕ) → Memᴰ i (map (λ h. spot h ks) hs) → i < length ks
    below i m = let r = mathlib.Core.List.Memᴰ.of_map (λ h. spot h ks) hs m in subst (λ (a : ℕ). a < length ks) r.2 (spot_at r.0 ks (listed r.0 r.1)).0

-- ---- above every row stands a maximal one: go through the rows, and climb to each that is not below
record Top (ks : List (List ℤ)) (c : List ℤ) : Type 0 where
  top : List ℤ
  above : T (under c top)
  from : (top ≡ c) ⊎ Memᴰ top ks
  highest : (h : List ℤ) → Memᴰ h ks → T (under top h) → T (under h top)

climb : (ks : List (List ℤ)) (c : List ℤ) → Nonnegative c → ((h : List ℤ) → Memᴰ h ks → Nonnegative h) → Top ks c
climb [] c n all = record { top = c; above = under_refl c n; from = inl refl; highest = λ h m. absurd (mathlib.Core.List.Memᴰ.not-nil m) }
climb (k ∷ ks) c n all =
    let others : (h : List ℤ) → Memᴰ h ks → Nonnegative h = λ h m. all h (mathlib.Core.List.Memᴰ.tail m) in
    go (under c k) refl (λ e. climb ks k (all k (mathlib.Core.List.Memᴰ.head refl)) others) (λ e. climb ks c n others)
  where
    go : (b : Bool) → under c k ≡ b → (b ≡ true → Top ks k) → (b ≡ false → Top ks c) → Top (k ∷ ks) c
    go true e up stay = let t = up refl in record {
      top = t.top;
      above = under_trans c k t.top (true_holds (under c k) e) t.above;
      from = inr (⊎_elim mathlib.Core.List.Memᴰ.head mathlib.Core.List.Memᴰ.tail t.from);
      highest = λ h m u. ⊎_elim (λ f. subst (λ (r : List ℤ). T (under r t.top)) (sym f) t.above) (λ m'. t.highest h m' u) (mathlib.Core.List.Memᴰ.cases_cons m);
    }
    go false e up stay = let t = stay refl in record {
      top = t.top;
      above = t.above;
      from = ⊎_elim inl (λ m. inr (mathlib.Core.List.Memᴰ.tail m)) t.from;
      highest = λ h m u. ⊎_elim
          (λ f. absurd (false_fails (under c k) e (under_trans c t.top k t.above (subst (λ (r : List ℤ). T (under t.top r)) f u))))
          (λ m'. t.highest h m' u)
          (mathlib.Core.List.Memᴰ.cases_cons m);
    }

-- a lower list has the rows of the list of its maximal rows
module _ (ks cs : List (List ℤ)) (low : Lower ks) (tops : (c : List ℤ) → Memᴰ c cs ↔ Maximal ks c) where
  under_maximal : (k : List ℤ) → Memᴰ k ks → T (under_some cs k)
  under_maximal k m =
      let t = climb ks k (low.unsigned k m) low.unsigned in
      let listed : Memᴰ t.top ks = ⊎_elim (λ e. mathlib.Core.List.Memᴰ.cast e m) (λ n. n) t.from in
      of_some (under k) cs t.top
      ((tops t.top).1 (record { listed = listed; highest = λ h n u. under_same h t.top (t.highest h n u) u }))
      t.above

  pub maximal_members : (k : List ℤ) → Memᴰ k ks ↔ T (under_some cs k)
  maximal_members k = (
    under_maximal k,
    (λ t. let s = some_of (under k) cs t in low.closed k s.found ((tops s.found).0 s.listed).listed s.passes),
  )

  pub maximal_corners : (hs : List (List ℤ)) → CornerList cs hs → (k : List ℤ) → Memᴰ k hs ↔ Memᴰ k ks
  maximal_corners hs list = same_rows ks cs hs maximal_members list

-- and, the same, of the list of all its rows
pub lower_corners : (ks hs : List (List ℤ)) → Lower ks → CornerList ks hs → (k : List ℤ) → Memᴰ k hs ↔ Memᴰ k ks
lower_corners ks hs low list = same_rows ks ks hs (lower_members ks low) list
