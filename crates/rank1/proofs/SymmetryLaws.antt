-- Rows moved by a function into a list: where it tells rows, zero rows and mirrors from others and their residues stay, the rule comes
-- back from that list (`carried`). So with a function that keeps the list, a vector with which each row has the residue that the moved
-- row has with z is admissible with z (`symmetric`); and if z is the first vector below a bound, that one does not come before it
-- (`none-lower`).
use mathlib.Core.Path.{◌≡◌, sym, ◌∙◌, ap, subst}
use mathlib.Core.Logic.{⊎_elim}
use mathlib.Core.List.{List, map, map-map, Memᴰ}
use Prim.Native.Nat.{ℕ, zero, suc, ◌<◌, ◌≤◌}
use native.Mathlib.Nat.{mod-eq_of_lt}
use native.Mathlib.Omega.{arith}
use lib.IntN.{ℤ, pos}
use lib.ListN.{length, get_or, length-map}
use Rattle.rank1.specs.Residue.{residue, residue_at}
use Rattle.rank1.specs.Index.{zero_row, mirrors, mirrored}
use Rattle.rank1.specs.Rule.{Integrates, Reconstructs, PlanA, PlanB, PlanC, Rule, Admissible}
use Rattle.rank1.specs.Search.{Before, InRange}
use Rattle.rank1.specs.Below.{FirstBelow}
use Rattle.rank1.specs.Differences.{Apart}
use Rattle.rank1.proofs.Order.{compared, before_strict, before_at}
use Rattle.rank1.proofs.MirrorLaws.{sizes, mirror_self, mirror-sizes, sizes-mirror, Mirror, mirrored_in, mirrored-out}
use Rattle.rank1.proofs.RuleLaws.{one-rule, Reduces}
use Rattle.rank1.proofs.SearchLaws.{residue_at_lem, residues-ranged, none_before}

-- ---- rows moved into a list
-- f moves the rows of ks to rows of ks' and their mirrors along, no two of these to one row, and only zero rows to zero rows; a moved row
-- has with z' the residue that the row has with z
pub record Moves (ks ks' : List (List ℤ)) (n : ℕ) (z z' : List ℤ) (f : List ℤ → List ℤ) : Type 0 where
  pub row : (k : List ℤ) → Memᴰ k ks → Memᴰ (f k) ks'
  pub mirror : (k s : List ℤ) → Memᴰ k ks → Memᴰ s (mirrors k) → Memᴰ (f s) (mirrors (f k))
  pub one-one : (s t : List ℤ) → Mirror ks s → Mirror ks t → f s ≡ f t → s ≡ t
  pub zero_row_lem : (k : List ℤ) → Memᴰ k ks → f k ≡ zero_row (length (f k)) → k ≡ zero_row (length k)
  pub residue : (s : List ℤ) → Mirror ks s → residue_at n z' (f s) ≡ residue_at n z s

module _ (ks ks' : List (List ℤ)) (n : ℕ) (z z' : List ℤ) (f : List ℤ → List ℤ) (y : Moves ks ks' n z z' f) where
  -- a row is one of its mirrors
  self : (k : List ℤ) → Memᴰ k ks → Mirror ks k
  self k m = record { row = k; listed = m; mirror = mirror_self k }

  of : (k s : List ℤ) → Memᴰ k ks → Memᴰ s (mirrors k) → Mirror ks s
  of k s m i = record { row = k; listed = m; mirror = i }

  -- a member of M goes to a member of M
  mirrored_moved : (s : List ℤ) → Mirror ks s → Memᴰ (f s) (mirrored ks')
  mirrored_moved s r = mirrored_in ks' (f r.row) (f s) (y.row r.row r.listed) (y.mirror r.row s r.listed r.mirror)

  -- equal residues stay equal
  equal : (s t : List ℤ) → Mirror ks s → Mirror ks t → residue_at n z s ≡ residue_at n z t → residue_at n z' (f s) ≡ residue_at n z' (f t)
  equal s t p q e = y.residue s p ∙ e ∙ sym (y.residue t q)

  -- so whatever the plan keeps apart in ks it keeps apart in ks'
  pub carried : (plan : ℕ) → Admissible plan ks' n z' → Admissible plan ks n z
  unfolding Integrates Reconstructs PlanA PlanB PlanC
  carried zero a = λ k m d e. a (f k) (y.row k m) (λ q. d (y.zero_row_lem k m q)) (y.residue k (self k m) ∙ e)
  carried (suc zero) a = λ k k' m m' d e.
      a (f k) (f k') (y.row k m) (y.row k' m') (λ q. d (y.one-one k k' (self k m) (self k' m') q)) (equal k k' (self k m) (self k' m') e)
  carried (suc (suc zero)) a = λ s s' m m' d e.
      let p = mirrored-out ks s m in
      let p' = mirrored-out ks s' m' in
      a (f s) (f s') (mirrored_moved s p) (mirrored_moved s' p') (λ q. d (y.one-one s s' p p' q)) (equal s s' p p' e)
  carried (suc (suc (suc zero))) a = λ k k' s m m' i d e.
      a (f k) (f k') (f s) (y.row k m) (y.row k' m') (y.mirror k' s m' i)
      (λ q. d (y.one-one s k (of k' s m' i) (self k m) q)) (equal s k (of k' s m' i) (self k m) e)
  carried (suc (suc (suc (suc zero)))) a = λ k k' s m m' d i e.
      a (f k) (f k') (f s) (y.row k m) (y.row k' m') (λ q. d (y.one-one k k' (self k m) (self k' m') q)) (y.mirror k' s m' i)
      (equal s k (of k' s m' i) (self k m) e)
  carried (suc (suc (suc (suc (suc q))))) a = a

-- ---- rows moved within their list
-- a function of rows that keeps the list, and tells rows, zero rows and mirrors from others
pub record Symmetry (ks : List (List ℤ)) (f : List ℤ → List ℤ) : Type 0 where
  pub keeps : (k : List ℤ) → Memᴰ k ks → Memᴰ (f k) ks
  pub one-one : (s t : List ℤ) → f s ≡ f t → s ≡ t
  pub zero_row_lem : (k : List ℤ) → f k ≡ zero_row (length (f k)) → k ≡ zero_row (length k)
  pub same : (s k : List ℤ) → sizes s ≡ sizes k → sizes (f s) ≡ sizes (f k)

-- under every plan, where z' gives the rows the residues that z gives the moved rows
pub symmetric : (plan : ℕ) (ks : List (List ℤ)) (n : ℕ) (z z' : List ℤ) (f : List ℤ → List ℤ) → Symmetry ks f → ((k s : List ℤ) → Memᴰ k ks → Memᴰ s (mirrors k) → residue_at n z (f s) ≡ residue_at n z' s) → Admissible plan ks n z → Admissible plan ks n z'
symmetric plan ks n z z' f y equal =
    carried ks ks n z' z f
    (record {
      row = y.keeps;
      mirror = λ k s m i. sizes-mirror (f k) (f s) (y.same s k (mirror-sizes k s i));
      one-one = λ s t p q. y.one-one s t;
      zero_row_lem = λ k m. y.zero_row_lem k;
      residue = λ s p. equal p.row s p.listed p.mirror;
    })
    plan

-- the same where only the pairs that the plan keeps apart go to such pairs
pub moved : (plan : ℕ) (ks : List (List ℤ)) (n : ℕ) (z z' : List ℤ) (f : List ℤ → List ℤ) → ((s t : List ℤ) → Apart plan ks s t → Apart plan ks (f s) (f t)) → ((s t : List ℤ) → Apart plan ks s t → (residue_at n z (f s) ≡ residue_at n z' s) × (residue_at n z (f t) ≡ residue_at n z' t)) → Admissible plan ks n z → Admissible plan ks n z'
moved plan ks n z z' f pairs equal a =
    (one-rule ks n z' plan).1
    (λ s t p e. let q = equal s t p in (one-rule ks n z plan).0 a (f s) (f t) (pairs s t p) (q.0 ∙ e ∙ sym q.1))

-- ---- the first vector below a bound
-- residues that are the components of z before an axis, and less there, come before z
lower_before : (n : ℕ) (y : List ℤ) (z : List ℕ) (i : ℕ) → length y ≡ length z → i < length z → ((a : ℕ) → a < i → residue n (get_or y a (pos 0)) ≡ get_or z a 0) → residue n (get_or y i (pos 0)) < get_or z i 0 → Before (map (residue n) y) z
lower_before n y z i e l f g =
    before_at i (map (residue n) y) z (omega (arith, length-map y (residue n))) l (λ a k. residue_at_lem n y a ∙ f a k) (omega (arith, residue_at_lem n y i))

-- a component of a vector below b is its own residue
pub own_residue : (n b d : ℕ) (z : List ℕ) (a : ℕ) → b ≤ n → a < d → InRange b d z → residue n (pos (get_or z a 0)) ≡ get_or z a 0
own_residue n b d z a u l r = mod-eq_of_lt (omega (arith, r.below a l))

-- so a number that is such a component has a residue below b
pub component-below : (n b d : ℕ) (z : List ℕ) (a : ℕ) (x : ℤ) → b ≤ n → a < d → InRange b d z → x ≡ pos (get_or z a 0) → residue n x < b
component-below n b d z a x u l r e = subst (λ (c : ℕ). c < b) (sym (ap (residue n) e ∙ own_residue n b d z a u l r)) (r.below a l)

-- no admissible vector of whole numbers has the components of the first one below b before an axis, a lower residue there, and
-- residues below b behind it
pub none-lower :
    (rule : Rule) (d n b : ℕ) (z : List ℕ) → Reduces rule → 0 < n → b ≤ n → FirstBelow rule d n b z
    → (y : List ℤ) → length y ≡ d → rule n y → (i : ℕ) → i < d → ((a : ℕ) → a < i → get_or y a (pos 0) ≡ pos (get_or z a 0))
    → residue n (get_or y i (pos 0)) < get_or z i 0 → ((a : ℕ) → i < a → a < d → residue n (get_or y a (pos 0)) < b) → ⊥
none-lower rule d n b z passes h u f y e r i l before lower behind =
    none_before rule d Before before_strict n b z f (map (residue n) y) (residues-ranged n b d y e below)
    (subst (rule n) (sym (map-map pos (residue n) y)) (passes n y h r))
    (lower_before n y z i (e ∙ sym f.ranged.size) (omega (arith, f.ranged.size))
    (λ a k. ap (residue n) (before a k) ∙ own_residue n b d z a u (omega arith) f.ranged)
    lower)
  where
    below : (a : ℕ) → a < d → residue n (get_or y a (pos 0)) < b
    below a k =
        ⊎_elim (λ m. component-below n b d z a (get_or y a (pos 0)) u k f.ranged (before a m))
        (⊎_elim (λ m. subst (λ (c : ℕ). residue n (get_or y c (pos 0)) < b) (sym m) (omega (arith, lower, f.ranged.below i l))) (λ m. behind a m k))
        (compared a i)
