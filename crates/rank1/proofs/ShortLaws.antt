-- A lower list and the first j axes: its different rows, shortened to these axes, are with zeros behind exactly its rows that are 0 from
-- axis j on. So the shortened rows meet a plan's rule with the beginning of a vector just where those rows meet it with the vector
-- (`short_rule`); and where they break it no vector of whole numbers that begins so is admissible for the list (`short_prune`).
use mathlib.Core.Path.{◌≡◌, refl, sym, ◌∙◌, ap, subst}
use mathlib.Core.Logic.{◌↔◌}
use mathlib.Core.List.Memᴰ
use mathlib.Core.List.{List, [], ◌∷◌, ◌++◌, map-append, Memᴰ}
use Prim.Native.Nat.{ℕ, zero, suc, ◌+◌, ◌-◌, ◌≤◌}
use native.Mathlib.Nat.{sub-zero}
use native.Mathlib.Omega.{arith}
use lib.Dec.{T}
use lib.IntN.{ℤ, pos, negsuc, nat_abs, ◌*ℤ◌, ◌+ℤ◌}
use lib.ListN.{length, take, length-append, length-replicate, replicate-append-replicate}
use lib.Seq.{length-take-le, take_at}
use Rattle.rank1.specs.Residue.{dot, residue, residue_at}
use Rattle.rank1.specs.Index.{zero_row, mirrors}
use Rattle.rank1.specs.Rule.{Admissible}
use Rattle.rank1.specs.Valid.{Nonnegative}
use Rattle.rank1.specs.Axes.{ZeroFrom}
use Rattle.rank1.specs.Corners.{under, Lower, Shortened}
use Rattle.rank1.proofs.DotLaws.{AgreeWhole, dot_nothing, dot_agrees}
use Rattle.rank1.proofs.MirrorLaws.{sizes, same_length, mirror-sizes, sizes-mirror, Mirror}
use Rattle.rank1.proofs.RuleLaws.{part, mirror_zero}
use Rattle.rank1.proofs.SymmetryLaws.{carried}
use Rattle.rank1.proofs.UnderLaws.{turn-under, under_zero}

-- ---- a row shortened to its first j axes, with zeros behind
abbrev pub cut : ℕ → List ℤ → List ℤ
cut j k = take j k ++ zero_row (length k - j)

-- it is up to the row
under-cut : (k : List ℤ) (j : ℕ) → Nonnegative k → T (under (cut j k) k)
under-cut [] zero n = tt
under-cut [] (suc j) n = let e : 0 - suc j ≡ 0 = omega arith in subst (λ (m : ℕ). T (under (zero_row m) [])) (sym e) tt
under-cut (negsuc a ∷ k) j n = absurd n
under-cut (pos a ∷ k) zero n = subst (λ (m : ℕ). T (under (zero_row m) (pos a ∷ k))) (sym (sub-zero (suc (length k)))) (under_zero (pos a ∷ k) n)
under-cut (pos a ∷ k) (suc j) n =
    turn-under a (take j k ++ zero_row (suc (length k) - suc j)) a k (omega arith) (subst (λ (m : ℕ). T (under (take j k ++ zero_row m) k)) same (under-cut k j n))
  where
    same : length k - j ≡ suc (length k) - suc j
    same = omega arith

-- so it is in the list
pub cut_in : (ks : List (List ℤ)) → Lower ks → (k : List ℤ) (j : ℕ) → Memᴰ k ks → Memᴰ (cut j k) ks
cut_in ks low k j m = low.closed (cut j k) k m (under-cut k j (low.unsigned k m))

-- a row that is 0 from axis j on is its own shortened row
pub cut_self : (k : List ℤ) (j : ℕ) → ZeroFrom j k → cut j k ≡ k
cut_self [] zero h = refl
cut_self [] (suc j) h = let e : 0 - suc j ≡ 0 = omega arith in ap zero_row e
cut_self (x ∷ k) zero h =
    ap zero_row (sub-zero (suc (length k)))
    ∙ ap (λ (y : ℤ). y ∷ zero_row (length k)) (sym (h 0 (omega arith)))
    ∙ ap (λ (r : List ℤ). x ∷ r) (ap zero_row (sym (sub-zero (length k))) ∙ cut_self k zero (λ i l. h (suc i) (omega arith)))
cut_self (x ∷ k) (suc j) h =
    let e : suc (length k) - suc j ≡ length k - j = omega arith in
    ap (λ (n : ℕ). x ∷ (take j k ++ zero_row n)) e ∙ ap (λ (r : List ℤ). x ∷ r) (cut_self k j (λ i l. h (suc i) (omega arith)))

-- ---- zeros behind a row
padded_zero : (h : List ℤ) (e : ℕ) → ZeroFrom (length h) (h ++ zero_row e)
padded_zero [] zero i l = refl
padded_zero [] (suc e) zero l = refl
padded_zero [] (suc e) (suc i) l = padded_zero [] e i (omega arith)
padded_zero (x ∷ h) e zero l = absurd (omega arith)
padded_zero (x ∷ h) e (suc i) l = padded_zero h e i (omega arith)

-- a row with zeros behind is a zero row just where the row is
zero_padded : (h : List ℤ) (e : ℕ) → h ++ zero_row e ≡ zero_row (length (h ++ zero_row e)) → h ≡ zero_row (length h)
zero_padded h e p =
    sym (take_at h (zero_row e) (length h) refl)
    ∙ ap (take (length h)) (p ∙ ap zero_row (length-append h (zero_row e)) ∙ sym (replicate-append-replicate (length h) (length (zero_row e)) (pos 0)))
    ∙ take_at (zero_row (length h)) (zero_row (length (zero_row e))) (length h) (length-replicate (length h) (pos 0))

padded-row : (h : List ℤ) (e : ℕ) → h ≡ zero_row (length h) → h ++ zero_row e ≡ zero_row (length (h ++ zero_row e))
padded-row h e p =
    ap (λ (r : List ℤ). r ++ zero_row e) p
    ∙ replicate-append-replicate (length h) e (pos 0)
    ∙ ap zero_row (sym (length-append h (zero_row e) ∙ ap (λ (m : ℕ). length h + m) (length-replicate e (pos 0))))

-- ---- the residue of a row that is 0 from axis j on is that of the shortened row
dot_short : (j : ℕ) (s z : List ℤ) → ZeroFrom j s → dot s z ≡ dot (take j s) z
dot_short zero s z f = dot_nothing s z f
dot_short (suc j) [] z f = refl
dot_short (suc j) (x ∷ s) [] f = refl
dot_short (suc j) (x ∷ s) (y ∷ z) f = ap (λ (a : ℤ). x *ℤ y +ℤ a) (dot_short j s z (λ i l. f (suc i) (omega arith)))

residue_short : (n j : ℕ) (s p z : List ℤ) → ZeroFrom j s → AgreeWhole j p z → residue_at n p (take j s) ≡ residue_at n z s
residue_short n j s p z f g = ap (residue n) (sym (dot_short j s p f) ∙ dot_agrees j s p z f g)

-- ---- sizes of shortened rows, and of rows with zeros behind
sizes-take : (j : ℕ) (s : List ℤ) → sizes (take j s) ≡ take j (sizes s)
sizes-take zero s = refl
sizes-take (suc j) [] = refl
sizes-take (suc j) (x ∷ s) = ap (λ (r : List ℕ). nat_abs x ∷ r) (sizes-take j s)

mirror-take : (j : ℕ) (k s : List ℤ) → Memᴰ s (mirrors k) → Memᴰ (take j s) (mirrors (take j k))
mirror-take j k s m = sizes-mirror (take j k) (take j s) (sizes-take j s ∙ ap (take j) (mirror-sizes k s m) ∙ sym (sizes-take j k))

mirror-padded : (e : ℕ) (k s : List ℤ) → Memᴰ s (mirrors k) → Memᴰ (s ++ zero_row e) (mirrors (k ++ zero_row e))
mirror-padded e k s m =
    sizes-mirror (k ++ zero_row e) (s ++ zero_row e)
    (map-append nat_abs s (zero_row e) ∙ ap (λ (r : List ℕ). r ++ sizes (zero_row e)) (mirror-sizes k s m) ∙ sym (map-append nat_abs k (zero_row e)))

-- ---- the shortened rows hs of a lower list ks of rows of d components, and its rows ends that are 0 from axis j on
pub record Cut (d j : ℕ) (ks hs ends : List (List ℤ)) : Type 0 where
  pub within : j ≤ d
  pub long : (k : List ℤ) → Memᴰ k ks → length k ≡ d
  pub lower : Lower ks
  pub shortened : Shortened j ks hs
  pub ending : (k : List ℤ) → Memᴰ k ends ↔ (Memᴰ k ks × ZeroFrom j k)

module _ (d j : ℕ) (ks hs ends : List (List ℤ)) (c : Cut d j ks hs ends) where
  -- zeros behind a shortened row
  abbrev pub padded : List ℤ → List ℤ
  padded h = h ++ zero_row (d - j)

  short_length : (h : List ℤ) → Memᴰ h hs → length h ≡ j
  short_length h m =
      let r = c.shortened.only h m in
      ap length r.2 ∙ length-take-le j r.0 (omega (arith, c.within, c.long r.0 r.1))

  -- they are exactly the rows that are 0 from axis j on: each shortened row with zeros behind is one,
  pub short_ends : (h : List ℤ) → Memᴰ h hs → Memᴰ (padded h) ends
  short_ends h m =
      let r = c.shortened.only h m in
      let same : cut j r.0 ≡ padded h = ap (λ (n : ℕ). take j r.0 ++ zero_row (n - j)) (c.long r.0 r.1) ∙ ap padded (sym r.2) in
      (c.ending (padded h)).1 (
        Memᴰ.cast (sym same) (cut_in ks c.lower r.0 j r.1),
        subst (λ (i : ℕ). ZeroFrom i (padded h)) (short_length h m) (padded_zero h (d - j)),
      )

  -- and each of them is a shortened row with zeros behind
  pub ends_short : (k : List ℤ) → Memᴰ k ends → Memᴰ (take j k) hs × (padded (take j k) ≡ k)
  ends_short k m =
      let r = (c.ending k).0 m in
      (c.shortened.each k r.0, ap (λ (n : ℕ). take j k ++ zero_row (n - j)) (sym (c.long k r.0)) ∙ cut_self k j r.1)

  -- a mirror of a shortened row has its length; one of a row that ends there ends there and has d components
  short_mirror : (s : List ℤ) → Mirror hs s → length s ≡ j
  short_mirror s p = same_length s p.row (mirror-sizes p.row s p.mirror) ∙ short_length p.row p.listed

  ends_mirror : (s : List ℤ) → Mirror ends s → ZeroFrom j s × (length s ≡ d)
  ends_mirror s p =
      let r = (c.ending p.row).0 p.listed in
      (mirror_zero j p.row s r.1 p.mirror, same_length s p.row (mirror-sizes p.row s p.mirror) ∙ c.long p.row r.0)

  -- so it is its shortened row with zeros behind
  mirror_back : (s : List ℤ) → Mirror ends s → padded (take j s) ≡ s
  mirror_back s p = let r = ends_mirror s p in ap (λ (n : ℕ). take j s ++ zero_row (n - j)) (sym r.1) ∙ cut_self s j r.0

  -- ---- the rule, for a vector z and its beginning p
  module _ (n : ℕ) (p z : List ℤ) (begins : AgreeWhole j p z) where
    -- from the shortened rows to those that end there
    to_ends : (plan : ℕ) → Admissible plan hs n p → Admissible plan ends n z
    to_ends =
        carried ends hs n z p (take j)
        (record {
          row = λ k m. (ends_short k m).0;
          mirror = λ k s m i. mirror-take j k s i;
          one-one = λ s t q r e. sym (mirror_back s q) ∙ ap padded e ∙ mirror_back t r;
          zero_row_lem = λ k m e. sym (ends_short k m).1 ∙ padded-row (take j k) (d - j) e ∙ ap (λ (r : List ℤ). zero_row (length r)) (ends_short k m).1;
          residue = λ s q. residue_short n j s p z (ends_mirror s q).0 begins;
        })

    -- and back
    from_ends : (plan : ℕ) → Admissible plan ends n z → Admissible plan hs n p
    from_ends =
        carried hs ends n p z padded
        (record {
          row = short_ends;
          mirror = λ k s m i. mirror-padded (d - j) k s i;
          one-one = λ s t q r e. sym (front s q) ∙ ap (take j) e ∙ front t r;
          zero_row_lem = λ k m. zero_padded k (d - j);
          residue = λ s q. sym (residue_short n j (padded s) p z (behind s q) begins) ∙ ap (residue_at n p) (front s q);
        })
      where
        front : (s : List ℤ) → Mirror hs s → take j (padded s) ≡ s
        front s q = take_at s (zero_row (d - j)) j (short_mirror s q)

        behind : (s : List ℤ) → Mirror hs s → ZeroFrom j (padded s)
        behind s q = subst (λ (i : ℕ). ZeroFrom i (padded s)) (short_mirror s q) (padded_zero s (d - j))

    pub short_rule : (plan : ℕ) → Admissible plan hs n p ↔ Admissible plan ends n z
    short_rule plan = (to_ends plan, from_ends plan)

    -- where the shortened rows break the rule with the beginning, the vector is not admissible
    pub short_prune : (plan : ℕ) → (Admissible plan hs n p → ⊥) → Admissible plan ks n z → ⊥
    short_prune plan breaks a = breaks (from_ends plan (part plan ks ends n z (λ k m. ((c.ending k).0 m).0) a))
