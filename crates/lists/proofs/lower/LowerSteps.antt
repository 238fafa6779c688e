-- A list is lower just where every component of every row is 0 or can be lowered by one (`steps_lower`, `lower_steps`).
use mathlib.Core.Path.{◌≡◌, refl, sym, ◌∙◌, ap, subst}
use mathlib.Core.Logic.{⊎_elim}
use mathlib.Core.Bool.{true}
use mathlib.Core.List.Memᴰ
use mathlib.Core.List.{List, [], ◌∷◌, ◌++◌, Memᴰ}
use Prim.Native.Nat.{ℕ, zero, suc, ◌≤◌, ◌<◌}
use native.Mathlib.Omega.{arith}
use lib.Dec.{T}
use lib.IntN.{ℤ, pos, negsuc}
use lib.ListN.{length, get_or, set, length-append}
use lib.Seq.{append_snoc, get_or-append_seam, set-append_seam}
use Rattle.rank1.specs.Tests.{any, same_row}
use Rattle.rank1.specs.Valid.{Nonnegative}
use Rattle.rank1.specs.Corners.{under, Lower}
use Rattle.rank1.proofs.TestLaws.{false_fails, decided_true, decides_among}
use Rattle.rank1.proofs.Distinct.{member_at, place_of}
use Rattle.rank1.proofs.Order.{compared}
use Rattle.rank1.proofs.UnderLaws.{under-turn, turn-under, under_refl}
use Rattle.lists.specs.Inner.{steps, RowSteps, ListSteps}

-- a row is one of a list just where the test says so
among : (h : List ℤ) (ks : List (List ℤ)) → any (same_row h) ks ≡ true → Memᴰ h ks
among h ks = (decided_true (any (same_row h) ks) (decides_among h ks)).0

stands : (h : List ℤ) (ks : List (List ℤ)) → Memᴰ h ks → any (same_row h) ks ≡ true
stands h ks = (decided_true (any (same_row h) ks) (decides_among h ks)).1

-- ---- lower by steps of one
-- every row of the list passes
row_of : (ks : List (List ℤ)) → ListSteps ks → (k : List ℤ) → Memᴰ k ks → RowSteps ks k
row_of ks s k m = let p = place_of ks k [] m in subst (RowSteps ks) p.is (s p.index p.inside)

-- so no component is negative
steps-unsigned : (h : List ℤ) → ((j : ℕ) → j < length h → (x : ℤ) → get_or h j (pos 0) ≡ x → Nonnegative (x ∷ [])) → Nonnegative h
steps-unsigned [] s = tt
steps-unsigned (pos a ∷ h) s = steps-unsigned h (λ j l. s (suc j) (omega arith))
steps-unsigned (negsuc a ∷ h) s = s 0 (omega arith) (negsuc a) refl

step_sign : (ks : List (List ℤ)) (k : List ℤ) (j : ℕ) (x : ℤ) → steps ks k j x ≡ true → Nonnegative (x ∷ [])
step_sign ks k j (pos a) e = tt
step_sign ks k j (negsuc a) e = false_fails true (sym e) tt

-- and with a row the row with a component one lower is in
step_in : (ks : List (List ℤ)) → ListSteps ks → (k : List ℤ) → Memᴰ k ks → (j a : ℕ) → j < length k → get_or k j (pos 0) ≡ pos (suc a) → Memᴰ (set k j (pos a)) ks
step_in ks s k m j a l e = among (set k j (pos a)) ks (sym (ap (steps ks k j) e) ∙ row_of ks s k m j l)

module _ (ks : List (List ℤ)) (s : ListSteps ks) where
  -- one component goes down from b to a
  lower_one : (front : List ℤ) (b : ℕ) (rest : List ℤ) (a : ℕ) → a ≤ b → Memᴰ (front ++ pos b ∷ rest) ks → Memᴰ (front ++ pos a ∷ rest) ks
  lower_one front zero rest a l m = let e : a ≡ 0 = omega arith in Memᴰ.cast (ap (λ (c : ℕ). front ++ pos c ∷ rest) e) m
  lower_one front (suc b) rest a l m =
      ⊎_elim
      (λ h. lower_one front b rest a (omega arith) one)
      (⊎_elim (λ e. Memᴰ.cast (ap (λ (c : ℕ). front ++ pos c ∷ rest) e) m) (λ h. absurd (omega arith)))
      (compared a (suc b))
    where
      one : Memᴰ (front ++ pos b ∷ rest) ks
      one =
          Memᴰ.cast (sym (set-append_seam front (pos (suc b)) rest (pos b)))
          (step_in ks s (front ++ pos (suc b) ∷ rest) m (length front) b (omega (arith, length-append front (pos (suc b) ∷ rest))) (get_or-append_seam front (pos (suc b)) rest (pos 0)))

  -- component by component
  lower_all : (front k h : List ℤ) → Memᴰ (front ++ k) ks → T (under h k) → Memᴰ (front ++ h) ks
  lower_all front [] [] m t = m
  lower_all front [] (x ∷ h) m t = absurd t
  lower_all front (y ∷ k) [] m t = absurd t
  lower_all front (pos b ∷ k) (pos a ∷ h) m t =
      let u = under-turn a h b k t in
      Memᴰ.cast (sym (append_snoc front (pos a) h))
      (lower_all (front ++ (pos a ∷ [])) k h (Memᴰ.cast (append_snoc front (pos a) k) (lower_one front b k a u.0 m)) u.1)
  lower_all front (negsuc b ∷ k) (pos a ∷ h) m t = absurd t
  lower_all front (y ∷ k) (negsuc a ∷ h) m t = absurd t

  pub steps_lower : Lower ks
  steps_lower = record {
    unsigned = λ k m. steps-unsigned k (λ j l x e. step_sign ks k j x (sym (ap (steps ks k j) e) ∙ row_of ks s k m j l));
    closed = λ h k m t. lower_all [] k h m t;
  }

-- a lower list passes: a row with a component one lower is up to the row
under-set : (k : List ℤ) (j a : ℕ) → Nonnegative k → get_or k j (pos 0) ≡ pos (suc a) → T (under (set k j (pos a)) k)
under-set [] j a n e = tt
under-set (negsuc b ∷ k) j a n e = absurd n
under-set (pos b ∷ k) zero a n e = turn-under a k b k (omega (arith, pos_same b (suc a) e)) (under_refl k n)
  where
    pos_same : (b c : ℕ) → pos b ≡ pos c → b ≡ c
    pos_same b c p = cc
under-set (pos b ∷ k) (suc j) a n e = turn-under b (set k j (pos a)) b k (omega arith) (under-set k j a n e)

step_holds : (ks : List (List ℤ)) (k : List ℤ) (j : ℕ) (x : ℤ) → Lower ks → Memᴰ k ks → get_or k j (pos 0) ≡ x → Nonnegative (x ∷ []) → steps ks k j x ≡ true
step_holds ks k j (pos zero) low m e n = refl
step_holds ks k j (pos (suc a)) low m e n = stands (set k j (pos a)) ks (low.closed (set k j (pos a)) k m (under-set k j a (low.unsigned k m) e))
step_holds ks k j (negsuc a) low m e n = absurd n

sign_at : (k : List ℤ) (j : ℕ) → Nonnegative k → Nonnegative (get_or k j (pos 0) ∷ [])
sign_at [] j n = tt
sign_at (pos a ∷ k) zero n = tt
sign_at (pos a ∷ k) (suc j) n = sign_at k j n
sign_at (negsuc a ∷ k) j n = absurd n

pub lower_steps : (ks : List (List ℤ)) → Lower ks → ListSteps ks
lower_steps ks low i l j h =
    let k = get_or ks i [] in
    let m = member_at ks [] i l in
    step_holds ks k j (get_or k j (pos 0)) low m refl (sign_at k j (low.unsigned k m))
