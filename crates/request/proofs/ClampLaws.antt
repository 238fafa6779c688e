-- What stands for a component or a ceiling that is too large is refused just as well, so it changes no answer (clamp_answers).
use mathlib.Core.Path.{◌≡◌, refl, ◌∙◌, ap, subst}
use mathlib.Core.Bool.{Bool, true, false}
use mathlib.Core.List.{List, [], ◌∷◌, map, Memᴰ}
use Prim.Native.Nat.{ℕ, zero, suc, ◌≤◌}
use native.Mathlib.Omega.{arith}
use borrow.Author.Tests.{ltb-true, le-ltb, le-leb, lt-leb}
use lib.Dec.{ltb}
use lib.IntN.{ℤ, nat_abs}
use Rattle.rank1.specs.Tests.{any}
use Rattle.rank1.specs.Index.{index_list}
use Rattle.rank1.specs.Refusal.{refuse, first_of, outside, bad_component, equal_rows, bad_modulus}
use Rattle.rank1.proofs.ValidLaws.{component_clear, modulus_clear}
use Rattle.request.specs.Reading.{request}
use Rattle.request.specs.Answer.{refusal_text, PlanOrNine, RefusalTextOr, request_refusal, Answers}
use Rattle.request.specs.Inner.{clamped, clamped_ceiling}
use Rattle.request.proofs.RequestLaws.{three_none}

-- ---- what stands for a component that is too large
-- it is refused just as well
clamp_outside : (plan : ℕ) (x : ℤ) → outside plan (clamped x) ≡ outside plan x
clamp_outside plan x = go (ltb 255 (nat_abs x)) refl
  where
    go : (t : Bool) → ltb 255 (nat_abs x) ≡ t → outside plan (clamped x) ≡ outside plan x
    go true e = rw e
    go false e = ap (outside plan) (let same : clamped x ≡ x = rw e in same)

-- a test that does not tell g x from x
any-map : {A : Type 0} (f : A → Bool) (g : A → A) → ((x : A) → f (g x) ≡ f x) → (xs : List A) → any f (map g xs) ≡ any f xs
any-map f g h [] = refl
any-map f g h (x ∷ xs) = rw (h x, any-map f g h xs)

-- so 4 applies to the run with what stands for its components just where it applies to the run
clamp_component : (plan : ℕ) (run : List ℤ) → bad_component plan (map clamped run) ≡ bad_component plan run
clamp_component plan run = ap (refuse 4) (any-map (outside plan) clamped (clamp_outside plan) run)

-- one in range stands as it is, and so does a run of them
map_kept : (run : List ℤ) → ((x : ℤ) → Memᴰ x run → nat_abs x ≤ 255) → map clamped run ≡ run
map_kept [] h = refl
map_kept (x ∷ run) h =
    rw (le-ltb 255 (nat_abs x) (h x (Memᴰ.head refl)), map_kept run (λ y m. h y (Memᴰ.tail m)))

-- where 4 does not apply the run stands as it is
clamp_run : (plan : ℕ) (run : List ℤ) → bad_component plan run ≡ 0 → map clamped run ≡ run
clamp_run plan run e = map_kept run (λ x m. ((component_clear plan run).0 e x m).0)

-- ---- what stands for a ceiling that is too large
-- it is refused just as well
clamp_modulus : (n : ℕ) → bad_modulus (clamped_ceiling n) ≡ bad_modulus n
clamp_modulus n = go (ltb 8192 n) refl
  where
    go : (t : Bool) → ltb 8192 n ≡ t → bad_modulus (clamped_ceiling n) ≡ bad_modulus n
    go true e =
        let l = ltb-true 8192 n e in
        rw (e, le-leb 1 n (omega arith), lt-leb n 8192 l)
    go false e = rw e

-- where 6 does not apply the ceiling stands as it is
clamp_ceiling : (n : ℕ) → bad_modulus n ≡ 0 → clamped_ceiling n ≡ n
clamp_ceiling n e = rw (le-ltb 8192 n ((modulus_clear n).0 e).1)

-- ---- the refusals of a request
-- what follows a condition is asked only where it does not apply
first_of_alike : (a : ℕ) (xs ys : List ℕ) → (a ≡ 0 → first_of xs ≡ first_of ys) → first_of (a ∷ xs) ≡ first_of (a ∷ ys)
first_of_alike zero xs ys h = h refl
first_of_alike (suc a) xs ys h = refl

-- the first of 4, 5 and 6 that applies is the same
clamp_refusal : (plan d ceiling : ℕ) (run : List ℤ) → request_refusal plan d (clamped_ceiling ceiling) (map clamped run) ≡ request_refusal plan d ceiling run
clamp_refusal plan d ceiling run =
    ap (λ (k : ℕ). first_of (k ∷ equal_rows d (map clamped run) ∷ bad_modulus (clamped_ceiling ceiling) ∷ [])) (clamp_component plan run)
    ∙ first_of_alike (bad_component plan run) (equal_rows d (map clamped run) ∷ bad_modulus (clamped_ceiling ceiling) ∷ []) (equal_rows d run ∷ bad_modulus ceiling ∷ [])
    (λ e. ap (λ (xs : List ℤ). first_of (equal_rows d xs ∷ bad_modulus (clamped_ceiling ceiling) ∷ [])) (clamp_run plan run e)
    ∙ ap (λ (k : ℕ). first_of (equal_rows d run ∷ k ∷ [])) (clamp_modulus ceiling))

-- refused with the same number, or answered alike
refused_alike : (j k : ℕ) (a : List ℕ) (A B : Type 0) → j ≡ k → (k ≡ 0 → A → B) → RefusalTextOr j a A → RefusalTextOr k a B
refused_alike zero zero a A B e h p = h refl p
refused_alike zero (suc k) a A B e h p = absurd (omega arith)
refused_alike (suc j) zero a A B e h p = absurd (omega arith)
refused_alike (suc j) (suc k) a A B e h p = p ∙ ap refusal_text e

-- so the answer is that to the request as it was written
pub clamp_answers : (plan d ceiling : ℕ) (run : List ℤ) (a : List ℕ) → Answers (request plan d (clamped_ceiling ceiling) (map clamped run)) a → Answers (request plan d ceiling run) a
clamp_answers plan d ceiling run a =
    refused_alike (request_refusal plan d (clamped_ceiling ceiling) (map clamped run)) (request_refusal plan d ceiling run) a
    (PlanOrNine plan d (clamped_ceiling ceiling) (index_list d (map clamped run)) a) (PlanOrNine plan d ceiling (index_list d run) a)
    (clamp_refusal plan d ceiling run)
    (λ e p.
    let n = three_none (bad_component plan run) (equal_rows d run) (bad_modulus ceiling) e in
    subst (λ (k : ℕ). PlanOrNine plan d k (index_list d run) a) (clamp_ceiling ceiling n.2)
    (subst (λ (xs : List ℤ). PlanOrNine plan d (clamped_ceiling ceiling) (index_list d xs) a) (clamp_run plan run n.0) p))
