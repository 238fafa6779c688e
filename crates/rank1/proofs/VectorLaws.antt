-- A multiple of a vector modulo n: it is in range, and where the multiplier has an inverse it is admissible with the vector.
use mathlib.Core.Path.{◌≡◌, refl, sym, ◌∙◌, ap, subst}
use mathlib.Core.Logic.{◌↔◌}
use mathlib.Core.List.{List, [], ◌∷◌, map}
use Prim.Native.Nat.{ℕ, zero, suc, ◌*◌, ◌%◌, ◌<◌}
use native.Mathlib.Nat.{mod-lt}
use lib.IntN.{ℤ, pos}
use lib.ListN.{length, get_or, length-map}
use Rattle.rank1.specs.Rule.{Rule, Admissible}
use Rattle.rank1.specs.Search.{InRange}
use Rattle.rank1.proofs.DotLaws.{reduced, scaled}
use Rattle.rank1.proofs.Coprime.{Coprime}
use Rattle.rank1.proofs.RuleLaws.{reduction, scaling}

-- ---- u times a vector, modulo n
abbrev pub times : ℕ → ℕ → List ℕ → List ℕ
times n u = map (λ (x : ℕ). (u * x) % n)

pub times_below : (n u : ℕ) (z : List ℕ) (j : ℕ) → 0 < n → get_or (times n u z) j 0 < n
times_below n u [] j h = h
times_below n u (x ∷ z) zero h = mod-lt (u * x) h
times_below n u (x ∷ z) (suc j) h = times_below n u z j h

pub times_ranged : (n d u : ℕ) (z : List ℕ) → 0 < n → length z ≡ d → InRange n d (times n u z)
times_ranged n d u z h e = record { size = length-map z (λ (x : ℕ). (u * x) % n) ∙ e; below = λ j l. times_below n u z j h }

times-reduced : (n u : ℕ) (z : List ℕ) → map pos (times n u z) ≡ reduced n (scaled (pos u) (map pos z))
times-reduced n u [] = refl
times-reduced n u (x ∷ z) = ap (λ (l : List ℤ). pos ((u * x) % n) ∷ l) (times-reduced n u z)

-- with an inverse of u: admissible together
pub times-admissible : (plan : ℕ) (ks : List (List ℤ)) (n u : ℕ) (z : List ℕ) → 0 < n → Coprime u n → Admissible plan ks n (map pos z) ↔ Admissible plan ks n (map pos (times n u z))
times-admissible plan ks n u z h c =
    let s = scaling plan ks n (map pos z) (pos u) (pos c.inverse) h c.is in
    let r = reduction plan ks n (scaled (pos u) (map pos z)) h in
    subst (λ (y : List ℤ). Admissible plan ks n (map pos z) ↔ Admissible plan ks n y) (sym (times-reduced n u z))
    ((λ a. r.0 (s.0 a)), (λ a. s.1 (r.1 a)))

-- what a law of the search asks of a rule: that it passes to such a multiple
abbrev pub Scales : Rule → Type 0
Scales rule = (n u : ℕ) (z : List ℕ) → 0 < n → Coprime u n → rule n (map pos z) → rule n (map pos (times n u z))

pub plan_scales : (plan : ℕ) (ks : List (List ℤ)) → Scales (Admissible plan ks)
plan_scales plan ks n u z h c = (times-admissible plan ks n u z h c).0
