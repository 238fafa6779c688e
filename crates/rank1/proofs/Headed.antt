-- Lists made by putting each of some heads before each of some rests: members, number, and that no two are equal. Mirrors are
-- made so (a head for each sign), and so are all vectors in range (a head for each number below n).
use mathlib.Core.Path.{◌≡◌, refl, sym, ◌∙◌, ap}
use mathlib.Core.Logic.{⊎_elim}
use mathlib.Core.List.Memᴰ
use mathlib.Core.List.{List, [], ◌∷◌, map, Memᴰ, head-eq_of_cons-eq, tail-eq_of_cons-eq, nil≢cons}
use Prim.Native.Nat.{ℕ, ◌+◌, ◌*◌}
use native.Mathlib.Nat.{zero-mul, suc-mul, add_comm}
use lib.ListN.{length, length-append, length-map}
use Rattle.rank1.specs.Index.{headed}
use Rattle.rank1.specs.Valid.{Distinct}
use Rattle.rank1.proofs.Distinct.{distinct_append, distinct_map}

module _ {A : Type 0} where
  pub headed_in : (hs : List A) (ss : List (List A)) (a : A) (s : List A) → Memᴰ a hs → Memᴰ s ss → Memᴰ (a ∷ s) (headed hs ss)
  headed_in [] ss a s m n = absurd (Memᴰ.not-nil m)
  headed_in (h ∷ hs) ss a s m n =
      ⊎_elim
      (λ e. Memᴰ.append_left (headed hs ss) (Memᴰ.cast (ap (λ (x : A). x ∷ s) e) (Memᴰ.map (λ t. h ∷ t) n)))
      (λ m'. Memᴰ.append_right (map (λ t. h ∷ t) ss) (headed_in hs ss a s m' n))
      (Memᴰ.cases_cons m)

  -- what is among them, taken apart
  pub record Parts (hs : List A) (ss : List (List A)) (x : List A) : Type 0 where
    pub head : A
    pub rest : List A
    pub is : x ≡ head ∷ rest
    pub among : Memᴰ head hs
    pub after : Memᴰ rest ss

  pub headed_parts : (hs : List A) (ss : List (List A)) (x : List A) → Memᴰ x (headed hs ss) → Parts hs ss x
  headed_parts [] ss x m = absurd (Memᴰ.not-nil m)
  headed_parts (h ∷ hs) ss x m =
      ⊎_elim
      (λ m'. let t = Memᴰ.of_map (λ s. h ∷ s) ss m' in record { head = h; rest = t.0; is = sym t.2; among = Memᴰ.head refl; after = t.1 })
      (λ m'. let p = headed_parts hs ss x m' in record { head = p.head; rest = p.rest; is = p.is; among = Memᴰ.tail p.among; after = p.after })
      (Memᴰ.append_cases (map (λ s. h ∷ s) ss) m)

  pub headed_nil : (hs : List A) (ss : List (List A)) → Memᴰ [] (headed hs ss) → ⊥
  headed_nil hs ss m = nil≢cons (headed_parts hs ss [] m).is

  pub headed-out : (hs : List A) (ss : List (List A)) (a : A) (s : List A) → Memᴰ (a ∷ s) (headed hs ss) → Memᴰ a hs × Memᴰ s ss
  headed-out hs ss a s m =
      let p = headed_parts hs ss (a ∷ s) m in
      (Memᴰ.cast (head-eq_of_cons-eq p.is) p.among, Memᴰ.cast (tail-eq_of_cons-eq p.is) p.after)

  pub headed-length : (hs : List A) (ss : List (List A)) → length (headed hs ss) ≡ length hs * length ss
  headed-length [] ss = sym (zero-mul (length ss))
  headed-length (h ∷ hs) ss =
      length-append (map (λ s. h ∷ s) ss) (headed hs ss)
      ∙ ap (λ (k : ℕ). k + length (headed hs ss)) (length-map ss (λ s. h ∷ s))
      ∙ ap (λ (k : ℕ). length ss + k) (headed-length hs ss)
      ∙ add_comm (length ss) (length hs * length ss)
      ∙ sym (suc-mul (length hs) (length ss))

  pub headed_distinct : (hs : List A) (ss : List (List A)) → Distinct hs → Distinct ss → Distinct (headed hs ss)
  headed_distinct [] ss dh ds = tt
  headed_distinct (h ∷ hs) ss dh ds =
      distinct_append (map (λ s. h ∷ s) ss) (headed hs ss)
      (distinct_map (λ s. h ∷ s) ss ds (λ x y m n o e. o (tail-eq_of_cons-eq e)))
      (headed_distinct hs ss dh.1 ds)
      (λ x m n. let t = Memᴰ.of_map (λ s. h ∷ s) ss m in dh.0 (headed-out hs ss h t.0 (Memᴰ.cast t.2 n)).0)
