-- What a text asks, in bounds (reading_bounded): a refusal's number is at most 12; a request has a plan from 0 to 4, 1 to 6 axes, and
-- a run of m × d numbers with m from 0 to 512. And a text that asks for a plan, taken apart into its lines (lines_of).
use mathlib.Core.Path.{◌≡◌, refl, sym, ◌∙◌, ap, subst}
use mathlib.Core.Bool.{Bool, true, false, cond, not}
use mathlib.Core.List.{List, [], ◌∷◌}
use Prim.Native.Nat.{ℕ, zero, suc, ◌*◌, ◌/◌, ◌≤◌}
use native.Mathlib.Nat.{zero-mul, suc-mul, mul-div_cancel}
use native.Mathlib.Omega.{arith}
use borrow.Author.Tests.{ltb-false, not-false}
use lib.Dec.{eqb, ltb}
use lib.IntN.{ℤ}
use lib.ListN.{length, length-append}
use Rattle.rank1.specs.Index.{row_count}
use Rattle.rank1.specs.Refusal.{within, refuse, first_of, bad_plan, bad_axes}
use Rattle.rank1.proofs.RefusalLaws.{first_of_none, refuse_none}
use Rattle.request.specs.Reading.{Parsed, bad, got, and_then, expect, read_line, read_number, read_signed, read_rows, Reading, refused, request, after_rows, head_refusal, unless, after_head, reading}
use Rattle.request.specs.Inner.{HeadIn}
use Rattle.request.proofs.CondLaws.{within_of}

-- ---- how many fields are read
module _ {A : Type 0} where
  -- what was parsed has k members
  abbrev pub Members : ℕ → Parsed (List A) → Type 0
  Members k bad = Unit {0}
  Members k (got xs s) = length xs ≡ k

  -- a test, or out of form
  members-cond : (k : ℕ) (t : Bool) (p : Parsed (List A)) → Members k p → Members k (cond t p bad)
  members-cond k true p h = h
  members-cond k false p h = tt

  -- a byte before it
  members-expect : (k b : ℕ) (next : List ℕ → Parsed (List A)) (s : List ℕ) → ((t : List ℕ) → Members k (next t)) → Members k (expect b next s)
  members-expect k b next [] h = tt
  members-expect k b next (c ∷ s) h = members-cond k (eqb c b) (next s) (h s)

module _ {A B : Type 0} where
  -- one part and then another
  members_then : (k : ℕ) (p : Parsed A) (next : A → List ℕ → Parsed (List B)) → ((a : A) (s : List ℕ) → Members k (next a s)) → Members k (and_then p next)
  members_then k bad next h = tt
  members_then k (got a s) next h = h a s

  -- j members, and from them k
  members-after : (j k : ℕ) (p : Parsed (List A)) (next : List A → List ℕ → Parsed (List B)) → Members j p → ((xs : List A) (s : List ℕ) → length xs ≡ j → Members k (next xs s)) → Members k (and_then p next)
  members-after j k bad next m h = tt
  members-after j k (got xs s) next m h = h xs s m

-- so it is where the fields are known
pub members_got : {A : Type 0} (k : ℕ) (p : Parsed (List A)) (xs : List A) (s : List ℕ) → Members k p → p ≡ got xs s → length xs ≡ k
members_got k p xs s m e = subst (Members k) e m

-- a line of k fields gives k of them
pub line-members : {A : Type 0} (field : List ℕ → Parsed A) (k : ℕ) (s : List ℕ) → Members k (read_line field k s)
line-members field zero s = tt
line-members field (suc zero) s = members_then 1 (field s) _ (λ a r. members-expect 1 10 (λ t. got (a ∷ []) t) r (λ t. refl))
line-members {A = A} field (suc (suc k)) s =
    members_then (suc (suc k)) (field s) _
    (λ a r. members-expect (suc (suc k)) 32 (λ t. and_then (read_line field (suc k) t) (λ (rest : List A) u. got (a ∷ rest) u)) r
    (λ t. members-after (suc k) (suc (suc k)) (read_line field (suc k) t) _ (line-members field (suc k) t) (λ xs u e. ap suc e)))

-- m lines of d fields give m × d
pub rows-members : (d m : ℕ) (s : List ℕ) → Members (m * d) (read_rows d m s)
rows-members d zero s = sym (zero-mul d)
rows-members d (suc m) s =
    members-after d (suc m * d) (read_line read_signed d s) _ (line-members read_signed d s)
    (λ k r e. members-after (m * d) (suc m * d) (read_rows d m r) _ (rows-members d m r)
    (λ ks t f. length-append k ks ∙ omega (arith, e, f, suc-mul m d)))

-- so a run of them has m rows
pub rows-counted : (d m : ℕ) (run : List ℤ) → 1 ≤ d → length run ≡ m * d → row_count d run ≡ m
rows-counted d m run l e = ap (λ (k : ℕ). k / d) e ∙ mul-div_cancel m l

-- ---- the refusals of line 1
-- the first of three conditions that applies is one of them
pub three_le : (b i j k : ℕ) → i ≤ b → j ≤ b → k ≤ b → first_of (i ∷ j ∷ k ∷ []) ≤ b
three_le b zero zero zero h h' h'' = omega arith
three_le b zero zero (suc k) h h' h'' = h''
three_le b zero (suc j) k h h' h'' = h'
three_le b (suc i) j k h h' h'' = h

-- none applies: all three are 0
pub three_none : (i j k : ℕ) → first_of (i ∷ j ∷ k ∷ []) ≡ 0 → (i ≡ 0) × (j ≡ 0) × (k ≡ 0)
three_none i j k e =
    let first = (first_of_none i (j ∷ k ∷ [])).0 e in
    let second = (first_of_none j (k ∷ [])).0 first.1 in
    (first.0, second.0, ((first_of_none k []).0 second.1).0)

-- a condition's number, or 0
pub refuse-le : (b k : ℕ) (t : Bool) → k ≤ b → refuse k t ≤ b
refuse-le b k true h = h
refuse-le b k false h = omega arith

-- a number that is not out of range is in it
pub within_holds : (number low high x : ℕ) → 1 ≤ number → refuse number (not (within low high x)) ≡ 0 → (low ≤ x) × (x ≤ high)
within_holds number low high x h e =
    within_of low high x (not-false (within low high x) ((refuse_none number (not (within low high x)) h).0 e))

-- the number is at most 12
head_small : (plan d m : ℕ) → head_refusal plan d m ≤ 12
head_small plan d m =
    three_le 12 (bad_plan plan) (bad_axes d) (refuse 3 (ltb 512 m))
    (refuse-le 12 1 (ltb 4 plan) (omega arith)) (refuse-le 12 2 (not (within 1 6 d)) (omega arith))
    (refuse-le 12 3 (ltb 512 m) (omega arith))

-- none of the refusals applies: line 1 is in range
pub head_in : (plan d m : ℕ) → head_refusal plan d m ≡ 0 → HeadIn plan d m
head_in plan d m e =
    let n = three_none (bad_plan plan) (bad_axes d) (refuse 3 (ltb 512 m)) e in
    record {
      plans = ltb-false 4 plan ((refuse_none 1 (ltb 4 plan) (omega arith)).0 n.0);
      axes = within_holds 2 1 6 d (omega arith) n.1;
      rows = ltb-false 512 m ((refuse_none 3 (ltb 512 m) (omega arith)).0 n.2);
    }

-- ---- what a text asks
-- a request: m × d numbers, with all in range
pub record RequestIn (plan d : ℕ) (run : List ℤ) : Type 0 where
  pub rows_read : ℕ
  pub head : HeadIn plan d rows_read
  pub size : length run ≡ rows_read * d

-- a refusal's number is at most 12
abbrev pub Bounded : Reading → Type 0
Bounded (refused k) = k ≤ 12
Bounded (request plan d ceiling run) = RequestIn plan d run

-- a refusal of line 1, or what follows it
unless_bounded : (k : ℕ) (r : Reading) → k ≤ 12 → (k ≡ 0 → Bounded r) → Bounded (unless k r)
unless_bounded zero r h i = i refl
unless_bounded (suc k) r h i = h

-- nothing after the rows
rows_bounded : (plan d m ceiling : ℕ) (p : Parsed (List ℤ)) → HeadIn plan d m → Members (m * d) p → Bounded (after_rows plan d ceiling p)
rows_bounded plan d m ceiling bad h e = omega arith
rows_bounded plan d m ceiling (got run []) h e =
    record { rows_read = m; head = h; size = e }
rows_bounded plan d m ceiling (got run (b ∷ s)) h e = omega arith

-- line 1 and the rest
head_bounded : (p : Parsed (List ℕ)) → Bounded (after_head p)
head_bounded bad = omega arith
head_bounded (got [] s) = omega arith
head_bounded (got (plan ∷ []) s) = omega arith
head_bounded (got (plan ∷ d ∷ []) s) = omega arith
head_bounded (got (plan ∷ d ∷ m ∷ []) s) = omega arith
head_bounded (got (plan ∷ d ∷ m ∷ ceiling ∷ []) s) =
    unless_bounded (head_refusal plan d m) (after_rows plan d ceiling (read_rows d m s)) (head_small plan d m)
    (λ e. rows_bounded plan d m ceiling (read_rows d m s) (head_in plan d m e) (rows-members d m s))
head_bounded (got (plan ∷ d ∷ m ∷ ceiling ∷ x ∷ xs) s) = omega arith

-- too many bytes, or not
cond_bounded : (t : Bool) (r : Reading) → Bounded r → Bounded (cond t (refused 12) r)
cond_bounded true r h = omega arith
cond_bounded false r h = h

-- every text
pub reading_bounded : (text : List ℕ) → Bounded (reading text)
unfolding reading
reading_bounded text =
    cond_bounded (ltb 32768 (length text)) (after_head (read_line read_number 4 text)) (head_bounded (read_line read_number 4 text))

-- ---- a text that reads as a request, taken apart
-- a refusal is no request
never : {P : Type 0} (k plan d ceiling : ℕ) (run : List ℤ) → refused k ≡ request plan d ceiling run → P
never k plan d ceiling run e = absurd (let z : ◌≡◌ {A = ℕ} 0 1 = cc in omega arith)

-- so nothing stands behind the rows, no refusal of line 1 applies, line 1 has four fields, and there are not too many bytes
rows_taken : (plan d ceiling : ℕ) (p : Parsed (List ℤ)) (plan' d' ceiling' : ℕ) (run : List ℤ) → after_rows plan d ceiling p ≡ request plan' d' ceiling' run → (plan ≡ plan') × (d ≡ d') × (ceiling ≡ ceiling') × (p ≡ got run [])
rows_taken plan d ceiling bad plan' d' ceiling' run e = never 12 plan' d' ceiling' run e
rows_taken plan d ceiling (got xs []) plan' d' ceiling' run e = ((cc), (cc), (cc), (cc))
rows_taken plan d ceiling (got xs (b ∷ s)) plan' d' ceiling' run e = never 12 plan' d' ceiling' run e

unless_taken : (k : ℕ) (r : Reading) (plan d ceiling : ℕ) (run : List ℤ) → unless k r ≡ request plan d ceiling run → (k ≡ 0) × (r ≡ request plan d ceiling run)
unless_taken zero r plan d ceiling run e = (refl, e)
unless_taken (suc k) r plan d ceiling run e = never (suc k) plan d ceiling run e

-- line 1 was read, and then the rows
pub record Lines (p : Parsed (List ℕ)) (plan d ceiling : ℕ) (run : List ℤ) : Type 0 where
  pub count : ℕ
  pub rest : List ℕ
  pub head : p ≡ got (plan ∷ d ∷ count ∷ ceiling ∷ []) rest
  pub none : head_refusal plan d count ≡ 0
  pub rows : read_rows d count rest ≡ got run []

head_taken : (p : Parsed (List ℕ)) (plan d ceiling : ℕ) (run : List ℤ) → after_head p ≡ request plan d ceiling run → Lines p plan d ceiling run
head_taken bad plan d ceiling run e = never 12 plan d ceiling run e
head_taken (got [] s) plan d ceiling run e = never 12 plan d ceiling run e
head_taken (got (a ∷ []) s) plan d ceiling run e = never 12 plan d ceiling run e
head_taken (got (a ∷ b ∷ []) s) plan d ceiling run e = never 12 plan d ceiling run e
head_taken (got (a ∷ b ∷ m ∷ []) s) plan d ceiling run e = never 12 plan d ceiling run e
head_taken (got (a ∷ b ∷ m ∷ c ∷ []) s) plan d ceiling run e =
    let u = unless_taken (head_refusal a b m) (after_rows a b c (read_rows b m s)) plan d ceiling run e in
    let r = rows_taken a b c (read_rows b m s) plan d ceiling run u.1 in
    record {
      count = m;
      rest = s;
      head = cc (r.0, r.1, r.2);
      none = ap (λ (x : ℕ). head_refusal x d m) (sym r.0) ∙ ap (λ (x : ℕ). head_refusal a x m) (sym r.1) ∙ u.0;
      rows = ap (λ (x : ℕ). read_rows x m s) (sym r.1) ∙ r.3;
    }
head_taken (got (a ∷ b ∷ m ∷ c ∷ x ∷ xs) s) plan d ceiling run e = never 12 plan d ceiling run e

pub lines_of : (text : List ℕ) (plan d ceiling : ℕ) (run : List ℤ) → reading text ≡ request plan d ceiling run → Lines (read_line read_number 4 text) plan d ceiling run
unfolding reading
lines_of text plan d ceiling run e = go (ltb 32768 (length text)) e
  where
    go : (t : Bool) → cond t (refused 12) (after_head (read_line read_number 4 text)) ≡ request plan d ceiling run → Lines (read_line read_number 4 text) plan d ceiling run
    go true e = never 12 plan d ceiling run e
    go false e = head_taken (read_line read_number 4 text) plan d ceiling run e
