-- Lines and rows are read back from their text, and only from it: a line field by field (line_reads, line_only), rows line by line
-- (rows_read_back, rows_only); and a whole request has no more bytes than it may have (text_size).
use mathlib.Core.Path.{◌≡◌, refl, sym, ◌∙◌, ap, subst}
use mathlib.Core.Logic.{⊎_elim}
use mathlib.Core.Bool.{Bool, true, false, cond}
use mathlib.Core.List.Memᴰ
use mathlib.Core.List.{List, [], ◌∷◌, ◌++◌, append_assoc, flatten, Memᴰ}
use Prim.Native.Nat.{ℕ, zero, suc, ◌*◌, ◌<◌, ◌≤◌}
use native.Mathlib.Omega.{arith}
use borrow.Author.Tests.{eq-eqb, eqb-true}
use lib.Dec.{eqb}
use lib.IntN.{ℤ, pos, negsuc, nat_abs}
use lib.ListN.{length, take, drop, length-append}
use lib.Seq.{take_at, drop_at}
use Rattle.rank1.specs.Index.{rows_of}
use Rattle.request.specs.Text.{digits, number_text}
use Rattle.request.specs.Reading.{Parsed, bad, got, and_then, read_line, read_number, read_signed, read_rows}
use Rattle.request.specs.Printing.{signed_text, line_text, rows_text, request_text, WritableRow, Writable}
use Rattle.request.specs.Inner.{before}
use Rattle.request.proofs.FieldLaws.{number_only, signed_read, signed_only}
use Rattle.request.proofs.NumberLaws.{number_read, number_size}
use Rattle.request.proofs.reading.LineLaws.{separator_left, line_left, line_got, prepend, line-more, line_all}
use Rattle.request.proofs.reading.RowLaws.{rows_got}

-- ---- what was parsed, taken apart
-- one part and then another
pub record ThenGot {A B : Type 0} (p : Parsed A) (next : A → List ℕ → Parsed B) (b : B) (t : List ℕ) : Type 0 where
  pub part : A
  pub rest : List ℕ
  pub parsed : p ≡ got part rest
  pub then : next part rest ≡ got b t

module _ {A B : Type 0} where
  then_got : (p : Parsed A) (next : A → List ℕ → Parsed B) (b : B) (t : List ℕ) → and_then p next ≡ got b t → ThenGot p next b t
  then_got bad next b t e = absurd (let z : ◌≡◌ {A = ℕ} 0 1 = cc in omega arith)
  then_got (got a s) next b t e = record { part = a; rest = s; parsed = refl; then = e }

module _ {A : Type 0} where
  -- a part and the byte b behind it
  before_got : (b : ℕ) (p : Parsed A) (x : A) (t : List ℕ) → before b p ≡ got x t → p ≡ got x (b ∷ t)
  before_got b bad x t e = absurd (let z : ◌≡◌ {A = ℕ} 0 1 = cc in omega arith)
  before_got b (got y []) x t e = absurd (let z : ◌≡◌ {A = ℕ} 0 1 = cc in omega arith)
  before_got b (got y (c ∷ s)) x t e = go (eqb c b) refl e
    where
      go : (f : Bool) → eqb c b ≡ f → cond f (got y s) bad ≡ got x t → got y (c ∷ s) ≡ got x (b ∷ t)
      go true h e = let same : c ≡ b = eqb-true c b h in cc
      go false h e = absurd (let z : ◌≡◌ {A = ℕ} 0 1 = cc in omega arith)

  got_before : (b : ℕ) (p : Parsed A) (x : A) (t : List ℕ) → p ≡ got x (b ∷ t) → before b p ≡ got x t
  got_before b p x t e = ap (before b) e ∙ ap (λ (f : Bool). cond f (got x t) bad) (eq-eqb b b refl)

  -- what holds of the first member and of the others holds of all
  pub all_cons : (P : A → Type 0) (x : A) (xs : List A) → P x → ((y : A) → Memᴰ y xs → P y) → (y : A) → Memᴰ y (x ∷ xs) → P y
  all_cons P x xs h f y m = ⊎_elim (λ e. subst P (sym e) h) (f y) (Memᴰ.cases_cons m)

-- ---- a kind of field: it is read back from its text, only from it, and its text is short
pub record FieldOf {A : Type 0} (read : List ℕ → Parsed A) (write : A → List ℕ) (Small : A → Type 0) : Type 0 where
  pub reads : (x : A) (t : List ℕ) → Small x → digits t ≡ [] → read (write x ++ t) ≡ got x t
  pub only : (s : List ℕ) (x : A) (t : List ℕ) → read s ≡ got x t → (s ≡ write x ++ t) × Small x
  pub brief : (x : A) → Small x → length (write x) ≤ 7

pub number_fields : FieldOf read_number number_text (λ x. x < 1000000)
number_fields = record { reads = number_read; only = number_only; brief = λ x l. omega (arith, number_size 5 x l) }

pub signed_fields : FieldOf read_signed signed_text (λ x. nat_abs x < 1000000)
signed_fields = record { reads = signed_read; only = signed_only; brief = brief }
  where
    brief : (x : ℤ) → nat_abs x < 1000000 → length (signed_text x) ≤ 7
    brief (pos n) l = omega (arith, number_size 5 n l)
    brief (negsuc n) l = omega (arith, number_size 5 (suc n) l)

-- ---- a line by what is left of it
module _ {A : Type 0} where
  abbrev left_text : (A → List ℕ) → List A → List ℕ
  left_text write [] = []
  left_text write (x ∷ xs) = line_text write (x ∷ xs)

  -- a field, the byte behind it, and the others
  text_first : (write : A → List ℕ) (x : A) (xs : List A) → line_text write (x ∷ xs) ≡ write x ++ separator_left (length xs) ∷ left_text write xs
  text_first write x [] = refl
  text_first write x (y ∷ xs) = refl

-- neither a space nor a newline is a digit
separator_plain : (k : ℕ) (t : List ℕ) → digits (separator_left k ∷ t) ≡ []
separator_plain zero t = refl
separator_plain (suc k) t = refl

module _ {A : Type 0} (read : List ℕ → Parsed A) (write : A → List ℕ) (Small : A → Type 0) (f : FieldOf read write Small) where
  -- read back
  left_reads : (k : List A) (t : List ℕ) → ((x : A) → Memᴰ x k → Small x) → line_left read (length k) (left_text write k ++ t) ≡ got k t
  left_reads [] t h = refl
  left_reads (x ∷ xs) t h =
      let rest = left_text write xs ++ t in
      let b = separator_left (length xs) in
      let text : line_text write (x ∷ xs) ++ t ≡ write x ++ (b ∷ rest) =
      ap (λ (s : List ℕ). s ++ t) (text_first write x xs) ∙ append_assoc (write x) (b ∷ left_text write xs) t in
      line_got read (length xs) (line_text write (x ∷ xs) ++ t) x rest
      (got_before b (read (line_text write (x ∷ xs) ++ t)) x rest (ap read text ∙ f.reads x (b ∷ rest) (h x (Memᴰ.head refl)) (separator_plain (length xs) rest)))
      ∙ ap (prepend (x ∷ [])) (left_reads xs t (λ y m. h y (Memᴰ.tail m)))

  pub line_reads : (k : List A) (t : List ℕ) → 1 ≤ length k → ((x : A) → Memᴰ x k → Small x) → read_line read (length k) (line_text write k ++ t) ≡ got k t
  line_reads [] t l h = absurd (omega arith)
  line_reads (x ∷ xs) t l h = left_reads (x ∷ xs) t h

  -- and only from it
  pub record LineOnly (k : ℕ) (s : List ℕ) (xs : List A) (t : List ℕ) : Type 0 where
    pub text : s ≡ left_text write xs ++ t
    pub size : length xs ≡ k
    pub small : (x : A) → Memᴰ x xs → Small x

  left_only : (k : ℕ) (s : List ℕ) (xs : List A) (t : List ℕ) → line_left read k s ≡ got xs t → LineOnly k s xs t
  left_only zero s xs t e =
      let none : [] ≡ xs = cc in
      let same : s ≡ t = cc in
      subst (λ (l : List A). LineOnly 0 s l t) none (record { text = same; size = refl; small = λ x m. absurd (Memᴰ.not-nil m) })
  left_only (suc k) s xs t e =
      let first = then_got (before (separator_left k) (read s)) (λ a r. prepend (a ∷ []) (line_left read k r)) xs t (sym (line-more read k s) ∙ e) in
      let others = then_got (line_left read k first.rest) (λ ys u. got (first.part ∷ ys) u) xs t first.then in
      let all : first.part ∷ others.part ≡ xs = let h = others.then in cc in
      let left : others.rest ≡ t = let h = others.then in cc in
      let more = left_only k first.rest others.part others.rest others.parsed in
      let is = f.only s first.part (separator_left k ∷ first.rest) (before_got (separator_left k) (read s) first.part first.rest first.parsed) in
      subst (λ (l : List A). LineOnly (suc k) s l t) all
      record {
        text =
            is.0
            ∙ ap (λ (r : List ℕ). write first.part ++ separator_left k ∷ r) more.text
            ∙ ap (λ (n : ℕ). write first.part ++ separator_left n ∷ (left_text write others.part ++ others.rest)) (sym more.size)
            ∙ sym (append_assoc (write first.part) (separator_left (length others.part) ∷ left_text write others.part) others.rest)
            ∙ ap (λ (r : List ℕ). r ++ others.rest) (sym (text_first write first.part others.part))
            ∙ ap (λ (r : List ℕ). line_text write (first.part ∷ others.part) ++ r) left;
        size = ap suc more.size;
        small = all_cons Small first.part others.part is.1 more.small;
      }

  pub line_only : (k : ℕ) (s : List ℕ) (xs : List A) (t : List ℕ) → 1 ≤ k → read_line read k s ≡ got xs t → LineOnly k s xs t
  line_only k s xs t l e = left_only k s xs t (sym (line_all read k s l) ∙ e)

  -- at most 8 bytes to a field
  left_size : (k : List A) → ((x : A) → Memᴰ x k → Small x) → length (left_text write k) ≤ 8 * length k
  left_size [] h = omega arith
  left_size (x ∷ xs) h =
      rw (text_first write x xs, length-append)
      (omega (arith, f.brief x (h x (Memᴰ.head refl)), left_size xs (λ y m. h y (Memᴰ.tail m))))

  pub line-size : (k : List A) → 1 ≤ length k → ((x : A) → Memᴰ x k → Small x) → length (line_text write k) ≤ 8 * length k
  line-size [] l h = absurd (omega arith)
  line-size (x ∷ xs) l h = left_size (x ∷ xs) h

-- ---- rows
pub rows_read_back : (d : ℕ) (ks : List (List ℤ)) (t : List ℕ) → 1 ≤ d → ((k : List ℤ) → Memᴰ k ks → WritableRow d k) → read_rows d (length ks) (rows_text ks ++ t) ≡ got (flatten ks) t
unfolding flatten
rows_read_back d [] t l h = refl
rows_read_back d (k ∷ ks) t l h =
    let row = h k (Memᴰ.head refl) in
    let line : read_line read_signed d (rows_text (k ∷ ks) ++ t) ≡ got k (rows_text ks ++ t) =
    ap (read_line read_signed d) (append_assoc (line_text signed_text k) (rows_text ks) t)
    ∙ ap (λ (n : ℕ). read_line read_signed n (line_text signed_text k ++ (rows_text ks ++ t))) (sym row.size)
    ∙ line_reads read_signed signed_text (λ x. nat_abs x < 1000000) signed_fields k (rows_text ks ++ t) (omega (arith, row.size)) row.numbers in
    rows_got d (length ks) (rows_text (k ∷ ks) ++ t) k (rows_text ks ++ t) line
    ∙ ap (prepend k) (rows_read_back d ks t l (λ k' m. h k' (Memᴰ.tail m)))

-- m rows that were read are those of the run
pub record RowsOnly (d m : ℕ) (s : List ℕ) (run : List ℤ) (t : List ℕ) : Type 0 where
  pub text : s ≡ rows_text (rows_of d m run) ++ t
  pub rows : (k : List ℤ) → Memᴰ k (rows_of d m run) → WritableRow d k

pub rows_only : (d m : ℕ) (s : List ℕ) (run : List ℤ) (t : List ℕ) → 1 ≤ d → read_rows d m s ≡ got run t → RowsOnly d m s run t
rows_only d zero s run t l e =
    let same : s ≡ t = cc in
    record { text = same; rows = λ k m. absurd (Memᴰ.not-nil m) }
rows_only d (suc m) s run t l e =
    let first = then_got (read_line read_signed d s) (λ k r. prepend k (read_rows d m r)) run t e in
    let k = first.part in
    let others = then_got (read_rows d m first.rest) (λ ks u. got (k ++ ks) u) run t first.then in
    let all : k ++ others.part ≡ run = let h = others.then in cc in
    let left : others.rest ≡ t = let h = others.then in cc in
    let line = line_only read_signed signed_text (λ x. nat_abs x < 1000000) signed_fields d s k first.rest l first.parsed in
    let more = rows_only d m first.rest others.part others.rest l others.parsed in
    let front : take d run ≡ k = ap (take d) (sym all) ∙ take_at k others.part d line.size in
    let back : drop d run ≡ others.part = ap (drop d) (sym all) ∙ drop_at k others.part d line.size in
    let list : k ∷ rows_of d m others.part ≡ rows_of d (suc m) run =
    ap (λ (r : List ℤ). r ∷ rows_of d m others.part) (sym front) ∙ ap (λ (r : List ℤ). take d run ∷ rows_of d m r) (sym back) in
    record {
      text =
          line.text
          ∙ ap (λ (r : List ℕ). left_text signed_text k ++ r) more.text
          ∙ ap (λ (r : List ℕ). r ++ (rows_text (rows_of d m others.part) ++ others.rest)) (left_line k (omega (arith, line.size)))
          ∙ sym (append_assoc (line_text signed_text k) (rows_text (rows_of d m others.part)) others.rest)
          ∙ ap (λ (r : List ℕ). rows_text (k ∷ rows_of d m others.part) ++ r) left
          ∙ ap (λ (ks : List (List ℤ)). rows_text ks ++ t) list;
      rows = subst (λ (ks : List (List ℤ)). (k' : List ℤ) → Memᴰ k' ks → WritableRow d k') list
          (all_cons (WritableRow d) k (rows_of d m others.part) (record { size = line.size; numbers = line.small }) more.rows);
    }
  where
    left_line : (k : List ℤ) → 1 ≤ length k → left_text signed_text k ≡ line_text signed_text k
    left_line [] l = absurd (omega arith)
    left_line (x ∷ k) l = refl

-- at most 48 bytes to a row
pub rows-size : (d : ℕ) (ks : List (List ℤ)) → 1 ≤ d → d ≤ 6 → ((k : List ℤ) → Memᴰ k ks → WritableRow d k) → length (rows_text ks) ≤ 48 * length ks
rows-size d [] l h w = omega arith
rows-size d (k ∷ ks) l h w =
    let row = w k (Memᴰ.head refl) in
    let line = line-size read_signed signed_text (λ x. nat_abs x < 1000000) signed_fields k (omega (arith, row.size)) row.numbers in
    rw length-append (omega (arith, line, row.size, rows-size d ks l h (λ k' m. w k' (Memᴰ.tail m))))

-- ---- a whole request
module _ (plan d ceiling : ℕ) (ks : List (List ℤ)) (w : Writable plan d ceiling ks) where
  -- the fields of line 1
  abbrev pub head_fields : List ℕ
  head_fields = plan ∷ d ∷ length ks ∷ ceiling ∷ []

  pub fields_small : (x : ℕ) → Memᴰ x head_fields → x < 1000000
  fields_small =
      all_cons (λ x. x < 1000000) plan (d ∷ length ks ∷ ceiling ∷ []) (omega (arith, w.plans))
      (all_cons (λ x. x < 1000000) d (length ks ∷ ceiling ∷ []) (omega (arith, w.axes.1))
      (all_cons (λ x. x < 1000000) (length ks) (ceiling ∷ []) (omega (arith, w.count))
      (all_cons (λ x. x < 1000000) ceiling [] w.bound (λ y m. absurd (Memᴰ.not-nil m)))))

  -- no more bytes than a request may have
  pub text_size : length (request_text plan d ceiling ks) ≤ 32768
  text_size =
      rw (length-append (line_text number_text head_fields) (rows_text ks))
      (omega (
        arith,
        line-size read_number number_text (λ x. x < 1000000) number_fields head_fields (omega arith) fields_small,
        rows-size d ks w.axes.0 w.axes.1 w.rows,
        w.count,
      ))
