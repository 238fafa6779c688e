-- The rules by numbers: rows of the list by their number, mirrors of a row by theirs. The loops of the check go by numbers, the
-- rules speak of members. Below the rules: what a loop's turn over a row or a mirror of a lattice's rows says of them.
use mathlib.Core.Path.{◌≡◌, refl, sym, ◌∙◌, ap, subst}
use mathlib.Core.Bool.{Bool, true, false, true≢false}
use mathlib.Core.Logic.{◌↔◌, ◌≢◌, ⊎_elim}
use mathlib.Core.List.{List, [], map, Memᴰ}
use Prim.Native.Nat.{ℕ, zero, suc, ◌+◌, ◌-◌, ◌<◌, ◌≤◌}
use native.Mathlib.Nat.{zero-mod}
use native.Mathlib.Omega.{arith}
use borrow.Author.Count.{below_more}
use lib.IntN.{ℤ, pos}
use lib.ListN.{length, get_or, set, take, drop, length-map, length-drop, get_or-map}
use lib.Seq.{length-take-le, get_or-take, get_or-drop}
use Rattle.std.specs.Prelude.{Option, Some, None}
use Rattle.std.specs.Option.{is_some}
use Rattle.rank1.specs.Tests.{Decides}
use Rattle.rank1.specs.Residue.{dot, residue_at}
use Rattle.rank1.specs.Index.{mirrors, row_count}
use Rattle.rank1.specs.declared.Plan.{Plan}
use Rattle.rank1.specs.declared.Plan.TheVariants as plans
use Rattle.rank1.specs.Named.{plan_number}
use Rattle.rank1.specs.Rule.{Reconstructs, PlanB, PlanC, Admissible}
use Rattle.rank1.specs.Valid.{Distinct, Nonnegative}
use Rattle.rank1.proofs.ResidueLaws.{residue-lt}
use Rattle.rank1.proofs.CountingLaws.{rule_reconstructs}
use Rattle.rank1.proofs.Distinct.{member_at, place_of, distinct_at}
use Rattle.rank1.proofs.Order.{compared}
use Rattle.rank1.proofs.MirrorLaws.{mirror_self, mirrors_first, mirrors_distinct, same_row_lem}
use Rattle.planner.specs.Inner.{Owners, Recorded, residue_of, clash}
use Rattle.planner.specs.Lists.{rows_in, residue_by, Keeps}
use Rattle.planner.specs.declared.lattice.Lattice.{Lattice}
use Rattle.planner.proofs.RowLaws.{Comes, row_number, row_inside, rows_counted}
use Rattle.planner.proofs.rule.OwnerLaws.{Unowned, AllApart, decides_yes, decides_no, owners_more, owners_clash, owners_apart, owner_free, owner_forbids}

module _ {A : Type 0} (xs : List A) (x : A) where
  -- different places of a list without repeats
  pub places-differ : (i j : ℕ) → Distinct xs → i < length xs → j < length xs → i ≢ j → get_or xs i x ≢ get_or xs j x
  places-differ i j d li lj other e =
      ⊎_elim
      (λ l. distinct_at xs x i j d l lj e)
      (⊎_elim other (λ l. distinct_at xs x j i d l li (sym e)))
      (compared i j)

module _ (ks : List (List ℤ)) (n : ℕ) (z : List ℤ) where
  -- row number a, its residue, and its mirror number t
  abbrev pub row : ℕ → List ℤ
  row a = get_or ks a []

  abbrev pub row_residue : ℕ → ℕ
  row_residue a = residue_at n z (row a)

  abbrev pub mirror : ℕ → ℕ → List ℤ
  mirror i t = get_or (mirrors (row i)) t []

  -- ---- plan 1
  pub reconstructs_rows : Distinct ks → Reconstructs ks n z ↔ AllApart row_residue (length ks)
  unfolding Reconstructs
  reconstructs_rows d = (
    (λ rule a b la lb other. rule (row a) (row b) (member_at ks [] a la) (member_at ks [] b lb) (places-differ ks [] a b d la lb other)),
    (λ rows k k' m m' other e.
        let p = place_of ks k [] m in
        let q = place_of ks k' [] m' in
        rows p.index q.index p.inside q.inside
        (λ same. other (sym p.is ∙ ap row same ∙ q.is))
        (ap (residue_at n z) p.is ∙ e ∙ ap (residue_at n z) (sym q.is))),
  )

  -- ---- plans B and C
  -- the mirrors of row i from number 1 on and below number t have the residue of no row that the plan keeps apart from row i
  abbrev pub MirrorsFree : (plan i t : ℕ) → Type 0
  MirrorsFree plan i t = (s : ℕ) → s < t → 1 ≤ s → Unowned row_residue plan (length ks) i (residue_at n z (mirror i s))

  -- all of them
  abbrev pub AllFree : ℕ → Type 0
  AllFree plan = (i : ℕ) → i < length ks → MirrorsFree plan i (length (mirrors (row i)))

  -- a mirror from number 1 on is no row of a list without negative components
  mirror_no_row : Distinct ks → ((k : List ℤ) → Memᴰ k ks → Nonnegative k) → (a i t : ℕ) → a < length ks → i < length ks → 1 ≤ t → t < length (mirrors (row i)) → mirror i t ≢ row a
  mirror_no_row d unsigned a i t la li lo lt e =
      let here : Memᴰ (row a) (mirrors (row i)) = mathlib.Core.List.Memᴰ.cast (sym e) (member_at (mirrors (row i)) [] t lt) in
      let same : row a ≡ row i =
      same_row_lem (row a) (row a) (row i) (unsigned (row a) (member_at ks [] a la)) (unsigned (row i) (member_at ks [] i li)) (mirror_self (row a)) here in
      places-differ (mirrors (row i)) [] t 0 (mirrors_distinct (row i)) lt (omega arith) (λ z. omega arith) (e ∙ same ∙ sym (mirrors_first (row i)))

  -- mirror number t of row i and row a, where the first mirror is the row
  mirror-apart : (plan a i t : ℕ) → AllApart row_residue (length ks) → AllFree plan → a < length ks → i < length ks → t < length (mirrors (row i)) → (t ≡ 0 → a ≢ i) → (plan ≢ 3 → a ≢ i) → residue_at n z (mirror i t) ≢ row_residue a
  mirror-apart plan a i zero rows free la li lt first other e =
      rows i a li la (λ same. first refl (sym same)) (ap (residue_at n z) (sym (mirrors_first (row i))) ∙ e)
  mirror-apart plan a i (suc t) rows free la li lt first other e = free i li (suc t) lt (omega arith) a la other e

  -- the same of members: a mirror s of the row k', and the row k
  members-apart : (plan : ℕ) → AllApart row_residue (length ks) → AllFree plan → (k k' s : List ℤ) → Memᴰ k ks → Memᴰ k' ks → Memᴰ s (mirrors k') → (k ≡ k' → s ≢ k') → (plan ≢ 3 → k ≢ k') → residue_at n z s ≢ residue_at n z k
  members-apart plan rows free k k' s m m' i first other e =
      let p = place_of ks k [] m in
      let q = place_of ks k' [] m' in
      let r = place_of (mirrors (row q.index)) s [] (subst (λ (t : List ℤ). Memᴰ s (mirrors t)) (sym q.is) i) in
      let one-row : p.index ≡ q.index → k ≡ k' = λ same. sym p.is ∙ ap row same ∙ q.is in
      mirror-apart plan p.index q.index r.index rows free p.inside q.inside r.inside
      (λ t same. first (one-row same) (sym r.is ∙ ap (mirror q.index) t ∙ mirrors_first (row q.index) ∙ q.is))
      (λ no same. other no (one-row same))
      (ap (residue_at n z) r.is ∙ e ∙ ap (residue_at n z) (sym p.is))

  -- both plans by numbers, on a list of different rows without negative components
  pub mirrors-rows : (plan : ℕ) → 3 ≤ plan → plan ≤ 4 → Distinct ks → ((k : List ℤ) → Memᴰ k ks → Nonnegative k) → Admissible plan ks n z ↔ (AllApart row_residue (length ks) × AllFree plan)
  unfolding PlanB PlanC
  mirrors-rows zero lo hi d unsigned = absurd (omega arith)
  mirrors-rows (suc zero) lo hi d unsigned = absurd (omega arith)
  mirrors-rows (suc (suc zero)) lo hi d unsigned = absurd (omega arith)
  mirrors-rows (suc (suc (suc zero))) lo hi d unsigned = (
    (λ rule. (
      (reconstructs_rows d).0 (rule_reconstructs 3 ks n z (λ no. omega arith) rule),
      (λ i li s ls lo a la other.
          rule (row a) (row i) (mirror i s) (member_at ks [] a la) (member_at ks [] i li) (member_at (mirrors (row i)) [] s ls)
          (mirror_no_row d unsigned a i s la li lo ls)),
    )),
    (λ both k k' s m m' i other. members-apart 3 both.0 both.1 k k' s m m' i (λ e f. other (f ∙ sym e)) (λ no. absurd (no refl))),
  )
  mirrors-rows (suc (suc (suc (suc zero)))) lo hi d unsigned = (
    (λ rule. (
      (reconstructs_rows d).0 (rule_reconstructs 4 ks n z (λ no. omega arith) rule),
      (λ i li s ls lo a la other.
          rule (row a) (row i) (mirror i s) (member_at ks [] a la) (member_at ks [] i li)
          (places-differ ks [] a i d la li (other (λ no. omega arith))) (member_at (mirrors (row i)) [] s ls)),
    )),
    (λ both k k' s m m' other i. members-apart 4 both.0 both.1 k k' s m m' i (λ e. absurd (other e)) (λ _. other)),
  )
  mirrors-rows (suc (suc (suc (suc (suc p))))) lo hi d unsigned = absurd (omega arith)

-- no plan has a larger number than plan C
pub few_plans : (plan : Plan) → plan_number plan ≤ 4
few_plans plans.Integration = omega arith
few_plans plans.Fourier = omega arith
few_plans plans.A = omega arith
few_plans plans.B = omega arith
few_plans plans.C = omega arith

-- ---- the table of the owners of a lattice's rows
module _ (lattice : Lattice) where
  -- the residue of a row, by its number
  abbrev pub residues : ℕ → ℕ
  residues = residue_of lattice.n lattice.z.now (rows_in lattice.rows)

  -- it has the owners among the first i rows
  abbrev pub Owned : ℕ → List (Option ℕ) → Type 0
  Owned = Owners residues lattice.n

  -- what recording them gives
  abbrev pub RecordedAs : List (Option ℕ) → Bool → Type 0
  RecordedAs = Recorded lattice.n lattice.z.now (rows_in lattice.rows)

  -- no two rows have one residue
  abbrev RowsApart : Type 0
  RowsApart = AllApart residues (length (rows_in lattice.rows))

  rows_rule : Reconstructs (rows_in lattice.rows) lattice.n (map pos lattice.z.now) ↔ RowsApart
  rows_rule = reconstructs_rows (rows_in lattice.rows) lattice.n (map pos lattice.z.now) lattice.rows.valid.different

  module _ {owners : List (Option ℕ)} where
    -- the number of the rows is the length of their list
    owned_list : Owned (row_count lattice.rows.d lattice.rows.numbers.now) owners → Owned (length (rows_in lattice.rows)) owners
    owned_list = subst (λ (m : ℕ). Owned m owners) (sym (rows_counted lattice.rows))

    -- every row is recorded
    pub recorded_all : {i : ℕ} → i ≡ row_count lattice.rows.d lattice.rows.numbers.now → Owned i owners → RecordedAs owners true
    recorded_all e o = record { all = λ _. owned_list (subst (λ (m : ℕ). Owned m owners) e o); clash = λ no rule. true≢false no }

    -- a row comes, whose residue is r
    module _ {j i r : ℕ} {k : List ℤ} (here : Comes lattice.rows j i k) (is : r ≡ residue_by lattice k) (below : r < lattice.n) (before : Owned j owners) where
      own : r ≡ residues i
      own = is ∙ ap (residue_by lattice) (row_number here)

      passed : Owned i owners
      passed = subst (λ (m : ℕ). Owned m owners) (sym here.number) before

      -- it has an owner
      pub recorded_clash : is_some (get_or owners r None) ≡ true → RecordedAs owners false
      recorded_clash taken = record {
        all = λ yes. absurd {A = Owned (length (rows_in lattice.rows)) owners} (true≢false (sym yes));
        clash = λ no rule.
            owners_clash residues lattice.n i r (length (rows_in lattice.rows)) owners
            (row_inside here) own below taken passed (rows_rule.0 rule);
      }

      -- it has none: the row becomes it
      pub recorded_more : lattice.n ≤ length owners → is_some (get_or owners r None) ≡ false → Owned (j + 1) (set owners r (Some i))
      recorded_more room free =
          subst (λ (m : ℕ). Owned (m + 1) (set owners r (Some i))) here.number
          (owners_more residues lattice.n i r owners room own below free passed)

    -- ---- what recording them says of the plans but plan 0
    module _ {r : Bool} (o : RecordedAs owners r) where
      -- all are recorded
      pub recorded_rows : r ≡ true → Owned (row_count lattice.rows.d lattice.rows.numbers.now) owners
      recorded_rows e = subst (λ (m : ℕ). Owned m owners) (rows_counted lattice.rows) (o.all e)

      -- it decides the rule of plan 1
      pub recorded_decides : Decides r (Reconstructs (rows_in lattice.rows) lattice.n (map pos lattice.z.now))
      recorded_decides = record {
        yes = λ e. rows_rule.1 (owners_apart residues lattice.n (length (rows_in lattice.rows)) owners (o.all e));
        no = o.clash;
      }

      -- two rows have one residue, so none of the plans holds
      pub recorded_breaks : plan_number lattice.rows.plan ≢ 0 → r ≡ false → Decides false (Keeps lattice)
      recorded_breaks some e =
          decides_no (λ rule. o.clash e (rule_reconstructs (plan_number lattice.rows.plan) (rows_in lattice.rows) lattice.n (map pos lattice.z.now) some rule))

-- ---- the mirrors of the rows
module _ (lattice : Lattice) where
  -- the mirrors of row i
  abbrev pub mirrors_of : ℕ → List (List ℤ)
  mirrors_of i = mirrors (get_or (rows_in lattice.rows) i [])

  -- x is the residue of no row that the plan keeps apart from row i
  abbrev pub Spared : ℕ → ℕ → Type 0
  Spared = Unowned (residues lattice) (plan_number lattice.rows.plan) (length (rows_in lattice.rows))

  -- the residues of row i's mirrors from number 1 on and below number t are spared
  abbrev pub FreeBelow : ℕ → ℕ → Type 0
  FreeBelow = MirrorsFree (rows_in lattice.rows) lattice.n (map pos lattice.z.now) (plan_number lattice.rows.plan)

  -- those of all its mirrors from number 1 on
  abbrev pub RowFree : ℕ → Type 0
  RowFree i = FreeBelow i (length (mirrors_of i))

-- x is the residue of mirror number t of row i
pub record MirrorAt (lattice : Lattice) (i t x : ℕ) : Type 0 where
  pub row_among : i < length (rows_in lattice.rows)
  pub inside : t < length (mirrors_of lattice i)
  pub is : x ≡ residue_by lattice (get_or (mirrors_of lattice i) t [])
  pub below : x < lattice.n

-- the residues behind the first, as a loop over them reads them
abbrev pub later : List ℕ → List ℕ
later out = take (length out - 1) (drop 1 out)

later-length : (out : List ℕ) → length (later out) ≡ length out - 1
later-length out = length-take-le (length out - 1) (drop 1 out) (omega (arith, length-drop 1 out))

-- a row comes, and out has the residues of its mirrors
module _ (lattice : Lattice) {j i : ℕ} {k : List ℤ} {out : List ℕ} (here : Comes lattice.rows j i k) (is_residues : out ≡ map (residue_by lattice) (mirrors k)) where
  as_many : length out ≡ length (mirrors_of lattice i)
  as_many = ap length is_residues ∙ length-map (mirrors k) (residue_by lattice) ∙ ap (λ (s : List ℤ). length (mirrors s)) (row_number here)

  -- what is read at place t behind the first is that of mirror number t + 1
  pub mirror_read : {x : ℕ} (t : ℕ) → t < length (later out) → x ≡ get_or (later out) t 0 → MirrorAt lattice i (t + 1) x
  mirror_read {x} t l read = record {
    row_among = row_inside here;
    inside = omega (arith, l, later-length out, as_many);
    is = is;
    below = subst (λ (r : ℕ). r < lattice.n) (sym is) (residue-lt lattice.n (dot (get_or (mirrors_of lattice i) (t + 1) []) (map pos lattice.z.now)) lattice.ready.modulus.low);
  }
    where
      is : x ≡ residue_by lattice (get_or (mirrors_of lattice i) (t + 1) [])
      is =
          read
          ∙ get_or-take (length out - 1) (drop 1 out) t 0 (omega (arith, l, later-length out))
          ∙ get_or-drop 1 out t 0
          ∙ ap (λ (a : ℕ). get_or out a 0) (omega arith)
          ∙ ap (λ (rs : List ℕ). get_or rs (t + 1) 0) is_residues
          ∙ ap (get_or (map (residue_by lattice) (mirrors k)) (t + 1)) (sym (zero-mod lattice.n))
          ∙ get_or-map (residue_by lattice) (mirrors k) (t + 1) []
          ∙ ap (λ (s : List ℤ). residue_by lattice (get_or (mirrors s) (t + 1) [])) (row_number here)

  -- where all have been read, the row is free, as those before it
  pub rows_free : ((a : ℕ) → a < j → RowFree lattice a) → FreeBelow lattice i (length (later out) + 1) → (a : ℕ) → a < j + 1 → RowFree lattice a
  rows_free before free = below_more (RowFree lattice) j before (subst (RowFree lattice) here.number (λ t l. free t (omega (arith, later-length out, as_many))))

-- ---- plans B and C, where the owners of all rows are recorded
module _ (lattice : Lattice) {owners : List (Option ℕ)} (o : Owned lattice (row_count lattice.rows.d lattice.rows.numbers.now) owners) where
  -- the residue of one mirror more is read, and its owner does not forbid it
  pub mirror-passes : {i t x : ℕ} → MirrorAt lattice i t x → clash (plan_number lattice.rows.plan) i (get_or owners x None) ≡ false → FreeBelow lattice i t → FreeBelow lattice i (t + 1)
  mirror-passes {i} {t} {x} m f free =
      below_more (λ (s : ℕ). 1 ≤ s → Spared lattice i (residue_by lattice (get_or (mirrors_of lattice i) s []))) t free
      (λ _. subst (Spared lattice i) m.is
      (owner_free (residues lattice) lattice.n (plan_number lattice.rows.plan) (length (rows_in lattice.rows)) i x owners (owned_list lattice o) f))

  module _ (low : 3 ≤ plan_number lattice.rows.plan) where
    -- the rule by numbers
    by_mirrors : Keeps lattice ↔ (RowsApart lattice × AllFree (rows_in lattice.rows) lattice.n (map pos lattice.z.now) (plan_number lattice.rows.plan))
    by_mirrors =
        mirrors-rows (rows_in lattice.rows) lattice.n (map pos lattice.z.now) (plan_number lattice.rows.plan) low (few_plans lattice.rows.plan) lattice.rows.valid.different
        (lattice.rows.valid.unsigned (omega arith))

    -- no mirror passed was forbidden
    pub mirrors_hold : ((i : ℕ) → i < row_count lattice.rows.d lattice.rows.numbers.now → RowFree lattice i) → Decides true (Keeps lattice)
    mirrors_hold h =
        decides_yes (by_mirrors.1 (
          owners_apart (residues lattice) lattice.n (length (rows_in lattice.rows)) owners (owned_list lattice o),
          (λ i li. h i (omega (arith, rows_counted lattice.rows))),
        ))

    -- one was
    pub mirrors_break : {i t x : ℕ} → MirrorAt lattice i t x → 1 ≤ t → clash (plan_number lattice.rows.plan) i (get_or owners x None) ≡ true → Decides false (Keeps lattice)
    mirrors_break {i} {t} {x} m later f =
        decides_no (λ rule.
        owner_forbids (residues lattice) lattice.n (plan_number lattice.rows.plan) (length (rows_in lattice.rows)) i x owners (owned_list lattice o) m.below f
        (subst (Spared lattice i) (sym m.is) ((by_mirrors.0 rule).1 i m.row_among t m.inside later)))
