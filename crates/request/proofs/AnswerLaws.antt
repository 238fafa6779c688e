-- From a text one answer follows (answer_determined), and it has at most 8192 bytes (answer_short).
use mathlib.Core.Path.{◌≡◌, refl, sym, ◌∙◌, ap, subst}
use mathlib.Core.Logic.{inl, inr}
use mathlib.Core.Bool.{not}
use mathlib.Core.List.{List, [], ◌∷◌, map, Memᴰ}
use Prim.Native.Nat.{ℕ, zero, suc, ◌+◌, ◌*◌, ◌<◌, ◌≤◌}
use native.Mathlib.Nat.{div-mul-le_self}
use native.Mathlib.Omega.{arith}
use lib.IntN.{ℤ, pos}
use lib.ListN.{length, get_or, length-append}
use Rattle.rank1.specs.Rule.{Admissible}
use Rattle.rank1.specs.Residue.{dot}
use Rattle.rank1.specs.Index.{row_count, index_list}
use Rattle.rank1.specs.Tests.{any}
use Rattle.rank1.specs.Sums.{residue_map}
use Rattle.rank1.specs.Refusal.{within, outside, repeats, bad_component, equal_rows, bad_modulus}
use Rattle.rank1.proofs.ResidueLaws.{residue-lt}
use Rattle.rank1.proofs.IndexLaws.{rows-length, member_length}
use Rattle.rank1.proofs.SumLaws.{under-length, copies-le, map-length}
use Rattle.rank1.proofs.SearchLaws.{smallest_unique, smallest_plan}
use Rattle.request.specs.Text.{number_text}
use Rattle.request.specs.Reading.{Reading, refused, request, reading}
use Rattle.request.specs.Answer.{refusal_text, vector_text, map_text, plan_text, SmallestText, PlanOrNine, RefusalTextOr, request_refusal, Answers, AnswerTo}
use Rattle.request.proofs.AnswerTextLaws.{map-size, vector-size}
use Rattle.request.proofs.NumberLaws.{number_size}
use Rattle.request.proofs.RequestLaws.{rows-counted, RequestIn, Bounded, three_le, refuse-le, within_holds, three_none, reading_bounded}

-- ---- one answer
-- refused with the same number, or answered alike
refused_one : (k : ℕ) (a b : List ℕ) (A B : Type 0) → (A → B → a ≡ b) → RefusalTextOr k a A → RefusalTextOr k b B → a ≡ b
refused_one zero a b A B h p q = h p q
refused_one (suc k) a b A B h p q = p ∙ sym q

module _ (plan d ceiling : ℕ) (ks : List (List ℤ)) (a b : List ℕ) where
  -- the smallest plan is one, so its text is
  planned_one : SmallestText plan d ceiling ks a → SmallestText plan d ceiling ks b → a ≡ b
  planned_one p q =
      let e = smallest_unique (Admissible plan ks) d ceiling ceiling p.modulus q.modulus p.vector q.vector p.smallest q.smallest in
      p.text
      ∙ ap (λ (n : ℕ). plan_text plan n p.vector ks) e.0
      ∙ ap (λ (z : List ℕ). plan_text plan q.modulus z ks) e.1
      ∙ sym q.text

  -- a plan, or 9: never both
  plan_or_nine_one : PlanOrNine plan d ceiling ks a → PlanOrNine plan d ceiling ks b → a ≡ b
  plan_or_nine_one (inl p) (inl q) = planned_one p q
  plan_or_nine_one (inl p) (inr q) = absurd (smallest_plan (Admissible plan ks) d ceiling p.modulus p.vector p.smallest q.0)
  plan_or_nine_one (inr p) (inl q) = absurd (smallest_plan (Admissible plan ks) d ceiling q.modulus q.vector q.smallest p.0)
  plan_or_nine_one (inr p) (inr q) = p.1 ∙ sym q.1

-- what is read has one answer
answers_one : (r : Reading) (a b : List ℕ) → Answers r a → Answers r b → a ≡ b
answers_one (refused k) a b p q = p ∙ sym q
answers_one (request plan d ceiling run) a b p q =
    refused_one (request_refusal plan d ceiling run) a b
    (PlanOrNine plan d ceiling (index_list d run) a) (PlanOrNine plan d ceiling (index_list d run) b)
    (plan_or_nine_one plan d ceiling (index_list d run) a b) p q

-- from the input bytes alone one answer text follows
pub answer_determined : (text a b : List ℕ) → AnswerTo text a → AnswerTo text b → a ≡ b
unfolding AnswerTo
answer_determined text a b p q = answers_one (reading text) a b p q

-- a text that is refused when it is read is answered by that refusal
pub refused_answer : (text : List ℕ) (k : ℕ) → reading text ≡ refused k → AnswerTo text (refusal_text k)
unfolding AnswerTo
refused_answer text k e = subst (λ (r : Reading). Answers r (refusal_text k)) (sym e) refl

-- ---- a short answer
-- a refusal up to 12 has at most 11 bytes
refusal_short : (k : ℕ) → k ≤ 12 → length (refusal_text k) ≤ 11
refusal_short k h = simp length-append (omega (arith, number_size 1 k (omega arith)))

-- refused, or answered shortly
refused_short : (k : ℕ) (a : List ℕ) (A : Type 0) → k ≤ 12 → (k ≡ 0 → A → length a ≤ 8192) → RefusalTextOr k a A → length a ≤ 8192
refused_short zero a A h i p = i refl p
refused_short (suc k) a A h i p = omega (arith, ap length p, refusal_short (suc k) h)

module _ (plan n : ℕ) (z : List ℤ) (low : 1 ≤ n) (high : n ≤ 8192) where
  -- a residue is below n, and c is at most 64
  map_entries : (ks : List (List ℤ)) → ((k : List ℤ) → Memᴰ k ks → length k ≤ 6) → (j : ℕ) → j < length (residue_map plan n z ks) → get_or (residue_map plan n z ks) j 0 < 65536
  map_entries [] h j l = absurd (omega arith)
  map_entries (k ∷ ks) h zero l = omega (arith, residue-lt n (dot k z) low)
  map_entries (k ∷ ks) h (suc zero) l = omega (arith, copies-le plan n z k, under-length plan k (h k (Memᴰ.head refl)))
  map_entries (k ∷ ks) h (suc (suc j)) l = map_entries ks (λ k' m. h k' (Memᴰ.tail m)) j (omega arith)

  -- 12 bytes to a row
  map_short : (ks : List (List ℤ)) → ((k : List ℤ) → Memᴰ k ks → length k ≤ 6) → length ks ≤ 512 → length (map_text (residue_map plan n z ks)) ≤ 6144
  map_short ks h l = omega (arith, map-size (length ks) (residue_map plan n z ks) (map-length plan n z ks) (map_entries ks h))

-- n and z take at most 42 bytes
pub first_line_short : (n d : ℕ) (z : List ℕ) → n ≤ 8192 → d ≤ 6 → length z ≡ d → ((j : ℕ) → j < d → get_or z j 0 < n) → length (number_text n) + length (vector_text z) ≤ 42
first_line_short n d z h k e b =
    omega (arith, number_size 4 n (omega arith), vector-size z (λ j l. omega (arith, b j (omega arith))))

-- a plan's text
plan_short : (plan n d : ℕ) (z : List ℕ) (ks : List (List ℤ)) → 1 ≤ n → n ≤ 8192 → d ≤ 6 → length z ≡ d → ((j : ℕ) → j < d → get_or z j 0 < n) → ((k : List ℤ) → Memᴰ k ks → length k ≤ 6) → length ks ≤ 512 → length (plan_text plan n z ks) ≤ 8192
plan_short zero n d z ks l h k e b r m = rw length-append (omega (arith, first_line_short n d z h k e b))
plan_short (suc p) n d z ks l h k e b r m =
    simp length-append (omega (arith, first_line_short n d z h k e b, map_short (suc p) n (map pos z) l h ks r m))

-- the list of a run of m × d numbers has m rows
list-rows : (d m : ℕ) (run : List ℤ) → 1 ≤ d → length run ≡ m * d → length (index_list d run) ≡ m
list-rows d m run l e = rows-length d (row_count d run) run ∙ rows-counted d m run l e

-- a plan, or 9
plan_or_nine_short : (plan d ceiling : ℕ) (run : List ℤ) (a : List ℕ) → RequestIn plan d run → ceiling ≤ 8192 → PlanOrNine plan d ceiling (index_list d run) a → length a ≤ 8192
plan_or_nine_short plan d ceiling run a h c (inl p) =
    let s = p.smallest in
    omega (
      arith,
      ap length p.text,
      plan_short plan p.modulus d p.vector (index_list d run) s.low (omega (arith, s.high)) h.head.axes.1 s.gentlest.ranged.size s.gentlest.ranged.below
          (λ k m. omega (arith, h.head.axes.1, member_length d (row_count d run) run k (div-mul-le_self (length run) d) m))
          (omega (arith, list-rows d h.rows_read run h.head.axes.0 h.size, h.head.rows)),
    )
plan_or_nine_short plan d ceiling run a h c (inr q) = omega (arith, ap length q.1, refusal_short 9 (omega arith))

-- what is read is answered shortly
pub answers_short : (r : Reading) (a : List ℕ) → Bounded r → Answers r a → length a ≤ 8192
answers_short (refused k) a h p = omega (arith, ap length p, refusal_short k h)
answers_short (request plan d ceiling run) a h p =
    refused_short (request_refusal plan d ceiling run) a (PlanOrNine plan d ceiling (index_list d run) a)
    (three_le 12 (bad_component plan run) (equal_rows d run) (bad_modulus ceiling)
    (refuse-le 12 4 (any (outside plan) run) (omega arith)) (refuse-le 12 5 (repeats (index_list d run)) (omega arith)) (refuse-le 12 6 (not (within 1 8192 ceiling)) (omega arith)))
    (λ e. plan_or_nine_short plan d ceiling run a h
    (within_holds 6 1 8192 ceiling (omega arith) (three_none (bad_component plan run) (equal_rows d run) (bad_modulus ceiling) e).2).1)
    p

-- an answer has at most 8192 bytes
pub answer_short : (text a : List ℕ) → AnswerTo text a → length a ≤ 8192
unfolding AnswerTo
answer_short text a p = answers_short (reading text) a (reading_bounded text) p
