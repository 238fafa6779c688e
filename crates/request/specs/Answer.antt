-- The answer's text. A request is answered by the smallest plan, or refused with 4, 5, 6 or 9.
use Rattle.std.specs.Prelude.{◌≡◌, ◌⊎◌, List, [], ◌∷◌, ◌++◌, map, ℕ, zero, suc, ℤ, pos}
use Rattle.rank1.specs.Index.{index_list}
use Rattle.rank1.specs.Rule.{Admissible}
use Rattle.rank1.specs.Search.{Smallest, NoPlan}
use Rattle.rank1.specs.Sums.{residue_map}
use Rattle.rank1.specs.Refusal.{first_of, bad_component, equal_rows, bad_modulus}
use Rattle.request.specs.Text.{space, newline, number_text}
use Rattle.request.specs.Reading.{Reading, refused, request, reading}

-- the word `refused` and a space
abbrev pub refused_word : List ℕ
refused_word = 114 ∷ 101 ∷ 102 ∷ 117 ∷ 115 ∷ 101 ∷ 100 ∷ space ∷ []

-- a refusal: the word, the number, a newline
abbrev pub refusal_text : ℕ → List ℕ
refusal_text k = refused_word ++ number_text k ++ (newline ∷ [])

-- the components of z, a space before each, and the line's end
abbrev pub vector_text : List ℕ → List ℕ
vector_text [] = newline ∷ []
vector_text (x ∷ z) = space ∷ number_text x ++ vector_text z

-- the map: a line for each row with its residue and its c
abbrev pub map_text : List ℕ → List ℕ
map_text [] = []
map_text (r ∷ []) = []
map_text (r ∷ c ∷ rest) = number_text r ++ space ∷ number_text c ++ newline ∷ map_text rest

-- a plan: n and z on one line; then, except for plan 0, the map
abbrev pub plan_text : ℕ → ℕ → List ℕ → List (List ℤ) → List ℕ
plan_text zero n z ks = number_text n ++ vector_text z
plan_text (suc p) n z ks = number_text n ++ vector_text z ++ map_text (residue_map (suc p) n (map pos z) ks)

-- the text of the smallest plan
pub record SmallestText (plan d ceiling : ℕ) (ks : List (List ℤ)) (answer : List ℕ) : Type 0 where
  pub modulus : ℕ
  pub vector : List ℕ
  pub smallest : Smallest (Admissible plan ks) d ceiling modulus vector
  pub text : answer ≡ plan_text plan modulus vector ks

-- that text, or `refused 9` where there is no plan
abbrev pub PlanOrNine : ℕ → ℕ → ℕ → List (List ℤ) → List ℕ → Type 0
PlanOrNine plan d ceiling ks answer = SmallestText plan d ceiling ks answer ⊎ (NoPlan (Admissible plan ks) d ceiling × (answer ≡ refusal_text 9))

-- the text of the refusal k, or (0) what answers otherwise
abbrev pub RefusalTextOr : ℕ → List ℕ → Type 0 → Type 0
RefusalTextOr zero answer Otherwise = Otherwise
RefusalTextOr (suc k) answer Otherwise = answer ≡ refusal_text (suc k)

-- 4, 5 and 6
abbrev pub request_refusal : ℕ → ℕ → ℕ → List ℤ → ℕ
request_refusal plan d ceiling run = first_of (bad_component plan run ∷ equal_rows d run ∷ bad_modulus ceiling ∷ [])

-- what is read is answered: 4, 5, 6, and then the search
abbrev pub Answers : Reading → List ℕ → Type 0
Answers (refused k) answer = answer ≡ refusal_text k
Answers (request plan d ceiling run) answer =
    RefusalTextOr (request_refusal plan d ceiling run) answer (PlanOrNine plan d ceiling (index_list d run) answer)

-- the answer to a text
unfoldable pub AnswerTo : List ℕ → List ℕ → Type 0
AnswerTo text answer = Answers (reading text) answer
