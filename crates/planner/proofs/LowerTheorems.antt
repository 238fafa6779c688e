-- Lower lists in the search (document 02, c). With the first j components fixed, the different rows shortened to the first j axes break the
-- plan's rule just where the rows do for which the search tests it, those that are 0 from axis j on. Then no vector of whole numbers that
-- begins so is admissible (`short_none`), and the search, where it tests them, goes no further with it (`short_dropped`; of any numbers and
-- rows `short_untried`). What it gives is the promise that stood, so the plan is the same.
use mathlib.Core.Path.{◌≡◌, refl, sym, ◌∙◌, ap}
use mathlib.Core.Logic.{◌↔◌}
use mathlib.Core.Bool.{Bool, true, false}
use mathlib.Core.List.{List, map, Memᴰ}
use Prim.Native.Nat.{ℕ, ◌+◌, ◌≤◌}
use lib.IntN.{ℤ, pos}
use lib.ListN.{length, take, get_or-map}
use lib.Seq.{get_or-take}
use Rattle.rank1.specs.Named.{plan_number}
use Rattle.rank1.specs.Rule.{Admissible}
use Rattle.rank1.specs.Corners.{Lower, Shortened}
use Rattle.rank1.proofs.ShortLaws.{Cut, short_rule, short_prune}
use Rattle.planner.specs.declared.search.Search.{Search}
use Rattle.planner.specs.declared.tables.Work.{Work}
use Rattle.planner.specs.Lists.{rows_in}
use Rattle.planner.specs.Levels.{ending}
use Rattle.planner.specs.Stage.{NoneFrom, Tried}
use Rattle.planner.proofs.levels.LevelLaws.{zero_from_lem, from_zero_lem, ending-out, ending_in}

module _ (plan d j : ℕ) (ks hs : List (List ℤ)) (within : j ≤ d) (long : (k : List ℤ) → Memᴰ k ks → length k ≡ d) (low : Lower ks) (short : Shortened j ks hs) where
  -- the rows of level j are the list's rows that are 0 from axis j on
  level : Cut d j ks hs (ending j ks)
  level = record {
    within = within;
    long = long;
    lower = low;
    shortened = short;
    ending = λ k. ((λ m. let r = ending-out j ks k m in (r.0, zero_from_lem j k r.1)), (λ p. ending_in j ks k p.0 (from_zero_lem j k p.1)));
  }

  module _ (n : ℕ) (z : List ℕ) where
    -- the shortened rows meet the rule with the fixed components just where the level does
    pub short_level : Admissible plan hs n (map pos (take j z)) ↔ Admissible plan (ending j ks) n (map pos (take j z))
    short_level = short_rule d j ks hs (ending j ks) level n (map pos (take j z)) (map pos (take j z)) (λ i l. refl) plan

    -- where they break it, no vector of whole numbers that begins so is admissible
    pub short_none : (Admissible plan hs n (map pos (take j z)) → ⊥) → NoneFrom (Admissible plan ks) d n j z
    unfolding NoneFrom
    short_none breaks y size begins =
        short_prune d j ks hs (ending j ks) level n (map pos (take j z)) y
        (λ i l. get_or-map pos (take j z) i 0 ∙ ap pos (get_or-take j z i 0 l) ∙ sym (begins i l))
        plan breaks

-- a value is tried for component at: where the rows that end by it are tested (`tested`) and the shortened rows break the rule, the answer is no.
-- This is of any numbers and rows
module _
    (plan d n at : ℕ) (ks hs : List (List ℤ)) (z : List ℕ) (sieved r : Bool)
    (tested : sieved ≡ false → r ≡ true → Admissible plan (ending (at + 1) ks) n (map pos (take (at + 1) z)))
    (within : at + 1 ≤ d) (long : (k : List ℤ) → Memᴰ k ks → length k ≡ d) (low : Lower ks) (short : Shortened (at + 1) ks hs)
  where
    pub short_untried : sieved ≡ false → (Admissible plan hs n (map pos (take (at + 1) z)) → ⊥) → r ≡ false
    short_untried unsieved breaks = go r refl
      where
        go : (b : Bool) → r ≡ b → b ≡ false
        go true e = absurd (breaks ((short_level plan d (at + 1) ks hs within long low short n z).1 (tested unsieved e)))
        go false e = refl

-- the search tries v for component at: it goes on only where the shortened rows keep the rule, unless every difference is struck and so the
-- sieve stands for the test. `tried` is the contract of that call (specs/Stage `Tried`), whose `tested` says it
module _
    (s : Search) (at v : ℕ) (z : List ℕ) (w : Work) (z' : List ℕ) (w' : Work) (r : Bool) (tried : Tried s at v z w z' w' r) (hs : List (List ℤ))
    (within : at + 1 ≤ s.task.rows.d) (long : (k : List ℤ) → Memᴰ k (rows_in s.task.rows) → length k ≡ s.task.rows.d)
    (low : Lower (rows_in s.task.rows)) (short : Shortened (at + 1) (rows_in s.task.rows) hs)
  where
    pub short_dropped : s.sieved ≡ false → (Admissible (plan_number s.task.rows.plan) hs s.n (map pos (take (at + 1) z')) → ⊥) → r ≡ false
    short_dropped =
        short_untried (plan_number s.task.rows.plan) s.task.rows.d s.n at (rows_in s.task.rows) hs z' s.sieved r tried.tested within long low short
