-- `table::Differences::probe`: every slot is looked at, those from the hash on and then those before it.
use mathlib.Core.Path.{◌≡◌, refl, ◌∙◌, ap}
use mathlib.Core.List.{List, ◌++◌}
use Prim.Native.Nat.{ℕ, ◌<◌, ◌-◌}
use native.Mathlib.Omega.{arith}
use Rattle.std.proofs.Common.{rules, tests}
use Rattle.std.specs.Prelude.{Option, Some, None, MatchOption}
use Rattle.std.specs.List.{range_with_len}
use Rattle.std.proofs.lemmas.Iterator.{YieldsList-from_range, first_from_find}
use Rattle.std.proofs.lemmas.Iterator.Consumers.{YieldsList-from_chain}
use Rattle.std.proofs.lemmas.Iterator.Adapters.{serves_from_places}
use lib.IntN.{ℤ}
use lib.ListN.{length, get_or, length-append, get_or-append}
use lib.Seq.{get_or-append_right}
use Rattle.std.proofs.lemmas.List.FromFn.{length-range_with_len, get_or-range_with_len}
use Rattle.planner.specs.declared.table.Differences.{Differences}
use Rattle.planner.specs.Sizes.{slot_count}
use Rattle.planner.specs.Table.{Probed}
use Rattle.planner.proofs.table.Differences.probe.Goals as goal

-- the slots in this order, xs and behind them ys
within : (from k d : ℕ) (xs ys : List ℕ) → from < slot_count → xs ≡ range_with_len from (slot_count - from) → ys ≡ range_with_len 0 (from - 0)
    → k < length (xs ++ ys) → get_or (xs ++ ys) k d < slot_count
within from k d xs ys f e b l =
    grind (
      arith,
      f,
      l,
      length-append xs ys,
      ap length e ∙ length-range_with_len from (slot_count - from),
      ap length b ∙ length-range_with_len 0 (from - 0),
      get_or-append xs ys d k,
      get_or-append_right xs ys k d,
      ap (λ (zs : List ℕ). get_or zs k d) e,
      ap (λ (zs : List ℕ). get_or zs (k - length xs) d) b,
      get_or-range_with_len from (slot_count - from) k d,
      get_or-range_with_len 0 (from - 0) (k - length xs) d,
    )

-- what `find` gave, where P x says at least that x is such a slot
probed :
    (h : List ℤ) (t : Differences) (r : Option ℕ) (N : Type 0) (P : ℕ → Type 0)
    → MatchOption r N P → ((x : ℕ) → P x → Probed h t (Some x)) → Probed h t r
probed h t None N P m g = tt
probed h t (Some x) N P m g = g x m

pub find-requires-clause-callable : goal.find-requires-clause-callable
find-requires-clause-callable c =
    let from = c.hash-from.result in
    let road = YieldsList-from_chain (YieldsList-from_range from slot_count _ c.chain.ensures.first refl) (YieldsList-from_range 0 from _ c.chain.ensures.second refl)
    c.chain.ensures.first_done c.chain.ensures.second_done in
    serves_from_places road (λ x q k. search (rules, tests)) (λ x k l e. let w : x < slot_count = omega (arith, e, within from k x _ _ c.hash-from.ensures refl refl l) in search (rules, w))

pub returns : goal.returns
returns c =
    let from = c.hash-from.result in
    let road = YieldsList-from_chain (YieldsList-from_range from slot_count _ c.chain.ensures.first refl) (YieldsList-from_range 0 from _ c.chain.ensures.second refl)
    c.chain.ensures.first_done c.chain.ensures.second_done in
    probed c.args.h.now c.args.self.now c.find.result _ _ (first_from_find c.find.new.self _ c.find.result (λ x. Probed c.args.h.now c.args.self.now (Some x)) (λ x. Unit {0}) c.find.ensures.ran road
    (λ x q k. search (rules, tests)) (λ x q k. (search rules, tt))) (λ x p. p.0)
