-- Values that a difference forbids: what the sieve strikes is what no admissible vector of whole numbers has.
use mathlib.Core.Path.{◌≡◌, sym, ap, ◌∙◌}
use mathlib.Core.List.{List, [], map, Memᴰ}
use Prim.Native.Nat.{ℕ, suc, ◌+◌, ◌*◌, ◌%◌, ◌<◌, ◌≤◌}
use native.Mathlib.Nat.{zero-add, zero-mod}
use native.Mathlib.Omega.{arith}
use lib.IntN.{ℤ, pos, nat_abs, ◌*ℤ◌}
use lib.ListN.{get_or, take, get_or-map}
use Rattle.planner.specs.declared.search.Search.{Search}
use Rattle.rank1.specs.Residue.{residue, residue_at}
use Rattle.rank1.specs.Differences.{EndsAt}
use Rattle.rank1.proofs.DifferenceLaws.{residue-more, struck-out}
use Rattle.planner.specs.Sizes.{axes, lasts, room, places}
use Rattle.planner.specs.Inner.{place, Covered}
use Rattle.planner.specs.Runs.{column}
use Rattle.planner.specs.Sieve.{part_at, Forbidden, FirstForbidden}
use Rattle.planner.specs.Stage.{rule_of, Tabled, BeginsAs, Prefixed, Fixed, SumsTo}
use Rattle.planner.proofs.runs.RunLaws.{column_at, bounds_rise}

-- the product of a fixed component with a small number
pub product_at :
    (s : Search) (at : ℕ) (z products : List ℕ) → Prefixed s at z products → (j : ℕ) (x : ℤ) → j < at → nat_abs x ≤ s.task.listing.top
    → get_or products (j * places + place x) 0 ≡ residue s.n (x *ℤ get_or (map pos z) j (pos 0))
product_at s at z products f j x l b =
    f.entries j x l b ∙ ap (λ (a : ℤ). residue s.n (x *ℤ a)) (sym (get_or-map pos z j 0))

-- the part of a difference before axis at + 1: the sum of its part before axis at, and the product on axis at
pub part-is :
    (s : Search) (at : ℕ) (z sums products : List ℕ) → Prefixed s (at + 1) z products → Covered s.task.listing.top s.task.list.now.components → at < s.task.rows.d
    → (e : ℕ) → get_or sums (at * room + e) 0 ≡ residue_at s.n (map pos z) (take at (column s.task.rows.d s.task.list.now.components e))
    → part_at s.n at s.task.list.now.components products sums e ≡ residue_at s.n (map pos z) (take (suc at) (column s.task.rows.d s.task.list.now.components e))
part-is s at z sums products prefix small within e sum =
    ap (λ (x : ℕ). (x + get_or products (at * places + place c) 0) % s.n) sum
    ∙ ap (λ (x : ℕ). (residue_at s.n (map pos z) (take at h) + x) % s.n)
    (product_at s (at + 1) z products prefix at c (omega arith) (small.covered (at * room + e))
    ∙ ap (λ (x : ℤ). residue s.n (x *ℤ get_or (map pos z) at (pos 0))) (sym (column_at s.task.rows.d s.task.list.now.components e at within)))
    ∙ sym (residue-more s.n at h (map pos z) prefix.modulus.low)
  where
    h : List ℤ
    h = column s.task.rows.d s.task.list.now.components e

    c : ℤ
    c = get_or s.task.list.now.components (at * room + e) (pos 0)

module _ (s : Search) (before : ℕ) (z sums products : List ℕ) (fixed : Fixed s (before + 1) z products) (within : suc before < s.task.rows.d) (set : SumsTo s before z sums) where
  -- no vector of whole numbers that begins as z and has such a v there meets the rule
  pub forbidden-none :
      (v : ℕ) → Forbidden s.n before s.task.list.now products sums v
      → (y : List ℤ) → BeginsAs (suc before) y z → get_or y (suc before) (pos 0) ≡ pos v → rule_of s.task.rows s.n y → ⊥
  forbidden-none v f y begins here =
      struck-out (rule_of s.task.rows) s.n (suc before) f.last v (column s.task.rows.d s.task.list.now.components f.which) y (map pos z) fixed.prefix.modulus.low
      (fixed.tabled.differenced.sound (column s.task.rows.d s.task.list.now.components f.which) listed.0) listed.1
      (λ i l. begins i l ∙ sym (get_or-map pos z i 0)) here
      (ap (λ (c : ℕ). (c + f.last * v) % s.n) (sym (part-is s before z sums products fixed.prefix fixed.tabled.differenced.small (omega arith) f.which (set before f.which (omega arith) (omega arith) low high))) ∙ f.solved)
    where
      listed : Memᴰ (column s.task.rows.d s.task.list.now.components f.which) fixed.tabled.differenced.differences × EndsAt (suc before) f.last (column s.task.rows.d s.task.list.now.components f.which)
      listed = fixed.tabled.differenced.arranged.listed (suc before) f.last f.which within f.small f.from f.to

      rise : (a c : ℕ) → a ≤ c → c ≤ axes * lasts → get_or s.task.list.now.bounds a 0 ≤ get_or s.task.list.now.bounds c 0
      rise = bounds_rise s.task.list.now.bounds s.task.list.now.bounded

      few : s.task.rows.d ≤ axes
      few = s.task.rows.valid.few_axes

      low : get_or s.task.list.now.bounds ((before + 1) * lasts) 0 ≤ f.which
      low = omega (arith, f.small, f.from, few, rise ((before + 1) * lasts) (suc before * lasts + f.last) (omega arith) (omega (arith, f.small, few)))

      high : f.which < get_or s.task.list.now.bounds (s.task.rows.d * lasts) 0
      high = omega (arith, f.small, f.to, few, rise (suc (suc before * lasts + f.last)) (s.task.rows.d * lasts) (omega (arith, f.small)) (omega (arith, few)))

-- the same at the first axis, before which nothing stands
pub first_none :
    (s : Search) (z : List ℕ) → Tabled s.task → 0 < s.n → (v : ℕ) → FirstForbidden s.n s.task.list.now.bounds v
    → (y : List ℤ) → get_or y 0 (pos 0) ≡ pos v → rule_of s.task.rows s.n y → ⊥
first_none s z tabled some v f y here =
    struck-out (rule_of s.task.rows) s.n 0 f.last v h y [] some (tabled.differenced.sound h listed.0) listed.1 (λ i l. absurd (omega arith)) here
    (ap (λ (c : ℕ). (c + f.last * v) % s.n) (zero-mod s.n) ∙ ap (λ (c : ℕ). c % s.n) (zero-add (f.last * v)) ∙ f.solved)
  where
    h : List ℤ
    h = column s.task.rows.d s.task.list.now.components f.which

    run : 0 * lasts + f.last ≡ f.last
    run = omega arith

    listed : Memᴰ h tabled.differenced.differences × EndsAt 0 f.last h
    listed =
        tabled.differenced.arranged.listed 0 f.last f.which s.task.rows.valid.some_axes f.small
        (omega (arith, f.from, ap (λ (c : ℕ). get_or s.task.list.now.bounds c 0) run)) (omega (arith, f.to, ap (λ (c : ℕ). get_or s.task.list.now.bounds (suc c) 0) run))
