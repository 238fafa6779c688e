-- `counting::count` meets its contract: the next chunk is the next row (counted-turn), and in the end all rows are counted.
use mathlib.Core.Path.{◌≡◌, sym, ap, subst}
use mathlib.Core.List.{◌++◌}
use Prim.Native.Nat.{ℕ, ◌≤◌, ◌+◌, ◌*◌}
use native.Mathlib.Nat.{le-div_iff_mul-le}
use native.Mathlib.Omega.{arith}
use borrow.Author.Rules.{rules}
use lib.ListN.{length, take, drop}
use Rattle.std.specs.Slice.Iter.{chunks_exact_rest}
use Rattle.rank1.specs.declared.Tally.{Tally}
use Rattle.rank1.specs.Index.{rows_of, row_count}
use Rattle.rank1.specs.Named.{plan_number}
use Rattle.rank1.proofs.IndexLaws.{chunk_row, chunk_rest, chunk_within, chunks_end}
use Rattle.lists.specs.Inner.{summed}
use Rattle.lists.proofs.RecountLaws.{counted-turn, counted_addable}
use Rattle.lists.proofs.counting.count.Goals as goal
use Rattle.lists.proofs.counting.count.Goals.{In-Some}

-- ---- the next row, of d numbers, and the rest
left : (c : In-Some) → drop (c.loop-row.tally.m * c.args.d) c.args.rows.now ≡ c.in-Some.row.now ++ chunks_exact_rest c.next.new.self
left c = search rules

long : (c : In-Some) → length c.in-Some.row.now ≡ c.args.d
long c = search rules

next : (c : In-Some) → c.in-Some.row.now ≡ take c.args.d (drop (c.loop-row.tally.m * c.args.d) c.args.rows.now)
next c =
    chunk_row c.args.d c.loop-row.tally.m c.args.rows.now c.in-Some.row.now (chunks_exact_rest c.next.new.self) (left c) (long c) c.loop-row.invariant.within

pub plus-tally-requires : goal.plus-tally-requires
plus-tally-requires c =
    let l = c.loop-row in
    let s = (goal.at.plus-tally-requires c).In-Some in
    let few : l.tally.m ≤ row_count c.args.d c.args.rows.now = (le-div_iff_mul-le c.requires.some_axes).1 l.invariant.within in
    counted_addable (plan_number c.args.plan) c.args.d c.args.rows.now l.tally.m l.tally c.in-Some.row.now
    (omega (arith, few, c.requires.few_rows)) c.requires.few_axes l.invariant.within (long s) l.invariant.so_far

pub loop-row-preserved : goal.loop-row-preserved
loop-row-preserved c =
    let l = c.loop-row in
    let s = (goal.at.loop-row-preserved c).In-Some in
    let rest = chunks_exact_rest c.next.new.self in
    let turn : c.plus-tally.result.m ≡ l.tally.m + 1 = ap (λ (t : Tally). t.m) c.plus-tally.ensures in
    record {
      can_next = search rules;
      is_finite = search rules;
      size = search rules;
      within = subst (λ (n : ℕ). n * c.args.d ≤ length c.args.rows.now) (sym turn) (chunk_within c.args.d l.tally.m c.args.rows.now c.in-Some.row.now rest (left s) (long s) l.invariant.within);
      left = subst (λ (n : ℕ). rest ≡ drop (n * c.args.d) c.args.rows.now) (sym turn) (chunk_rest c.args.d l.tally.m c.args.rows.now c.in-Some.row.now rest (left s) (long s) l.invariant.within);
      so_far = subst (λ (n : ℕ). c.plus-tally.result ≡ summed (plan_number c.args.plan) c.args.d (rows_of c.args.d n c.args.rows.now)) (sym turn) (counted-turn (plan_number c.args.plan) c.args.d c.args.rows.now l.tally.m l.tally c.plus-tally.result c.in-Some.row.now (next s) (long s) l.invariant.so_far c.plus-tally.ensures);
    }

pub returns : goal.returns
returns c =
    let l = c.loop-row in
    let end = chunks_end c.args.d l.tally.m c.args.rows.now l.invariant.within (search rules) in
    subst (λ (n : ℕ). l.tally ≡ summed (plan_number c.args.plan) c.args.d (rows_of c.args.d n c.args.rows.now)) end l.invariant.so_far
