-- `lists::corner_list` meets its contract: a refusal leaves the lent places; past it all rows of the corners' list are copied.
use mathlib.Core.Path.{◌≡◌, refl, sym, ◌∙◌, ap, subst}
use mathlib.Core.List.{List, ◌++◌}
use Prim.Native.Nat.{ℕ, ◌*◌, ◌≤◌}
use native.Mathlib.Nat.{mul-le-mul_right}
use native.Mathlib.Omega.{arith}
use borrow.Author.Rules.{rules}
use lib.IntN.{ℤ}
use lib.ListN.{length, drop}
use lib.Seq.{length-take-le}
use Rattle.std.specs.Prelude.{Result, Err, Option, Some, None}
use Rattle.std.specs.Result.{IsErr}
use Rattle.rank1.specs.declared.Refusal.{Refusal}
use Rattle.rank1.specs.declared.Refusal.TheVariants as refusals
use Rattle.rank1.specs.Index.{index_list, run_of}
use Rattle.rank1.specs.Corners.{CornerList}
use Rattle.rank1.specs.Named.{refused}
use Rattle.rank1.specs.Refusal.{first_of, corner_conditions, corner_refusal}
use Rattle.rank1.proofs.CornerLaws.{corner_rows, run_corners}
use Rattle.lists.specs.Answer.{CornerCall}
use Rattle.lists.specs.Inner.{Filled}
use Rattle.lists.proofs.CornerCalls.{valid_corners, corner_parts, fronted_refused, fronted_given}
use Rattle.lists.proofs.corner_list.Goals as goal
use Rattle.lists.proofs.corner_list.Goals.{Start}

-- ---- the list of the corners, and for a list of them the refusal's number
abbrev some_list : Start → List (List ℤ)
some_list s = corner_rows s.args.d (index_list s.args.d s.args.corners.now)

abbrev number : Start → List (List ℤ) → ℕ
number s ks = corner_refusal s.args.d s.args.corners.now (length ks) (length s.args.out.now)

-- a refused call: the number is told, and the places are as they were
refused_call :
    (s : Start) (ks : List (List ℤ)) → CornerList (index_list s.args.d s.args.corners.now) ks
    → (answer : Result ℕ Refusal) → IsErr answer → refused answer ≡ number s ks
    → CornerCall s.args.d s.args.corners.now s.args.out.now s.args.out.now answer
refused_call s ks is answer err told = record { list = ks; is = is; fronted = fronted_refused (number s ks) ks s.args.out.now answer err told }

-- what `fill` says of its answer
abbrev FilledRows : Start → List ℤ → Option ℕ → Type 0
FilledRows s = Filled s.args.d (index_list s.args.d s.args.corners.now)

pub returns-in_err-check_corners : goal.returns-in_err-check_corners
returns-in_err-check_corners c =
    let s = (goal.at.returns-in_err-check_corners c).Start in
    let ks = some_list s in
    let parts = corner_parts c.args.d c.args.corners.now (length ks) (length c.args.out.now) in
    let told : refused c.from_residual.result ≡ number s ks = search (rules, parts) in
    refused_call s ks (run_corners c.args.d c.args.corners.now) c.from_residual.result c.from_residual.ensures.0 told

pub returns-then-m-lt1 : goal.returns-then-m-lt1
returns-then-m-lt1 c =
    let s = (goal.at.returns-then-m-lt1 c).Start in
    let ks = some_list s in
    let parts = corner_parts c.args.d c.args.corners.now (length ks) (length c.args.out.now) in
    let told : 13 ≡ number s ks = search (rules, parts) in
    refused_call s ks (run_corners c.args.d c.args.corners.now) (Err refusals.Corners) refl told

pub fill-requires : goal.fill-requires
fill-requires c =
    let clear : first_of (corner_conditions c.args.d c.args.corners.now) ≡ 0 = search rules in
    valid_corners c.args.d c.args.corners.now clear c.if-m-lt1.false

pub returns-in_err-count : goal.returns-in_err-count
returns-in_err-count c =
    let s = (goal.at.returns-in_err-count c).Start in
    let f : FilledRows s c.fill.new.rows None = subst (FilledRows s c.fill.new.rows) c.in_err-count.ensures.ok_part c.fill.ensures in
    let parts = corner_parts c.args.d c.args.corners.now (length f.list) (length c.args.out.now) in
    let answer = c.from_residual-in_err-count in
    let told : refused answer.result ≡ number s f.list = search (rules, parts, f.written) in
    refused_call s f.list f.is answer.result answer.ensures.0 told

pub returns-in_err-check_places : goal.returns-in_err-check_places
returns-in_err-check_places c =
    let s = (goal.at.returns-in_err-check_places c).Start in
    let f : FilledRows s c.fill.new.rows (Some c.in_ok-count.count) = subst (FilledRows s c.fill.new.rows) c.in_ok-count.ensures.ok_part c.fill.ensures in
    let answer = c.from_residual-in_err-check_places in
    let parts = corner_parts c.args.d c.args.corners.now (length f.list) (length c.args.out.now) in
    let few : length f.list ≤ 512 = omega (arith, f.written) in
    let told : refused answer.result ≡ number s f.list = search (rules, parts, few) in
    refused_call s f.list f.is answer.result answer.ensures.0 told

pub returns : goal.returns
returns c =
    let s = (goal.at.returns c).Start in
    let f : FilledRows s c.fill.new.rows (Some c.in_ok-count.count) = subst (FilledRows s c.fill.new.rows) c.in_ok-count.ensures.ok_part c.fill.ensures in
    let out = c.args.out.now in
    let parts = corner_parts c.args.d c.args.corners.now (length f.list) (length out) in
    let few : length f.list ≤ 512 = omega (arith, f.written) in
    let told : 0 ≡ number s f.list = search (rules, parts, few) in
    let rows : c.copy_from_slice.new.self ≡ run_of f.list = c.copy_from_slice.ensures.after ∙ f.written.2 in
    let few_axes : c.args.d ≤ 6 = search rules in
    let fits = mul-le-mul_right {m = c.in_ok-count.count} {n = 512} c.args.d (omega (arith, few)) in
    let long : c.in_ok-count.count * c.args.d ≡ length (run_of f.list) =
    sym (length-take-le (c.in_ok-count.count * c.args.d) c.fill.new.rows (omega (arith, fits, few_axes, c.fill.array_long))) ∙ ap length f.written.2 in
    record {
      list = f.list;
      is = f.is;
      fronted = fronted_given (number s f.list) c.in_ok-count.count f.list out (c.copy_from_slice.new.self ++ drop (c.in_ok-count.count * c.args.d) out) told f.written.0
          (ap (λ (t : List ℤ). t ++ drop (c.in_ok-count.count * c.args.d) out) rows ∙ ap (λ (n : ℕ). run_of f.list ++ drop n out) long);
    }
