-- `members::Members::gather`: the members of the rows passed are gathered; a turn adds those of the next row (`gathering-next`).
use Rattle.std.proofs.Common.{rules, arith, sym, subst, ℕ, length}
use Rattle.std.proofs.lemmas.List.{length_push}
use Rattle.rank1.specs.Index.{rows_of}
use Rattle.rank1.specs.Named.{plan_number}
use Rattle.planner.specs.Members.{Gathering, MembersStay, RowMembers}
use Rattle.planner.proofs.RowLaws.{Comes, next-number, no-number}
use Rattle.planner.proofs.members.MemberLaws.{row_small, gathering-next}
use Rattle.planner.proofs.members.Members.gather.Goals as goal
use Rattle.planner.proofs.members.Members.gather.Goals.{In-Some}

-- the row that comes is the next of the list, and has its number
next : (c : In-Some) → Comes c.args.rows.now (length c.loop-i.yielded) c.in-Some.i c.in-Some.row.now
next c = next-number c.args.rows.now _ (search rules) _ _ _ c.loop-i.yielded_by c.in-Some.is c.next.ensures.steps

pub overflow_cast-i : goal.overflow_cast-i
overflow_cast-i c =
    let here = next (goal.at.overflow_cast-i c).In-Some in
    record { fits = omega (arith, here.among, c.args.rows.now.valid.few_rows) }

pub add_mirrors-requires : goal.add_mirrors-requires
add_mirrors-requires c =
    let rows = c.args.rows.now in
    let here = next (goal.at.add_mirrors-requires c).In-Some in (
      omega (arith, here.size, rows.valid.few_axes),
      row_small rows.d c.in-Some.i rows.numbers.now c.in-Some.row.now rows.valid.small here.is here.size,
      omega (arith, here.size, c.requires),
    )

pub loop-i-preserved : goal.loop-i-preserved
loop-i-preserved c =
    let rows = c.args.rows.now in
    let plan = plan_number rows.plan in
    let l = c.loop-i in
    let k = c.in-Some.row.now in
    let made = c.add_mirrors.new.self in
    let here = next (goal.at.loop-i-preserved c).In-Some in
    subst (λ (i : ℕ). Gathering plan rows.d (rows_of rows.d i rows.numbers.now) made) (omega (arith, here.number, length_push l.yielded (c.in-Some.i, c.in-Some.row)))
    (gathering-next plan rows.d c.in-Some.i rows.numbers.now k l.members made here.is
    (subst (λ (i : ℕ). Gathering plan rows.d (rows_of rows.d i rows.numbers.now) l.members) (sym here.number) l.invariant)
    (subst (λ (n : ℕ). MembersStay n l.members.count l.members made) here.size c.add_mirrors.ensures.0)
    (subst (λ (n : ℕ). RowMembers plan n l.members.count c.in-Some.i k made) here.size c.add_mirrors.ensures.1))

pub returns : goal.returns
returns c =
    let rows = c.args.rows.now in
    let all = no-number rows _ (search rules) _ _ _ c.loop-i.yielded_by c.in-None.is c.next.ensures.steps in
    subst (λ (m : ℕ). Gathering (plan_number rows.plan) rows.d (rows_of rows.d m rows.numbers.now) c.loop-i.members) all c.loop-i.invariant
