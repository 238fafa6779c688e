-- `refusal::check_different` meets its contract: the next row and those behind it are the rows that are left.
use Rattle.std.proofs.Common.{rules, arith, ◌≡◌, ◌∷◌}
use Rattle.rank1.specs.Index.{index_list}
use Rattle.rank1.proofs.IndexLaws.{index_cons, index_short}
use Rattle.refusal.proofs.check_different.Goals as goal
use Rattle.refusal.proofs.check_different.Goals.{In-Some}

-- the rows that are left
next : (c : In-Some) → index_list c.args.d c.loop-row.rest.now ≡ c.in-Some.row.now ∷ index_list c.args.d c.in-Some.behind.now
next c =
    let e = index_cons c.args.d c.loop-row.rest.now (omega arith) (search rules) in
    search (rules, e)

pub returns-then-stands : goal.returns-then-stands
returns-then-stands c =
    let e = next (goal.at.returns-then-stands c).In-Some in
    search (rules, e)

pub loop-row-preserved : goal.loop-row-preserved
loop-row-preserved c =
    let e = next (goal.at.loop-row-preserved c).In-Some in
    search (rules, e)

pub returns : goal.returns
returns c =
    let e = index_short c.args.d c.loop-row.rest.now (search rules) in
    search (rules, e)
