-- `rule::admits` meets its contract: what decides the rule is the test of it (`rule_is`), at the lattice of n and z.
use Rattle.std.proofs.Common.{map, pos}
use Rattle.rank1.specs.Named.{plan_number}
use Rattle.rank1.proofs.RuleTestLaws.{rule_is}
use Rattle.planner.specs.Lists.{rows_in}
use Rattle.planner.proofs.rule.admits.Goals as goal

pub returns : goal.returns
returns c =
    let made = c.of.ensures in
    let lattice = c.of.result in
    let r = c.decides_rule in
    let told = rule_is (rows_in lattice.rows) lattice.n (map pos lattice.z.now) (plan_number lattice.rows.plan) r.result r.ensures.yes r.ensures.no in
    let listed = rw made.0 at told in
    let modulus = rw made.1 at listed in
    rw made.2 at modulus
