-- `Search::ends_hold`: a level has no more numbers than places, and its rows are a valid list (ends_valid); the rule on the rows that end there is decided, and where it fails nothing
-- begins so (ends_decided).
use native.Mathlib.Omega.{arith}
use Rattle.planner.proofs.search.EndLaws.{ends_valid, ends_ready, ends_decided}
use Rattle.planner.proofs.search.Search.ends_hold.Goals as goal

pub level_at-requires : goal.level_at-requires
level_at-requires c =
    let prefix = c.requires.prefixed in
    (omega (arith, prefix.within, c.args.self.now.task.rows.valid.few_axes), c.requires.listed.ends.few c.args.at (omega (arith, prefix.within)))

pub invariant_of-ending : goal.invariant_of-ending
invariant_of-ending c =
    let a = c.args in
    record {
      valid =
          ends_valid a.self.now a.at a.z.now a.work.now.products c.requires.listed c.requires.prefixed (omega arith) c.level_at.result.now c.level_at.ensures;
    }

pub invariant_of-lattice : goal.invariant_of-lattice
invariant_of-lattice c =
    let a = c.args in
    record { ready = ends_ready a.self.now a.at a.z.now a.work.now.products c.requires.listed c.requires.prefixed (omega arith) c.level_at.result.now c.level_at.ensures }

pub returns-clause-holds : goal.returns-clause-holds
returns-clause-holds c =
    let a = c.args in
    ends_decided a.self.now a.at a.z.now a.work.now.products c.requires.listed c.requires.prefixed (omega arith) c.level_at.result.now c.level_at.ensures
    c.keeps_rule.result c.keeps_rule.ensures
