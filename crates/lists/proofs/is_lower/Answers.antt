-- `lists::is_lower` meets its contract: past the refusals the list is lower just where every component of every row is 0 or can be lowered.
use borrow.Author.Rules.{rules}
use Rattle.rank1.specs.Index.{index_list}
use Rattle.rank1.specs.Refusal.{lower_refusal}
use Rattle.lists.proofs.lower.LowerSteps.{steps_lower, lower_steps}
use Rattle.lists.proofs.is_lower.Goals as goal

pub returns : goal.returns
unfolding lower_refusal
returns c =
    let ks = index_list c.args.d c.args.rows.now in (
      search rules,
      record {
        yes = λ e. steps_lower ks (c.list_steps.ensures.yes e);
        no = λ e low. c.list_steps.ensures.no e (lower_steps ks low);
      },
    )
