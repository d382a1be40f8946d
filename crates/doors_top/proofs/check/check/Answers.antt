use Rattle.std.proofs.Common.{sym, subst}
use Rattle.doors_top.specs.Outcomes.{Outcome, outcome_of_check}
use Rattle.doors_top.specs.Top.{IsChecked}
use Rattle.doors_top.proofs.Frames.{same_outcome}
use Rattle.doors_top.proofs.check.check.Goals as goal

pub returns-clause-said : goal.returns-clause-said
returns-clause-said c =
    subst (λ (made : Outcome). IsChecked c.args.read.now made)
    (sym (same_outcome (outcome_of_check c.args.read.now) _ _ c.in_ok-reply.ensures.status c.in_ok-reply.ensures.text))
    (c.checked_inputs.ensures c.args.read.now)
