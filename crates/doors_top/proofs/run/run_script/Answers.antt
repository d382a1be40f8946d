use Rattle.std.proofs.Common.{subst, sym, IfOk}
use Rattle.script_lang.specs.Words.{ScriptValue}
use Rattle.doors_top.specs.Input.{IsSpelled}
use Rattle.doors_top.specs.Outcomes.{outcome_with}
use Rattle.doors_top.specs.Top.{IsOfSomeRun}
use Rattle.doors_top.proofs.run.run_script.Goals as goal

pub reply_for_ran-requires-clause-spelled : goal.reply_for_ran-requires-clause-spelled
reply_for_ran-requires-clause-spelled g c = subst IsSpelled (sym c.in_ok-ran.ensures.script) c.requires

pub returns-clause-run : goal.returns-clause-run
returns-clause-run g c =
    subst
    (λ (s : ScriptValue). IfOk c.reply_for_ran.result (λ reply. IsOfSomeRun s (outcome_with reply.status reply.text)))
    c.in_ok-ran.ensures.script
    c.reply_for_ran.ensures.run
