use Rattle.std.proofs.Common.{◌≡◌, IfOk, ap, subst}
use Rattle.sys_run.specs.Words.{SysValue}
use Rattle.spec_scripts.specs.Words.{refusal}
use Rattle.doors_top.specs.Outcomes.{outcome_of_turns}
use Rattle.doors_top.specs.Top.{LawsOfScript}
use Rattle.doors_top.proofs.play.play_script.Goals as goal

pub returns-clause-status : goal.returns-clause-status
returns-clause-status c =
    subst (λ s. IfOk c.play_turns.result (λ reply. reply.status ≡ (outcome_of_turns s (refusal s)).status))
    (ap (λ (p : SysValue). p.script) c.in_ok-playing.ensures)
    c.play_turns.ensures.status

pub returns-clause-text : goal.returns-clause-text
returns-clause-text c =
    subst (λ s. IfOk c.play_turns.result (λ reply. reply.text ≡ (outcome_of_turns s (refusal s)).text))
    (ap (λ (p : SysValue). p.script) c.in_ok-playing.ensures)
    c.play_turns.ensures.text

pub returns-clause-laws : goal.returns-clause-laws
returns-clause-laws c =
    subst (λ s. IfOk c.play_turns.result (λ reply. LawsOfScript s (refusal s)))
    (ap (λ (p : SysValue). p.script) c.in_ok-playing.ensures)
    c.play_turns.ensures.laws
