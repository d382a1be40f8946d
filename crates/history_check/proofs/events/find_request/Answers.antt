use Rattle.std.proofs.Common.{sym, ◌∙◌}
use Rattle.history_check.specs.Findings.{reached}
use Rattle.history_check.specs.Places.{Reached}
use Rattle.history_check.proofs.EventLines.{entered, not_entered, took_turn}
use Rattle.history_check.proofs.events.find_request.Goals as goal

pub returns-in_ok-enter : goal.returns-in_ok-enter
returns-in_ok-enter g c = λ stage number answer.
    let p : Reached = reached c.args.names.now stage (g.K.RecordsHistory.history c.args.kernel.now) in
    entered _ p _ _ _ c.args.thread c.args.request (sym c.may_enter.ensures.value ∙ c.if-may_enter.true)
    (took_turn _ p _ c.slice.result.now _ _ _ _ (c.slice.ensures ∙ c.in_ok-enter.ensures.text) (c.in_ok-enter.ensures.names number answer)
    c.in_ok-enter.ensures.history c.compare.ensures)

pub returns-else-may_enter : goal.returns-else-may_enter
returns-else-may_enter g c = λ stage number answer.
    let p : Reached = reached c.args.names.now stage (g.K.RecordsHistory.history c.args.kernel.now) in
    not_entered _ p _ _ _ c.args.thread c.args.request (sym c.may_enter.ensures.value ∙ c.if-may_enter.false) (c.find_waiting.ensures stage)
