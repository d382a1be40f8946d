use Rattle.std.proofs.Common.{sym, ◌∙◌}
use Rattle.history_check.specs.Findings.{reached}
use Rattle.history_check.specs.Places.{Reached}
use Rattle.history_check.proofs.EventLines.{took_turn, went_on}
use Rattle.history_check.proofs.events.find_wait_end.Goals as goal

pub returns-in_ok-go_on : goal.returns-in_ok-go_on
returns-in_ok-go_on g c = λ stage number what answer.
    let p : Reached = reached c.args.names.now stage (g.K.RecordsHistory.history c.args.kernel.now) in
    went_on _ p _ _ _ c.args.thread what (sym c.may_go_on.ensures.value ∙ c.if-may_go_on.true)
    (took_turn _ p _ c.slice.result.now _ _ _ _ (c.slice.ensures ∙ c.in_ok-go_on.ensures.text) (c.mention_wait_end.ensures number what answer)
    c.in_ok-go_on.ensures.history c.compare.ensures)
