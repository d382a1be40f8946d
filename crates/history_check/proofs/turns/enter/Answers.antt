use Rattle.std.proofs.Common.{[], ap, ◌∙◌, Some}
use Rattle.history_text.specs.Names.{Names}
use Rattle.spec_histories.specs.Histories.{next}
use Rattle.history_check.proofs.TurnLines.{entered_text, kept_by_request}
use Rattle.history_check.proofs.turns.enter.Goals as goal

pub returns-clause-text : goal.returns-clause-text
returns-clause-text g c =
    entered_text c.add_answer.result c.args.names.now c.mention_request.new.names c.begin_request.new.room.items c.add_answer.new.room.items _ c.in_ok-answer.answer _ _
    (ap (λ (n : Names). n.procedures) (c.mention_request.ensures 0 []) ∙ kept_by_request c.args.names.now 0 c.args.thread c.args.root c.args.request [])
    c.in_ok-begin_request.ensures c.in_ok-answer.ensures.told
    (c.entry_in_parts.ensures c.args.names.now (next (g.K.RecordsHistory.history c.args.kernel.now) c.args.thread.0 (Some c.args.request))) c.add_answer.ensures
