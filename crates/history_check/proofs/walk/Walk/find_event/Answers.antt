use Rattle.history_text.specs.declared.line.Line.TheVariants.{Event}
use Rattle.history_text.specs.Words.{Names, with_line}
use Rattle.history_check.proofs.Walks.{event_from}
use Rattle.history_check.proofs.walk.Walk.find_event.Goals as goal

pub returns-in-Some : goal.returns-in-Some
returns-in-Some g c = λ number answer.
    event_from g.K.RecordsHistory.history _ c.args.self.now.names c.begin.new.self.names c.args.self.now.stage c.args.self.now.kernel c.begin.new.self.kernel
    c.in-Some.kernel c.args.text.now (λ (names : Names). with_line names (Event number c.args.thread c.args.root c.args.asked answer)) c.args.thread c.args.asked _
    c.in_ok-begin.ensures.names c.in_ok-begin.ensures.history c.in-Some.is (c.find_event.ensures c.args.self.now.stage number answer)
