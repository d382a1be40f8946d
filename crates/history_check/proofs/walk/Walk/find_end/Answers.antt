use Rattle.history_check.proofs.Walks.{end_from}
use Rattle.history_check.proofs.walk.Walk.find_end.Goals as goal

pub returns-in-Some : goal.returns-in-Some
returns-in-Some g c =
    end_from g.K.RecordsHistory.history _ c.args.self.now.names c.begin.new.self.names c.args.self.now.stage c.args.self.now.kernel c.begin.new.self.kernel
    c.in-Some.kernel c.args.text.now c.in_ok-begin.ensures.names c.in_ok-begin.ensures.history c.in-Some.is (c.find_end.ensures c.args.self.now.stage)
