use Rattle.history_check.proofs.TurnLines.{mention_all}
use Rattle.history_check.proofs.turns.mention_request.Goals as goal

pub returns : goal.returns
returns c = λ number answer.
    mention_all c.args.names.now c.mention.new.self c.mention-2.new.self c.mention-3.new.self c.process_of-process.result c.process_of-root_process.result
    c.mentioned_by-mentioned.result number c.args.thread c.args.root c.args.request.now answer c.process_of-process.ensures c.process_of-root_process.ensures
    c.mention.ensures c.mention-2.ensures c.mentioned_by-mentioned.ensures c.mention-3.ensures
