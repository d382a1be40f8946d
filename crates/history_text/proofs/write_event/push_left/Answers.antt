use Rattle.std.proofs.Common.{decimal}
use Rattle.history_text.specs.Lookups.{thread_word}
use Rattle.history_text.specs.LineWords.{request_words}
use Rattle.history_text.proofs.Spaced.{left_put}
use Rattle.history_text.proofs.write_event.push_left.Goals as goal

pub returns-clause-items : goal.returns-clause-items
returns-clause-items c =
    left_put c.args.text.now.items (decimal c.args.number) (thread_word c.args.names.now c.args.thread) (thread_word c.args.names.now c.args.root)
    (request_words c.args.names.now c.args.request.now) _ _ _ c.push_turn.ensures.items c.push_request.ensures.items c.push_word.ensures.items
