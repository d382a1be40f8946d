use Rattle.history_text.specs.Lookups.{thread_word}
use Rattle.history_text.proofs.Spaced.{all_put}
use Rattle.history_text.proofs.write_end.push_threads.Goals as goal

pub returns-clause-items : goal.returns-clause-items
returns-clause-items c =
    all_put (thread_word c.args.names.now) c.args.threads.now c.loop-thread.thread-index c.args.text.now.items c.loop-thread.text.items c.loop-thread-test.false c.loop-thread.invariant.0
