use Rattle.std.proofs.Common.{decimal, map}
use Rattle.history_text.specs.LineWords.{ending_word}
use Rattle.history_text.specs.Lookups.{thread_word}
use Rattle.history_text.proofs.Spaced.{end_put}
use Rattle.history_text.proofs.write_end.push_end.Goals as goal

pub returns-clause-items : goal.returns-clause-items
returns-clause-items c =
    end_put c.args.text.now.items (ending_word c.args.ending) (decimal c.args.number) (map (thread_word c.args.names.now) c.args.threads.now) _ _ _
    c.push_ending.ensures.items c.push_spaced_number.ensures.items c.push_threads.ensures.items
