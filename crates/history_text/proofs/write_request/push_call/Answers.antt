use Rattle.std.proofs.Common.{decimal}
use Rattle.line_text.specs.Words.{quoted_text}
use Rattle.history_text.specs.LineWords.{desc_words, fd_word}
use Rattle.history_text.proofs.Spaced.{call_put}
use Rattle.history_text.proofs.write_request.push_call.Goals as goal

pub returns-clause-items : goal.returns-clause-items
returns-clause-items c =
    call_put c.args.text.now.items (fd_word c.args.door) (quoted_text c.args.bytes.now) (desc_words c.args.passes.now) (decimal c.args.rsize) _ _ _ _ _
    c.push_of_fd.ensures.items c.push_spaced_string.ensures.items c.push_passes.ensures.items c.push_word.ensures.items c.push_spaced_number.ensures.items
