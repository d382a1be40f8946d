use Rattle.std.proofs.Common.{sym, ◌∙◌}
use Rattle.line_text.specs.Words.{words_of}
use Rattle.history_text.proofs.SpacedLine.{spaced_lacks_word}
use Rattle.history_text.proofs.reading.are_spaced.Goals as goal

pub returns-in-None : goal.returns-in-None
returns-in-None c =
    sym (spaced_lacks_word (words_of c.loop-word.later.now) (words_of c.in-Some.after.now) c.in-Some.word.now c.loop-word.rest.now c.in-Some.ensures (sym c.in-None.ensures)) ∙
    c.loop-word.invariant
