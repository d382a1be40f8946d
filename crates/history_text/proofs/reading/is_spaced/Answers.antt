use Rattle.std.proofs.Common.{sym, ◌∙◌}
use Rattle.line_text.specs.Words.{words_of}
use Rattle.history_text.proofs.SpacedLine.{spaced_line, unspaced_line}
use Rattle.history_text.proofs.reading.is_spaced.Goals as goal

pub returns-in-Some-after_front : goal.returns-in-Some-after_front
returns-in-Some-after_front c =
    c.are_spaced.ensures ∙
    sym (spaced_line (words_of c.args.line.now) (words_of c.in-Some.after.now) c.in-Some.word.now c.args.line.now c.in-Some-after_front.rest.now c.in-Some.ensures (sym c.in-Some-after_front.ensures))

pub returns-in-None : goal.returns-in-None
returns-in-None c =
    sym (unspaced_line (words_of c.args.line.now) (words_of c.in-Some.after.now) c.in-Some.word.now c.args.line.now c.in-Some.ensures (sym c.in-None.ensures))
