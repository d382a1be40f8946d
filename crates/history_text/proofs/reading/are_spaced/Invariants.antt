use Rattle.std.proofs.Common.{◌≡◌, length}
use Rattle.std.specs.Prelude.{bytes_eq}
use Rattle.line_text.specs.Words.{spaced_words, words_of}
use Rattle.history_text.proofs.reading.are_spaced.Given as goal

abbrev pub invariant-loop-word : goal.invariant-loop-word
invariant-loop-word l = bytes_eq (spaced_words (words_of l.later)) l.rest ≡ bytes_eq (spaced_words (words_of l.fn.words)) l.fn.line

abbrev pub decreases-loop-word : goal.decreases-loop-word
decreases-loop-word l = length (words_of l.later)
