use Rattle.std.proofs.Common.{◌≡◌, length}
use Rattle.history_text.specs.Events.{after_words, words_asked}
use Rattle.history_text.proofs.events.after_asked.Given as goal

abbrev pub invariant-loop-word : goal.invariant-loop-word
invariant-loop-word l = after_words (words_asked l.later) l.rest ≡ after_words (words_asked l.fn.line) l.fn.line

abbrev pub decreases-loop-word : goal.decreases-loop-word
decreases-loop-word l = length (words_asked l.later)
