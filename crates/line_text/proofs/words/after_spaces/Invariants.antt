use Rattle.std.proofs.Common.{◌≡◌, ◌≤◌, length}
use Rattle.line_text.specs.LineWords.{words_of}
use Rattle.line_text.proofs.words.after_spaces.Given as goal

abbrev pub invariant-loop-later : goal.invariant-loop-later
invariant-loop-later l = (words_of l.rest ≡ words_of l.line) × (length l.rest ≤ length l.line)

abbrev pub decreases-loop-later : goal.decreases-loop-later
decreases-loop-later l = length l.rest
