use Rattle.std.proofs.Common.{◌≡◌, ◌+◌, ◌≤◌, length}
use Rattle.history_check.specs.Findings.{history_of, reached}
use Rattle.history_check.specs.Places.{at_start}
use Rattle.history_check.specs.Verdicts.{place_from, verdict_from}
use Rattle.history_check.specs.WholeLines.{cut_part, whole_lines}
use Rattle.history_check.proofs.check_text.check_lines.Given as goal

-- the verdict is that on what is left; a line has a byte at least, its line feed
abbrev pub invariant-loop-have : goal.invariant-loop-have
invariant-loop-have g l =
    (verdict_from 2 at_start (whole_lines l.text) (cut_part l.text)
    ≡ verdict_from l.line (reached l.walk.names l.walk.stage (history_of g.K.RecordsHistory.history l.walk.names l.walk.kernel)) (whole_lines l.rest) (cut_part l.rest))
    × (place_from at_start (whole_lines l.text)
    ≡ place_from (reached l.walk.names l.walk.stage (history_of g.K.RecordsHistory.history l.walk.names l.walk.kernel)) (whole_lines l.rest))
    × (l.line + length l.rest ≤ 2 + length l.text)

abbrev pub decreases-loop-have : goal.decreases-loop-have
decreases-loop-have g l = length l.rest
