use Rattle.std.proofs.Common.{◌≡◌, length}
use Rattle.line_text.specs.Words.{are_distinct}
use Rattle.history_text.specs.Faults.{have_same_name}
use Rattle.history_text.proofs.faults.are_members_different.Given as goal

abbrev pub invariant-loop-first : goal.invariant-loop-first
invariant-loop-first l = are_distinct have_same_name l.rest ≡ are_distinct have_same_name l.members

abbrev pub decreases-loop-first : goal.decreases-loop-first
decreases-loop-first l = length l.rest
