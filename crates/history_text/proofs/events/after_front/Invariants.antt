use Rattle.std.proofs.Common.{◌≡◌, length}
use Rattle.history_text.specs.Events.{after_front}
use Rattle.history_text.proofs.events.after_front.Given as goal

abbrev pub invariant-loop-first : goal.invariant-loop-first
invariant-loop-first l = after_front l.left l.rest ≡ after_front l.fn.front l.fn.bytes

abbrev pub decreases-loop-first : goal.decreases-loop-first
decreases-loop-first l = length l.left
