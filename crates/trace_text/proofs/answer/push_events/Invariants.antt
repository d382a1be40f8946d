use Rattle.std.proofs.Common.{◌≡◌, ◌≤◌, ◌*◌, ◌++◌, take, length}
use Rattle.std.specs.Prelude.{flat_map}
use Rattle.spec_requests.specs.Words.{spaced_event}
use Rattle.trace_text.specs.Taken.{TakesAtMost}
use Rattle.trace_text.proofs.answer.push_events.Given as goal

abbrev pub invariant-loop-event : goal.invariant-loop-event
invariant-loop-event l =
    (l.text.items ≡ l.fn.text.items ++ flat_map spaced_event (take l.event-index l.events))
    × TakesAtMost l.fn.text l.text (70 * l.event-index)
    × (70 * length l.events ≤ l.fn.text.spare)
