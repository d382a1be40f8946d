use Rattle.std.proofs.Common.{◌≡◌, ◌≤◌, ◌+◌, ◌*◌, ◌++◌, length, flat_map, take}
use Rattle.kernel_chronicle.specs.Replies.{event_numbers}
use Rattle.kernel_chronicle.proofs.reply.push_events.Given as goal

abbrev pub invariant-loop-event : goal.invariant-loop-event
invariant-loop-event l =
    (l.words.items ≡ l.fn.words.items ++ flat_map event_numbers (take l.event-index l.events))
    × (l.fn.words.spare ≤ l.words.spare + 4 * l.event-index)
    × (4 * length l.events ≤ l.fn.words.spare)
