use Rattle.std.proofs.Common.{◌≡◌, ◌++◌, take}
use Rattle.spec_requests.specs.Words.{lines_text}
use Rattle.trace_text.proofs.event_line.push_lines.Given as goal

abbrev pub invariant-loop-event : goal.invariant-loop-event
invariant-loop-event l = l.text.items ≡ l.initial.text.items ++ lines_text l.script (take l.event-index l.events)
