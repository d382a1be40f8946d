use Rattle.std.proofs.Common.{◌≡◌, ◌+◌, ◌≤◌, ◌++◌, drop, length}
use Rattle.spec_records.specs.Words.{tags_of, timers_of}
use Rattle.timer_src.proofs.process_end.tell_tags.Given as goal

abbrev pub invariant-loop-place : goal.invariant-loop-place
invariant-loop-place l = record {
  told : l.into.items ++ tags_of (timers_of (drop l.place l.table.items) l.process.0) ≡ l.initial.into.items ++ tags_of (timers_of l.table.items l.process.0);
  room : length (timers_of (drop l.place l.table.items) l.process.0) ≤ l.into.spare;
  places : length l.initial.into.items + l.initial.into.spare ≤ length l.into.items + l.into.spare;
}
