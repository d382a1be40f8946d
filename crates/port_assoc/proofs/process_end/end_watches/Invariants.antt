use Rattle.std.proofs.Common.{◌≡◌, ◌+◌, ◌≤◌, ◌++◌, drop, length}
use Rattle.dk_base.specs.declared.object.Obj.{Obj}
use Rattle.spec_records.specs.Words.{associations_of_process, is_of_process, numbers_of, ports_of}
use Rattle.port_assoc.specs.Value.{IsWatched}
use Rattle.port_assoc.specs.Watchers.{room_at}
use Rattle.port_assoc.proofs.EndedProcess.{left_after}
use Rattle.port_assoc.proofs.process_end.end_watches.Given as goal

abbrev pub invariant-loop-place : goal.invariant-loop-place
invariant-loop-place l = record {
  watched : IsWatched (left_after (is_of_process l.process.0) l.place l.table.items) l.watchers;
  ports : l.ports.items ++ ports_of (associations_of_process (drop l.place l.table.items) l.process.0) ≡ l.initial.ports.items ++ ports_of (associations_of_process l.table.items l.process.0);
  ids : l.ids.items ++ numbers_of (associations_of_process (drop l.place l.table.items) l.process.0) ≡ l.initial.ids.items ++ numbers_of (associations_of_process l.table.items l.process.0);
  port_room : length (drop l.place l.table.items) ≤ l.ports.spare;
  id_room : length (drop l.place l.table.items) ≤ l.ids.spare;
  port_places : length l.initial.ports.items + l.initial.ports.spare ≤ length l.ports.items + l.ports.spare;
  id_places : length l.initial.ids.items + l.initial.ids.spare ≤ length l.ids.items + l.ids.spare;
  room : (o : Obj) → room_at l.initial.watchers o ≤ room_at l.watchers o;
}
