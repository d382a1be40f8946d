use Rattle.std.proofs.Common.{◌≡◌, false}
use Rattle.dk_base.specs.declared.object.Obj.{Obj}
use Rattle.dk_base.specs.declared.set.PollSet.{PollSet}
use Rattle.spec_records.specs.Words.{all_fired, fire_all, post_fired}
use Rattle.port_assoc.specs.Words.{KeepsRoom}
use Rattle.kernel_ports.specs.Words.{AreAllChanged, KeepsRoomBeside}
use Rattle.kernel_ports.proofs.FireRooms.{armed_in}
use Rattle.kernel_ports.proofs.fire.fire_changed.Given as goal

abbrev pub invariant-loop-c : goal.invariant-loop-c
invariant-loop-c l = record {
  changed : (ready : Obj → PollSet) → AreAllChanged ready l.changed l.initial.assocs.list.associations → AreAllChanged ready l.changed l.assocs.list.associations;
  list : (ready : Obj → PollSet) → AreAllChanged ready l.changed l.initial.assocs.list.associations → fire_all l.assocs.list ready ≡ fire_all l.initial.assocs.list ready;
  ports : (ready : Obj → PollSet) → AreAllChanged ready l.changed l.initial.assocs.list.associations → post_fired l.ports.ports (all_fired ready l.assocs.list.associations) ≡ post_fired l.initial.ports.ports (all_fired ready l.initial.assocs.list.associations);
  rooms : KeepsRoomBeside l.initial.assocs.list.associations l.assocs.list.associations l.initial.ports.rooms l.ports.rooms;
  assoc_room : KeepsRoom l.initial.assocs l.assocs;
  spare : l.ports.spare ≡ l.initial.ports.spare;
  none : l.any ≡ false → (l.assocs ≡ l.initial.assocs) × (l.ports ≡ l.initial.ports);
}

abbrev pub decreases-loop-c : goal.decreases-loop-c
decreases-loop-c l = armed_in l.assocs.list.associations
