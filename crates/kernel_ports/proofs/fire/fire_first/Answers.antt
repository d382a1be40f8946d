use Rattle.std.proofs.Common.{ap}
use Rattle.spec_records.specs.declared.association.Fired.{Fired}
use Rattle.spec_records.specs.Words.{AssociationList}
use Rattle.kernel_ports.proofs.FireRooms.{fired_from, room_beside, room_to_post, still_beside}
use Rattle.kernel_ports.proofs.fire.fire_first.Goals as goal

pub post_fitting-requires-clause-room : goal.post_fitting-requires-clause-room
post_fitting-requires-clause-room c =
    let xs = c.args.assocs.now.list.associations in
    let from = fired_from c.args.c.object c.args.c.ready xs c.in-Some.fired c.in-Some.ensures.fired in
    room_to_post c.args.c.object c.args.c.ready xs from.0 from.1 c.args.ports.now.rooms c.in-Some.fired.port (ap (λ (f : Fired). f.port) from.2) c.requires.room

pub returns-in-Some-clause-rooms : goal.returns-in-Some-clause-rooms
returns-in-Some-clause-rooms c =
    let xs = c.args.assocs.now.list.associations in
    let from = fired_from c.args.c.object c.args.c.ready xs c.in-Some.fired c.in-Some.ensures.fired in
    rw (ap (λ (l : AssociationList). l.associations) c.fire.ensures.list)
    (room_beside c.args.c.object c.args.c.ready xs from.0 from.1 c.in-Some.fired.port c.args.ports.now.rooms c.post_fitting.new.self.rooms (ap (λ (f : Fired). f.port) from.2) c.post_fitting.ensures.rooms c.post_fitting.ensures.others)

pub returns-in_default-clause-rooms : goal.returns-in_default-clause-rooms
returns-in_default-clause-rooms c =
    rw (ap (λ (l : AssociationList). l.associations) c.fire.ensures.list)
    (still_beside c.args.c.object c.args.c.ready c.args.assocs.now.list.associations c.args.ports.now.rooms c.in_default.ensures.fired)
