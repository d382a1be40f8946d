use Rattle.std.proofs.Common.{◌+◌, arith, sym}
use Rattle.spec_records.specs.Words.{armed_at, ready_object}
use Rattle.kernel_ports.specs.Words.{idle_at}
use Rattle.kernel_ports.proofs.Ended.{all_told}
use Rattle.kernel_ports.proofs.Rooms.{room_for_fewer}
use Rattle.kernel_ports.proofs.ports.AssociatedPorts.tell.Goals as goal

pub tell_ports-requires-clause-room : goal.tell_ports-requires-clause-room
tell_ports-requires-clause-room c = λ q.
    let list = c.self.inside.assocs.list in
    let ports = c.self.inside.ports in
    room_for_fewer ports.rooms q (armed_at list.associations q + idle_at ports.ports c.self.inside.timers.list.timers q) (armed_at list.associations q)
    (omega arith) (c.self.invariant.rooms q)

pub invariant_of-self : goal.invariant_of-self
invariant_of-self c =
    let refs = c.requires.named.0 in
    let named = rw (← c.self.view_is) at c.requires.named.1 in
    all_told c.self.inside.ports c.tell_ports.new.ports c.self.inside.assocs.list c.tell_ports.new.assocs.list c.self.inside.timers.list (ready_object c.args.pipes.now.items refs)
    (c.tell_ports.ensures.list refs named) (c.tell_ports.ensures.ports refs named) c.tell_ports.ensures.rooms c.self.invariant
