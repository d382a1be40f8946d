use Rattle.std.proofs.Common.{subst}
use Rattle.event_port.specs.Words.{KeepsRoomAtOthers}
use Rattle.kernel_ports.proofs.Rooms.{port_made}
use Rattle.kernel_ports.proofs.ports.AssociatedPorts.create.Goals as goal

pub invariant_of-self : goal.invariant_of-self
invariant_of-self c =
    let ports = c.self.inside.ports in
    let new = c.create.new.self in
    port_made ports new c.self.inside.assocs.list c.self.inside.timers.list c.create.ensures.made
    (subst (λ q. KeepsRoomAtOthers q ports.rooms new.rooms) c.create.ensures.number c.create.ensures.rooms) c.self.invariant
