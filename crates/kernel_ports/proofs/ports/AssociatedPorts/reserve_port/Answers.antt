use Rattle.std.proofs.Common.{ap, length}
use Rattle.kernel_ports.proofs.Queues.{alike-ports}
use Rattle.kernel_ports.proofs.Rooms.{keeps_same, ports_kept}
use Rattle.kernel_ports.proofs.ports.AssociatedPorts.reserve_port.Goals as goal

pub invariant_of-self : goal.invariant_of-self
invariant_of-self c =
    let ports = c.self.inside.ports in
    let new = c.reserve.new.self in
    ports_kept ports new c.self.inside.assocs.list c.self.inside.timers.list (ap length c.reserve.ensures.ports) (keeps_same ports.rooms new.rooms c.reserve.ensures.rooms)
    (alike-ports ports.ports new.ports c.reserve.ensures.ports) c.self.invariant
