use Rattle.std.proofs.Common.{ap, length}
use Rattle.kernel_ports.proofs.Queues.{alike-ports}
use Rattle.kernel_ports.proofs.Rooms.{ports_kept}
use Rattle.kernel_ports.proofs.ports.AssociatedPorts.room.Goals as goal

pub invariant_of-self : goal.invariant_of-self
invariant_of-self c =
    ports_kept c.self.inside.ports c.room.new.self c.self.inside.assocs.list c.self.inside.timers.list (ap length c.room.ensures.ports) c.room.ensures.kept
    (alike-ports c.self.inside.ports.ports c.room.new.self.ports c.room.ensures.ports) c.self.invariant
