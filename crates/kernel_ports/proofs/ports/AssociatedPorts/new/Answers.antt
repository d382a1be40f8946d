use Rattle.kernel_ports.proofs.Rooms.{none_to_fire}
use Rattle.kernel_ports.proofs.ports.AssociatedPorts.new.Goals as goal

pub invariant_of-result : goal.invariant_of-result
invariant_of-result c = none_to_fire c.new.result c.new-2.result.list c.new-3.result.list c.new.ensures c.new-2.ensures c.new-3.ensures
