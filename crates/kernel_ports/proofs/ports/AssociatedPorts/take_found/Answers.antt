use Rattle.std.proofs.Common.{ap, length, subst, sym, ◌∙◌}
use Rattle.spec_records.specs.Words.{without_found}
use Rattle.kernel_ports.proofs.Queues.{AreThinner, taken_thinner}
use Rattle.kernel_ports.proofs.Rooms.{all_retrieved, length-change, thinned}
use Rattle.kernel_ports.proofs.ports.AssociatedPorts.take_found.Goals as goal

pub invariant_of-self : goal.invariant_of-self
invariant_of-self c =
    let ports = c.self.inside.ports in
    let list = c.self.inside.assocs.list in
    let timers = c.self.inside.timers.list in
    all_retrieved c.take_found.new.self list c.retrieve.new.assocs.list timers c.slice.result.now c.retrieve.ensures.list
    (thinned ports c.take_found.new.self list timers
    (ap length c.take_found.ensures.ports ∙ length-change ports.ports c.args.q (without_found c.args.max)) c.take_found.ensures.places
    (subst (AreThinner ports.ports) (sym c.take_found.ensures.ports) (taken_thinner ports.ports c.args.q c.args.max)) c.self.invariant)
