use Rattle.std.proofs.Common.{ap, length, subst, sym, ◌∙◌}
use Rattle.spec_records.specs.Words.{without_found}
use Rattle.kernel_ports.proofs.Queues.{AreThinner, taken_thinner}
use Rattle.kernel_ports.proofs.Rooms.{length-change, one_retrieved, thinned}
use Rattle.kernel_ports.proofs.ports.AssociatedPorts.take_first.Goals as goal

pub invariant_of-self : goal.invariant_of-self
invariant_of-self c =
    let ports = c.self.inside.ports in
    let list = c.self.inside.assocs.list in
    let timers = c.self.inside.timers.list in
    one_retrieved c.take_first-taken.new.self list c.retrieved.new.self.list timers c.in-Some.id c.retrieved.ensures.list
    (thinned ports c.take_first-taken.new.self list timers
    (ap length c.take_first-taken.ensures.ports ∙ length-change ports.ports c.args.q (without_found 1)) c.take_first-taken.ensures.places
    (subst (AreThinner ports.ports) (sym c.take_first-taken.ensures.ports) (taken_thinner ports.ports c.args.q 1)) c.self.invariant)

pub invariant_of-self-in_default : goal.invariant_of-self-in_default
invariant_of-self-in_default c =
    let ports = c.self.inside.ports in
    thinned ports c.take_first-taken.new.self c.self.inside.assocs.list c.self.inside.timers.list
    (ap length c.take_first-taken.ensures.ports ∙ length-change ports.ports c.args.q (without_found 1)) c.take_first-taken.ensures.places
    (subst (AreThinner ports.ports) (sym c.take_first-taken.ensures.ports) (taken_thinner ports.ports c.args.q 1)) c.self.invariant
