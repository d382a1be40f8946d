use Rattle.std.proofs.Common.{ap, filter, length, subst, sym, ◌∙◌}
use Rattle.dk_base.specs.declared.error.Errno.TheVariants.{ENOENT}
use Rattle.spec_records.specs.Words.{association_at, has_key, number_in, withdraw_events, without_event}
use Rattle.kernel_ports.specs.Words.{AssociatedPortsValue}
use Rattle.kernel_ports.proofs.Queues.{AreThinner, event_thinner}
use Rattle.kernel_ports.proofs.Rooms.{length-change, one_dissociated, thinned}
use Rattle.kernel_ports.proofs.Withdrawn.{some_number, withdraw_at, withdrawn}
use Rattle.kernel_ports.proofs.ports.AssociatedPorts.dissociate.Goals as goal

pub invariant_of-self : goal.invariant_of-self
invariant_of-self c =
    let ports = c.self.inside.ports in
    let list = c.self.inside.assocs.list in
    let timers = c.self.inside.timers.list in
    thinned ports c.withdraw.new.self c.dissociate.new.self.list timers
    (ap length c.withdraw.ensures.ports ∙ length-change ports.ports c.args.key.port (without_event c.in-Ok.ended)) c.withdraw.ensures.places
    (subst (AreThinner ports.ports) (sym c.withdraw.ensures.ports) (event_thinner ports.ports c.args.key.port c.in-Ok.ended))
    (one_dissociated ports list c.dissociate.new.self.list timers c.args.key c.dissociate.ensures.list c.self.invariant)

pub returns-in-Ok-clause-ports : goal.returns-in-Ok-clause-ports
returns-in-Ok-clause-ports c =
    let ports = c.self.inside.ports.ports in
    let list = c.self.inside.assocs.list in
    let key = c.args.key in
    c.withdraw.ensures.ports
    ∙ ap (withdraw_at ports key.port) (some_number (number_in (association_at list.associations key)) ENOENT c.in-Ok.ended c.in-Ok.ensures.answer)
    ∙ sym (withdrawn ports list key c.dissociate.ensures.alone)
    ∙ ap (λ (v : AssociatedPortsValue). withdraw_events v.ports.ports (filter (has_key key) v.assocs.list.associations)) c.self.view_is
