use Rattle.std.proofs.Common.{◌≤◌, ap, filter, length, subst, sym, ◌∙◌}
use Rattle.spec_records.specs.Words.{has_key, withdraw_events, without_event}
use Rattle.kernel_ports.specs.Words.{AssociatedPortsValue, HasRoomForEvents, HasRoomToFire}
use Rattle.kernel_ports.proofs.Queues.{AreThinner, event_thinner}
use Rattle.kernel_ports.proofs.Rooms.{length-change, one_associated, thinned}
use Rattle.kernel_ports.proofs.Withdrawn.{withdraw_at, withdrawn}
use Rattle.kernel_ports.proofs.ports.AssociatedPorts.associate.Goals as goal

pub invariant_of-self-in_default : goal.invariant_of-self-in_default
invariant_of-self-in_default c =
    let ports = c.self.inside.ports in
    let list = c.self.inside.assocs.list in
    let timers = c.self.inside.timers.list in
    let key = c.args.key in
    let room = subst (λ (v : AssociatedPortsValue). HasRoomForEvents v.ports v.assocs.list v.timers.list key.port 1) (sym c.self.view_is) c.requires.room.event in
    let made = subst (λ (v : AssociatedPortsValue). key.port ≤ length v.ports.ports) (sym c.self.view_is) c.requires.made in
    subst (λ left. HasRoomToFire ports left timers) (sym c.associate_fitting.ensures.list)
    (one_associated ports list timers key c.args.object c.args.events c.args.user room made c.self.invariant)

pub invariant_of-self : goal.invariant_of-self
invariant_of-self c =
    let ports = c.self.inside.ports in
    let list = c.self.inside.assocs.list in
    let timers = c.self.inside.timers.list in
    let key = c.args.key in
    let room = subst (λ (v : AssociatedPortsValue). HasRoomForEvents v.ports v.assocs.list v.timers.list key.port 1) (sym c.self.view_is) c.requires.room.event in
    let made = subst (λ (v : AssociatedPortsValue). key.port ≤ length v.ports.ports) (sym c.self.view_is) c.requires.made in
    thinned ports c.withdraw.new.self c.associate_fitting.new.self.list timers
    (ap length c.withdraw.ensures.ports ∙ length-change ports.ports key.port (without_event c.in-Some.replaced)) c.withdraw.ensures.places
    (subst (AreThinner ports.ports) (sym c.withdraw.ensures.ports) (event_thinner ports.ports key.port c.in-Some.replaced))
    (subst (λ left. HasRoomToFire ports left timers) (sym c.associate_fitting.ensures.list)
    (one_associated ports list timers key c.args.object c.args.events c.args.user room made c.self.invariant))

pub returns-in-Some-clause-ports : goal.returns-in-Some-clause-ports
returns-in-Some-clause-ports c =
    let ports = c.self.inside.ports.ports in
    let list = c.self.inside.assocs.list in
    let key = c.args.key in
    c.withdraw.ensures.ports
    ∙ ap (withdraw_at ports key.port) c.in-Some.ensures.replaced
    ∙ sym (withdrawn ports list key c.associate_fitting.ensures.alone)
    ∙ ap (λ (v : AssociatedPortsValue). withdraw_events v.ports.ports (filter (has_key key) v.assocs.list.associations)) c.self.view_is
