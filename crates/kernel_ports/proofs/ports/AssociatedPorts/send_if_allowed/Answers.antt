use Rattle.std.proofs.Common.{ap, length, subst, sym, ◌∙◌}
use Rattle.kernel_ports.specs.Words.{AssociatedPortsValue, HasRoomForEvents}
use Rattle.kernel_ports.proofs.Queues.{AreAlike, if_sent_alike}
use Rattle.kernel_ports.proofs.Rooms.{length-if_sent, one_sent}
use Rattle.kernel_ports.proofs.ports.AssociatedPorts.send_if_allowed.Goals as goal

pub invariant_of-self : goal.invariant_of-self
invariant_of-self c =
    let ports = c.self.inside.ports in
    let room = subst (λ (v : AssociatedPortsValue). HasRoomForEvents v.ports v.assocs.list v.timers.list c.args.q 1) (sym c.self.view_is) c.requires in
    one_sent ports c.send_if_allowed.new.self c.self.inside.assocs.list c.self.inside.timers.list
    (ap length c.send_if_allowed.ensures.ports ∙ length-if_sent ports.ports c.args.q c.args.events c.args.user)
    c.args.q room c.send_if_allowed.ensures.rooms c.send_if_allowed.ensures.others
    (subst (AreAlike ports.ports) (sym c.send_if_allowed.ensures.ports) (if_sent_alike ports.ports c.args.q c.args.events c.args.user)) c.self.invariant
