use Rattle.std.proofs.Common.{ap, length, subst, sym, ◌∙◌}
use Rattle.spec_records.specs.Words.{user_event, with_event}
use Rattle.kernel_ports.specs.Words.{AssociatedPortsValue, HasRoomForEvents}
use Rattle.kernel_ports.proofs.Queues.{AreAlike, sent_alike}
use Rattle.kernel_ports.proofs.Rooms.{length-change, one_sent}
use Rattle.kernel_ports.proofs.ports.AssociatedPorts.send_fitting.Goals as goal

pub invariant_of-self : goal.invariant_of-self
invariant_of-self c =
    let ports = c.self.inside.ports in
    let room = subst (λ (v : AssociatedPortsValue). HasRoomForEvents v.ports v.assocs.list v.timers.list c.args.q 1) (sym c.self.view_is) c.requires.room in
    one_sent ports c.send_fitting.new.self c.self.inside.assocs.list c.self.inside.timers.list
    (ap length c.send_fitting.ensures.ports ∙ length-change ports.ports c.args.q (with_event (user_event c.args.events c.args.user)))
    c.args.q room c.send_fitting.ensures.rooms c.send_fitting.ensures.others
    (subst (AreAlike ports.ports) (sym c.send_fitting.ensures.ports) (sent_alike ports.ports c.args.q c.args.events c.args.user)) c.self.invariant
