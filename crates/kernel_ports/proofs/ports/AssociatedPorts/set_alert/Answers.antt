use Rattle.std.proofs.Common.{ap, length, subst, sym, ◌∙◌}
use Rattle.spec_records.specs.Words.{with_alert}
use Rattle.kernel_ports.proofs.Queues.{AreAlike, alert_alike}
use Rattle.kernel_ports.proofs.Rooms.{length-change, ports_kept}
use Rattle.kernel_ports.proofs.ports.AssociatedPorts.set_alert.Goals as goal

pub invariant_of-self : goal.invariant_of-self
invariant_of-self c =
    let ports = c.self.inside.ports in
    ports_kept ports c.set_alert.new.self c.self.inside.assocs.list c.self.inside.timers.list
    (ap length c.set_alert.ensures.ports ∙ length-change ports.ports c.args.q (with_alert c.args.events c.args.user)) c.set_alert.ensures.rooms
    (subst (AreAlike ports.ports) (sym c.set_alert.ensures.ports) (alert_alike ports.ports c.args.q c.args.events c.args.user)) c.self.invariant
