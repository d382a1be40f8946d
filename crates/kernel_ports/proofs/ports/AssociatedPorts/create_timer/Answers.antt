use Rattle.std.proofs.Common.{◌≤◌, length, subst, sym}
use Rattle.kernel_ports.specs.Words.{AssociatedPortsValue, HasRoomForEvents, HasRoomToFire}
use Rattle.kernel_ports.proofs.Timers.{timer_made}
use Rattle.kernel_ports.proofs.ports.AssociatedPorts.create_timer.Goals as goal

pub invariant_of-self : goal.invariant_of-self
invariant_of-self c =
    let ports = c.self.inside.ports in
    let list = c.self.inside.assocs.list in
    let room = subst (λ (v : AssociatedPortsValue). HasRoomForEvents v.ports v.assocs.list v.timers.list c.args.q 1) (sym c.self.view_is) c.requires.room.event in
    let made = subst (λ (v : AssociatedPortsValue). c.args.q ≤ length v.ports.ports) (sym c.self.view_is) c.requires.made in
    subst (HasRoomToFire ports list) (sym c.create_fitting.ensures.list)
    (timer_made ports list c.self.inside.timers.list c.args.process.0 c.args.q c.args.user room made c.self.invariant)
