use Rattle.std.proofs.Common.{ap, length, subst, sym, ◌∙◌}
use Rattle.spec_records.specs.Words.{associations_of_row, end_row, is_of_other_row}
use Rattle.kernel_ports.specs.Words.{HasRoomToFire}
use Rattle.kernel_ports.proofs.Ended.{length-withdraw_events}
use Rattle.kernel_ports.proofs.Queues.{AreThinner, events_thinner}
use Rattle.kernel_ports.proofs.Rooms.{fewer_armed, list_fewer, thinned}
use Rattle.kernel_ports.proofs.ports.AssociatedPorts.end_row.Goals as goal

pub invariant_of-self : goal.invariant_of-self
invariant_of-self c =
    let ports = c.self.inside.ports in
    let list = c.self.inside.assocs.list in
    let timers = c.self.inside.timers.list in
    let ended = associations_of_row list.associations c.args.process.0 c.args.fd in
    subst (λ left. HasRoomToFire c.end_row.new.ports left timers) (sym c.end_row.ensures.list)
    (list_fewer c.end_row.new.ports list (end_row list c.args.process.0 c.args.fd) timers (fewer_armed (is_of_other_row c.args.process.0 c.args.fd) list.associations)
    (thinned ports c.end_row.new.ports list timers (ap length c.end_row.ensures.ports ∙ length-withdraw_events ports.ports ended) c.end_row.ensures.places
    (subst (AreThinner ports.ports) (sym c.end_row.ensures.ports) (events_thinner ports.ports ended)) c.self.invariant))
