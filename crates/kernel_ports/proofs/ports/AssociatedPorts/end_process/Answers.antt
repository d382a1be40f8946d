use Rattle.std.proofs.Common.{◌≡◌, ◌++◌, List, ap, ap₂, arith, length, subst, sym, ◌∙◌}
use Rattle.spec_records.specs.Words.{associations_of_process, end_process_associations, is_of_other_process, numbers_of, ports_of, withdraw_events}
use Rattle.kernel_ports.specs.Ended.{withdraw_each}
use Rattle.kernel_ports.specs.Words.{AssociatedPortsValue, HasRoomToFire}
use Rattle.kernel_ports.proofs.Ended.{each_withdrawn, length-withdraw_each}
use Rattle.kernel_ports.proofs.Queues.{AreThinner, each_thinner}
use Rattle.kernel_ports.proofs.Rooms.{fewer_armed, list_fewer, thinned}
use Rattle.kernel_ports.proofs.ports.AssociatedPorts.end_process.Goals as goal

pub end_process-requires-clause-port_room : goal.end_process-requires-clause-port_room
end_process-requires-clause-port_room c =
    let room = rw (← c.self.view_is) at c.requires.1 in
    (c.clear.ensures.room (length c.self.inside.assocs.list.associations) c.requires.0 room).ports

pub end_process-requires-clause-id_room : goal.end_process-requires-clause-id_room
end_process-requires-clause-id_room c =
    let room = rw (← c.self.view_is) at c.requires.1 in
    (c.clear.ensures.room (length c.self.inside.assocs.list.associations) c.requires.0 room).ids

pub invariant_of-self : goal.invariant_of-self
invariant_of-self c =
    let ports = c.self.inside.ports in
    let list = c.self.inside.assocs.list in
    let timers = c.self.inside.timers.list in
    let at = c.slice.result.now in
    let ids = c.slice-2.result.now in
    subst (λ left. HasRoomToFire c.withdraw_each.new.ports left timers) (sym c.end_process.ensures.list)
    (list_fewer c.withdraw_each.new.ports list (end_process_associations list c.args.process.0) timers (fewer_armed (is_of_other_process c.args.process.0) list.associations)
    (thinned ports c.withdraw_each.new.ports list timers (ap length c.withdraw_each.ensures.ports ∙ length-withdraw_each ports.ports at ids) c.withdraw_each.ensures.places
    (subst (AreThinner ports.ports) (sym c.withdraw_each.ensures.ports) (each_thinner ports.ports at ids)) c.self.invariant))

pub returns-clause-ports : goal.returns-clause-ports
returns-clause-ports c =
    let ports = c.self.inside.ports.ports in
    let xs = associations_of_process c.self.inside.assocs.list.associations c.args.process.0 in
    let at : c.slice.result.now ≡ ports_of xs = c.slice.ensures ∙ c.end_process.ensures.ports ∙ ap (λ ys. ys ++ ports_of xs) c.clear.ensures.ports in
    let ids : c.slice-2.result.now ≡ numbers_of xs = c.slice-2.ensures ∙ c.end_process.ensures.ids ∙ ap (λ ys. ys ++ numbers_of xs) c.clear.ensures.ids in
    c.withdraw_each.ensures.ports
    ∙ ap₂ (withdraw_each ports) at ids
    ∙ each_withdrawn ports xs
    ∙ ap (λ (v : AssociatedPortsValue). withdraw_events v.ports.ports (associations_of_process v.assocs.list.associations c.args.process.0)) c.self.view_is

pub returns-clause-kept : goal.returns-clause-kept
returns-clause-kept c n m h =
    let first = c.clear.ensures.room n m h in
    record {
      ports = omega (arith, first.ports, c.end_process.ensures.port_places, c.clear-2.ensures.port_places);
      ids = omega (arith, first.ids, c.end_process.ensures.id_places, c.clear-2.ensures.id_places);
      tags = omega (arith, first.tags, c.clear-2.ensures.tag_places);
    }
