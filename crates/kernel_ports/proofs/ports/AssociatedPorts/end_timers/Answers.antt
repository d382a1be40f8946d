use Rattle.std.proofs.Common.{◌≡◌, ◌++◌, [], ap, arith, length, subst, sym, ◌∙◌}
use Rattle.std.proofs.lemmas.List.Sums.{count_by-le-length, length-filter}
use Rattle.spec_records.specs.Words.{is_timer_of, is_timer_of_other, tags_of, timers_of, withdraw_timers}
use Rattle.kernel_ports.specs.Ended.{withdraw_tags}
use Rattle.kernel_ports.specs.Words.{AssociatedPortsValue}
use Rattle.kernel_ports.proofs.Ended.{length-withdraw_tags}
use Rattle.kernel_ports.proofs.Queues.{AreThinner, tags_thinner, tags_withdrawn}
use Rattle.kernel_ports.proofs.Rooms.{thinned}
use Rattle.kernel_ports.proofs.Timers.{nothing_listed, timers_fewer}
use Rattle.kernel_ports.proofs.ports.AssociatedPorts.end_timers.Goals as goal

pub end_process-requires : goal.end_process-requires
end_process-requires c =
    let ts = c.self.inside.timers.list.timers in
    let test = is_timer_of c.args.process.0 in
    let room = rw (← c.self.view_is) at c.requires.1 in
    let cleared = c.clear.ensures.room c.requires.0 (length ts) room in
    omega (arith, cleared.tags, length-filter test ts, count_by-le-length test ts)

pub invariant_of-self : goal.invariant_of-self
invariant_of-self c =
    let ports = c.self.inside.ports in
    let list = c.self.inside.assocs.list in
    let timers = c.self.inside.timers.list in
    let new = c.withdraw_tags.new.ports in
    let tags = c.slice.result.now in
    timers_fewer new list timers (is_timer_of_other c.args.process.0) c.end_process.new.self.list c.end_process.ensures.list
    (thinned ports new list timers (ap length c.withdraw_tags.ensures.ports ∙ length-withdraw_tags ports.ports tags) c.withdraw_tags.ensures.places
    (subst (AreThinner ports.ports) (sym c.withdraw_tags.ensures.ports) (tags_thinner ports.ports tags)) c.self.invariant)

pub returns-clause-ports : goal.returns-clause-ports
returns-clause-ports c =
    let ports = c.self.inside.ports.ports in
    let ts = timers_of c.self.inside.timers.list.timers c.args.process.0 in
    let tags : c.slice.result.now ≡ tags_of ts = c.slice.ensures ∙ c.end_process.ensures.tags ∙ ap (λ gs. gs ++ tags_of ts) c.clear.ensures.tags in
    c.withdraw_tags.ensures.ports
    ∙ ap (withdraw_tags ports) tags
    ∙ tags_withdrawn ports ts
    ∙ ap (λ (v : AssociatedPortsValue). withdraw_timers v.ports.ports (timers_of v.timers.list.timers c.args.process.0)) c.self.view_is

pub returns-clause-none : goal.returns-clause-none
returns-clause-none c none =
    let ports = c.self.inside.ports.ports in
    let empty : c.slice.result.now ≡ [] = nothing_listed c.slice.result.now c.len-many.result (c.len-many.ensures ∙ ap length (sym c.slice.ensures)) none in
    c.withdraw_tags.ensures.ports
    ∙ ap (withdraw_tags ports) empty
    ∙ ap (λ (v : AssociatedPortsValue). v.ports.ports) c.self.view_is

pub returns-clause-kept : goal.returns-clause-kept
returns-clause-kept c n m h =
    let first = c.clear.ensures.room n m h in
    record {
      ports = omega (arith, first.ports, c.clear-2.ensures.port_places);
      ids = omega (arith, first.ids, c.clear-2.ensures.id_places);
      tags = omega (arith, first.tags, c.end_process.ensures.places, c.clear-2.ensures.tag_places);
    }
