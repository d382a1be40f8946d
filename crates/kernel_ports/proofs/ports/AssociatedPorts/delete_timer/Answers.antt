use Rattle.std.proofs.Common.{ap, length, subst, sym, ◌∙◌}
use Rattle.dk_base.specs.declared.error.Errno.TheVariants.{EINVAL}
use Rattle.spec_records.specs.Words.{is_other_timer, timer_at, without_timer_event, without_queued}
use Rattle.kernel_ports.specs.Told.{port_told}
use Rattle.kernel_ports.specs.Words.{AssociatedPortsValue}
use Rattle.kernel_ports.proofs.Queues.{AreThinner, timer_thinner}
use Rattle.kernel_ports.proofs.Rooms.{length-change, thinned}
use Rattle.kernel_ports.proofs.Timers.{nothing_told, told_port, told_ports, timers_fewer}
use Rattle.kernel_ports.proofs.ports.AssociatedPorts.delete_timer.Goals as goal

pub invariant_of-self : goal.invariant_of-self
invariant_of-self c =
    let ports = c.self.inside.ports in
    let list = c.self.inside.assocs.list in
    let timers = c.self.inside.timers.list in
    timers_fewer ports list timers (is_other_timer c.args.process.0 c.args.id) c.delete.new.self.list c.delete.ensures.list c.self.invariant

pub invariant_of-self-2 : goal.invariant_of-self-2
invariant_of-self-2 c =
    let ports = c.self.inside.ports in
    let list = c.self.inside.assocs.list in
    let timers = c.self.inside.timers.list in
    let tag = c.in-Ok.ended in
    let new = c.withdraw_timer.new.self in
    timers_fewer new list timers (is_other_timer c.args.process.0 c.args.id) c.delete.new.self.list c.delete.ensures.list
    (thinned ports new list timers (ap length c.withdraw_timer.ensures.ports ∙ length-change ports.ports tag.port (without_timer_event tag.number)) c.withdraw_timer.ensures.places
    (subst (AreThinner ports.ports) (sym c.withdraw_timer.ensures.ports) (timer_thinner ports.ports tag.port tag.number)) c.self.invariant)

pub returns-clause-port : goal.returns-clause-port
returns-clause-port c =
    let o = timer_at c.self.inside.timers.list.timers c.args.process.0 c.args.id in
    told_port o EINVAL c.in-Ok.ended c.in-Ok.ensures.answer
    ∙ ap (λ (v : AssociatedPortsValue). port_told (timer_at v.timers.list.timers c.args.process.0 c.args.id)) c.self.view_is

pub returns-clause-ports : goal.returns-clause-ports
returns-clause-ports c =
    let o = timer_at c.self.inside.timers.list.timers c.args.process.0 c.args.id in
    c.withdraw_timer.ensures.ports
    ∙ told_ports c.self.inside.ports.ports o EINVAL c.in-Ok.ended c.in-Ok.ensures.answer
    ∙ ap (λ (v : AssociatedPortsValue). without_queued v.ports.ports (timer_at v.timers.list.timers c.args.process.0 c.args.id)) c.self.view_is
