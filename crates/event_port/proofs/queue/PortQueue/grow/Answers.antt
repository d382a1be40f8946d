use Rattle.std.proofs.Common.{◌≡◌, None, Some, ap, arith, find, is_some, position, sym, ◌∙◌}
use Rattle.spec_records.specs.Words.{grown_event, is_timer_event}
use Rattle.spec_records.proofs.Places.{changed_nowhere, changed_there, find_nowhere, found_there}
use Rattle.event_port.specs.Words.{count_in}
use Rattle.event_port.proofs.Timers.{any_found, with_queue}
use Rattle.event_port.proofs.queue.PortQueue.grow.Goals as goal

pub grow_event-requires : goal.grow_event-requires
grow_event-requires c =
    let test = is_timer_event c.args.timer in
    let queue = c.self.inside.queue.items in
    let at : position test queue ≡ Some c.in-Some.place = cc in
    let found = found_there test queue c.in-Some.place c.index_mut.result.now c.index_mut.result.now at c.index_mut.ensures.value in
    let fits = rw (← c.self.view_is) at c.requires in
    omega (arith, fits, ap count_in found)

pub returns-in-Some-clause-result : goal.returns-in-Some-clause-result
returns-in-Some-clause-result c =
    let test = is_timer_event c.args.timer in
    let queue = c.self.inside.queue.items in
    let at : position test queue ≡ Some c.in-Some.place = cc in
    let found = found_there test queue c.in-Some.place c.index_mut.result.now c.index_mut.result.now at c.index_mut.ensures.value in
    rw (← c.self.view_is) (sym (any_found test queue ∙ ap is_some (sym found)))

pub returns-in-Some-clause-port : goal.returns-in-Some-clause-port
returns-in-Some-clause-port c =
    let test = is_timer_event c.args.timer in
    let queue = c.self.inside.queue.items in
    let at : position test queue ≡ Some c.in-Some.place = cc in
    let changed = changed_there test (grown_event c.args.by) queue c.in-Some.place c.index_mut.result.now c.grow_event.new.q at (c.grow_event.ensures ∙ ap (grown_event c.args.by) c.index_mut.ensures.value) in
    rw (← c.self.view_is) (ap (with_queue c.self.inside.number c.self.inside.alert) changed)

pub returns-in-None-clause-result : goal.returns-in-None-clause-result
returns-in-None-clause-result c =
    let test = is_timer_event c.args.timer in
    let queue = c.self.inside.queue.items in
    let none : position test queue ≡ None = cc in
    rw (← c.self.view_is) (sym (any_found test queue ∙ ap is_some (find_nowhere test queue none)))

pub returns-in-None-clause-port : goal.returns-in-None-clause-port
returns-in-None-clause-port c =
    let test = is_timer_event c.args.timer in
    let queue = c.self.inside.queue.items in
    let none : position test queue ≡ None = cc in
    rw (← c.self.view_is) (ap (with_queue c.self.inside.number c.self.inside.alert) (sym (changed_nowhere test (grown_event c.args.by) queue none)))
