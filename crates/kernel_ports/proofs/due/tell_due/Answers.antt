use Rattle.std.proofs.Common.{◌≡◌, ap, false, sym, ◌∙◌}
use Rattle.spec_records.specs.declared.port.Queued.{Queued}
use Rattle.spec_records.specs.Words.{due_event, has_timer_event, port_of, post_event}
use Rattle.kernel_ports.proofs.Told.{room_grown, room_posted, tell_grown, tell_posted}
use Rattle.kernel_ports.proofs.due.tell_due.Goals as goal

pub returns-then-grow-clause-ports : goal.returns-then-grow-clause-ports
returns-then-grow-clause-ports c =
    c.grow.ensures.ports ∙ tell_grown c.args.ports.now.ports c.args.due (sym c.grow.ensures.result ∙ c.if-grow.true)

pub returns-then-grow-clause-rooms : goal.returns-then-grow-clause-rooms
returns-then-grow-clause-rooms c = λ ts there.
    let d = c.args.due in room_grown c.args.ports.now c.grow.new.self d.tag.port d.tag.number d.count ts c.grow.ensures.ports c.grow.ensures.rooms

pub post_fitting-requires-clause-room : goal.post_fitting-requires-clause-room
post_fitting-requires-clause-room c =
    c.grow.ensures.rooms c.args.due.tag.port 1 (c.requires.room (sym c.grow.ensures.result ∙ c.if-grow.false))

pub returns-clause-ports : goal.returns-clause-ports
returns-clause-ports c =
    let d = c.args.due in
    let none = sym c.grow.ensures.result ∙ c.if-grow.false in
    c.post_fitting.ensures.ports
    ∙ ap (λ (e : Queued). post_event c.grow.new.self.ports d.tag.port e) c.due_event.ensures
    ∙ ap (λ ports. post_event ports d.tag.port (due_event d)) (c.grow.ensures.none c.if-grow.false)
    ∙ tell_posted c.args.ports.now.ports d none

pub returns-clause-rooms : goal.returns-clause-rooms
returns-clause-rooms c = λ ts there.
    let d = c.args.due in
    let none = sym c.grow.ensures.result ∙ c.if-grow.false in
    room_posted c.args.ports.now c.grow.new.self c.post_fitting.new.self d ts (c.grow.ensures.none c.if-grow.false) c.grow.ensures.rooms
    (c.post_fitting.ensures.ports ∙ ap (λ (e : Queued). post_event c.grow.new.self.ports d.tag.port e) c.due_event.ensures) c.post_fitting.ensures.places none there
