use Rattle.std.proofs.Common.{◌≡◌, ℕ, ◌+◌, ap, arith, length, subst, sym, ◌∙◌}
use Rattle.dk_base.specs.Words.{RoomValue}
use Rattle.spec_kernel.specs.Words.{State}
use Rattle.kernel_store.specs.Words.{IsAtRest, stored_state}
use Rattle.kernel_store.specs.declared.told.TellingRooms.{TellingRooms}
use Rattle.kernel_core.proofs.Finishing.{ending_room, events_settled, left_to_tell, made_settled, ready_settled, rest_told, room_acted, settled_acted, step_settled, within_acted}
use Rattle.kernel_core.proofs.event.Parts.finish.Goals as goal

pub gone-requires-clause-room : goal.gone-requires-clause-room
gone-requires-clause-room c =
    let h = c.requires.acted.4 in
    let had = h.ready.rooms.gone in
    let same = ap (λ (r : TellingRooms). length r.gone.items + r.gone.spare) h.rooms in
    omega (arith, had, same, c.clear.ensures.spare)

pub settle-requires-clause-within : goal.settle-requires-clause-within
settle-requires-clause-within c = within_acted c.requires.acted.4

pub settle-requires-clause-room : goal.settle-requires-clause-room
settle-requires-clause-room c =
    let h = c.requires.acted.4 in
    let same = ap (λ (r : RoomValue ℕ). r.spare) h.fallen in
    (c.requires.acted.3.store, room_acted h, omega (arith, h.ready.fallen, same))

pub tell-requires-clause-listed : goal.tell-requires-clause-listed
tell-requires-clause-listed c =
    let h = c.requires.acted.4 in
    let had = h.ready.rooms.changed in
    let same = ap (λ (r : TellingRooms). r.changed.spare) h.rooms in
    omega (arith, had, same, c.gone.ensures.few)

pub tell-requires-clause-room : goal.tell-requires-clause-room
tell-requires-clause-room c = ending_room c.requires.acted.4 c.settle.new.store c.settle.ensures.state

pub tell-requires-clause-told : goal.tell-requires-clause-told
tell-requires-clause-told c =
    let a = c.requires.acted in (
      stored_state a.0.store,
      a.1,
      a.2,
      left_to_tell a.4 c.settle.new.store c.gone.new.into.items c.settle.ensures.state c.gone.ensures.gone,
    )

pub end_event-requires-clause-few : goal.end_event-requires-clause-few
end_event-requires-clause-few c =
    let h = c.requires.acted.4 in
    let e = settled_acted h c.settle.new.store c.tell.new.self c.settle.ensures.state c.tell.ensures.state in
    omega (arith, events_settled h c.tell.new.self e, (within_acted h).few)

pub end_event-requires-clause-ready : goal.end_event-requires-clause-ready
end_event-requires-clause-ready c =
    let h = c.requires.acted.4 in
    ready_settled h c.tell.new.self c.settle.new.fallen c.tell.new.rooms c.put_back.new.room (settled_acted h c.settle.new.store c.tell.new.self c.settle.ensures.state c.tell.ensures.state)

pub returns-clause-step : goal.returns-clause-step
returns-clause-step c =
    λ start t q before h.
    step_settled h c.tell.new.self c.end_event.new.self.store c.end_event.result
    (settled_acted h c.settle.new.store c.tell.new.self c.settle.ensures.state c.tell.ensures.state)
    c.end_event.ensures.state c.end_event.ensures.answer c.end_event.ensures.woken

pub returns-clause-between : goal.returns-clause-between
returns-clause-between c =
    let h = c.requires.acted.4 in
    let e = settled_acted h c.settle.new.store c.tell.new.self c.settle.ensures.state c.tell.ensures.state in
    let counted : c.args.self.now.store.events + 1 ≡ c.end_event.new.self.store.events =
    ap (λ k. k + 1) (sym (events_settled h c.tell.new.self e)) ∙ sym (ap (λ (k : State). k.events) c.end_event.ensures.state) in
    subst (λ k. IsAtRest k c.end_event.new.self.store) counted
    (c.end_event.ensures.rest (c.args.self.now.store.events + 1)
    (rest_told c.settle.new.store c.tell.new.self (c.args.self.now.store.events + 1) c.tell.ensures.keeps c.settle.ensures.rest))

pub returns-clause-made : goal.returns-clause-made
returns-clause-made c =
    λ start t q before h.
    let more =
    made_settled h c.tell.new.self (settled_acted h c.settle.new.store c.tell.new.self c.settle.ensures.state c.tell.ensures.state) c.settle.ensures.few in
    omega (arith, more, ap (λ (k : State). k.notice_list.made) c.end_event.ensures.state)
