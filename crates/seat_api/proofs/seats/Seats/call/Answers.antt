use Rattle.std.proofs.Common.{◌+◌, refl, subst}
use Rattle.seat_api.specs.Seating.{Chair, Extends}
use Rattle.seat_api.proofs.Calls.{counted, extends, has_entry, in_turn, is_whole}
use Rattle.seat_api.proofs.seats.Seats.call.Goals as goal

pub make-requires-clause-number : goal.make-requires-clause-number
make-requires-clause-number g c =
    counted c.seat.inside.place.me c.take_turn-desk.new.place.me c.take_turn-desk.result c.take_turn-desk.ensures.turn c.seat.inside.number
    c.seat.inside.made c.seat.invariant.number_is c.seat.invariant.made_is

pub end_turn-requires-clause-turn : goal.end_turn-requires-clause-turn
end_turn-requires-clause-turn g c =
    in_turn c.seat.inside.place.me c.take_turn-desk.new.place.me c.take_turn-desk.result c.take_turn-desk.ensures.turn c.seat.invariant.sits

pub end_turn-requires-clause-entry : goal.end_turn-requires-clause-entry
end_turn-requires-clause-entry g c =
    has_entry c.seat.inside.place.me c.take_turn-desk.new.place.me c.take_turn-desk.result c.take_turn-desk.ensures.turn c.make.new.self _
    c.in-Ok.ensures.done c.seat.invariant.number_is

pub leave_turn-requires-clause-turn : goal.leave_turn-requires-clause-turn
leave_turn-requires-clause-turn g c =
    in_turn c.seat.inside.place.me c.take_turn-desk.new.place.me c.take_turn-desk.result c.take_turn-desk.ensures.turn c.seat.invariant.sits

pub leave_turn-requires-clause-same : goal.leave_turn-requires-clause-same
leave_turn-requires-clause-same g c =
    is_whole c.seat.inside.place.me c.take_turn-desk.new.place.me c.take_turn-desk.result c.take_turn-desk.ensures.turn c.make.new.self
    c.in-Err.ensures.err

pub returns-in-Ok-clause-done : goal.returns-in-Ok-clause-done
returns-in-Ok-clause-done g c =
    let before = c.seat.inside in
    let after = c.end_turn.new.place in
    let old : Chair =
    record {
      table = before.place.table_id;
      number = before.number;
      thread = before.thread;
      next = before.next;
      calls = before.calls;
      seen = before.place.me.0.seen;
      mine = before.place.me.0.mine;
    } in
    let new : Chair =
    record {
      table = after.table_id;
      number = before.number;
      thread = before.thread;
      next = before.next;
      calls = before.calls + 1;
      seen = after.me.0.seen;
      mine = after.me.0.mine;
    } in
    subst (λ v. Extends g.J.Opening.opening v new c.args.act c.in-Ok.reply) c.seat.view_is
    (extends before.place.me c.take_turn-desk.new.place.me c.take_turn-desk.result c.take_turn-desk.ensures.turn g.J.Opening.opening after.me
    c.make.new.self old new c.args.act c.in-Ok.reply before.made c.end_turn.ensures.left c.in-Ok.ensures.done c.in-Ok.ensures.legal
    c.seat.invariant.number_is c.seat.invariant.made_is refl refl refl refl)
