use Rattle.seat_table.proofs.TurnCalls.{met, met_view}
use Rattle.seat_table.proofs.turns.meet.Goals as goal

pub join-requires-clause-note : goal.join-requires-clause-note
join-requires-clause-note g c = (_, c.note-note.ensures.note)

pub returns-clause-begins : goal.returns-clause-begins
returns-clause-begins g c =
    met c.args.a.now.me c.join.new.place.me c.seen.new.place.me c.note-note.result.me c.args.b.now.me.0.seen c.note-note.ensures.note c.join.ensures.joined
    c.seen.ensures.olds c.seen.ensures.place.1

pub returns-clause-a : goal.returns-clause-a
returns-clause-a g c =
    met_view c.args.a.now.me c.join.new.place.me c.seen.new.place.me c.note-note.result.me c.args.b.now.me.0.seen c.note-note.ensures.note c.join.ensures.joined
    c.seen.ensures.place.1
