use Rattle.seat_table.proofs.TurnCalls.{served, still_waits}
use Rattle.seat_table.proofs.turns.wait_turn.Goals as goal

pub look-serving-requires-clause-waits : goal.look-serving-requires-clause-waits
look-serving-requires-clause-waits g c = still_waits c.args.place.now.me c.loop.place.me c.args.ticket c.loop.invariant.1 c.requires.waits

pub returns-then-serving-ticket-clause-turn : goal.returns-then-serving-ticket-clause-turn
returns-then-serving-ticket-clause-turn g c =
    served g.D.Recorded.history g.D.Recorded.seat c.args.place.now.me c.loop.place.me c.look-serving.new.place.me c.args.ticket c.look-serving.result
    c.loop.invariant.1 c.requires.waits c.look-serving.ensures.turn c.if-serving-ticket.true
