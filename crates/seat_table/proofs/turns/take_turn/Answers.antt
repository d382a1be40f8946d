use Rattle.seat_table.proofs.Lists.{second_is}
use Rattle.seat_table.proofs.TurnCalls.{drawn_waits, takes}
use Rattle.seat_table.proofs.turns.take_turn.Goals as goal

pub wait_turn-requires-clause-waits : goal.wait_turn-requires-clause-waits
wait_turn-requires-clause-waits g c = drawn_waits c.args.place.now.me c.draw-ticket.new.place.me _ c.draw-ticket.ensures.drawn c.requires.may

pub take-requires-clause-holds : goal.take-requires-clause-holds
take-requires-clause-holds g c = let turn = c.wait_turn.ensures.turn in (turn.0, second_is _ _ _ turn.1)

pub returns-clause-turn : goal.returns-clause-turn
returns-clause-turn g c =
    takes g.D.Recorded.history g.D.Recorded.seat c.args.place.now.me c.draw-ticket.new.place.me c.wait_turn.new.place.me c.take.new.place.me _ _ c.draw-ticket.ensures.drawn.0 c.wait_turn.ensures.turn c.take.ensures.taken.0 c.take.ensures.taken.1
