use Rattle.std.proofs.Common.{ap, sym, ◌∙◌, ◌∷◌, [], None}
use Rattle.atomic_table.specs.Seated.{TableId}
use Rattle.atomic_table.specs.Table.{rest}
use Rattle.seat_table.specs.Rule.{left}
use Rattle.seat_table.proofs.Calls.{given, given_turn, given_back}
use Rattle.seat_table.proofs.table.SeatTable.leave_turn.Goals as goal

pub exchange-requires : goal.exchange-requires
exchange-requires g c =
    (c.requires.own ∙ sym {A = TableId} c.self.view_is, (None, c.requires.turn.2 ∙ (λ i. (0, None) ∷ sym (ap rest c.requires.turn.2) i)))

pub pass_on-requires-clause-turn : goal.pass_on-requires-clause-turn
pass_on-requires-clause-turn g c = given_turn _ _ _ c.requires.turn c.exchange.ensures.3

pub pass_on-requires-clause-holds : goal.pass_on-requires-clause-holds
pass_on-requires-clause-holds g c = given_back g.D.Recorded.history _ _ _ c.requires.turn c.exchange.ensures.3 c.requires.same

pub returns-clause-left : goal.returns-clause-left
returns-clause-left g c = c.pass_on.ensures.left ∙ (λ i. (left (given c.args.place.now.me c.exchange.new.seat.me c.args.value c.exchange.ensures.3 i), []))
