use Rattle.std.proofs.Common.{rules, arith, ap, sym, ◌∙◌, ◌∷◌, [], None}
use Rattle.atomic_table.specs.Seated.{TableId}
use Rattle.atomic_table.specs.Table.{rest}
use Rattle.seat_table.specs.Rule.{left}
use Rattle.seat_table.proofs.Calls.{appends_given, told_turn, told_back, told_view}
use Rattle.seat_table.proofs.table.SeatTable.end_turn.Goals as goal

pub exchange-requires : goal.exchange-requires
exchange-requires g c =
    (c.requires.own ∙ sym {A = TableId} c.self.view_is, (None, c.requires.turn.2 ∙ (λ i. (0, None) ∷ sym (ap rest c.requires.turn.2) i)))

pub fetch_add-requires : goal.fetch_add-requires
fetch_add-requires g c =
    (search rules, omega (arith, c.self.invariant.0), appends_given g.D.Recorded.history g.D.Recorded.seat _ _ _ _ _ c.requires.turn c.exchange.ensures.3 c.requires.entry)

pub pass_on-requires-clause-turn : goal.pass_on-requires-clause-turn
pass_on-requires-clause-turn g c = told_turn g.D.Recorded.history g.D.Recorded.seat c.exchange.new.seat.me c.fetch_add.new.seat.me _ c.fetch_add.ensures.2.0

pub pass_on-requires-clause-holds : goal.pass_on-requires-clause-holds
pass_on-requires-clause-holds g c =
    told_back g.D.Recorded.history g.D.Recorded.seat _ _ _ _ c.requires.turn c.exchange.ensures.3 c.fetch_add.ensures.2.0 c.fetch_add.ensures.2.1

pub returns-clause-left : goal.returns-clause-left
returns-clause-left g c =
    c.pass_on.ensures.left
    ∙ (λ i. (left (told_view g.D.Recorded.history g.D.Recorded.seat c.args.place.now.me c.exchange.new.seat.me c.fetch_add.new.seat.me c.args.value c.requires.turn c.exchange.ensures.3 c.fetch_add.ensures.2.0 i), []))
