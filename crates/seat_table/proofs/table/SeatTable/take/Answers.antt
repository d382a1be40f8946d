use Rattle.std.proofs.Common.{rules, ap, sym, ◌∙◌, ◌∷◌, Some}
use Rattle.atomic_table.specs.Table.{rest}
use Rattle.seat_table.proofs.table.SeatTable.take.Goals as goal

pub exchange-requires : goal.exchange-requires
exchange-requires g c =
    let d = c.requires.holds.0 in
    (search rules, (Some d, c.requires.holds.1 ∙ (λ i. (0, Some d) ∷ sym (ap rest c.requires.holds.1) i)))
