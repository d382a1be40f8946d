use Rattle.std.proofs.Common.{arith, sym, ◌∙◌}
use Rattle.atomic_table.specs.Seated.{TableId}
use Rattle.seat_table.proofs.Rules.{draws}
use Rattle.seat_table.proofs.table.SeatTable.draw.Goals as goal

pub fetch_add-requires : goal.fetch_add-requires
fetch_add-requires g c =
    let may = c.requires.may in (c.requires.own ∙ sym {A = TableId} c.self.view_is, omega (arith, c.self.invariant.0), draws g.D.Recorded.history g.D.Recorded.seat _ _ _ may.0 may.3 may.1)
