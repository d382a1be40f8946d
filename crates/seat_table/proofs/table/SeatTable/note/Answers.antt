use Rattle.std.proofs.Common.{arith, sym, ◌∙◌}
use Rattle.atomic_table.specs.Seated.{TableId}
use Rattle.seat_table.proofs.Rules.{notes}
use Rattle.seat_table.proofs.table.SeatTable.note.Goals as goal

pub split_seat-requires : goal.split_seat-requires
split_seat-requires g c = (c.requires ∙ sym {A = TableId} c.self.view_is, omega (arith, c.self.invariant.0), notes g.D.Recorded.history g.D.Recorded.seat _ _)
