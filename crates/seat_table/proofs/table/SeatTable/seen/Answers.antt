use Rattle.std.proofs.Common.{arith, sym, ◌∙◌}
use Rattle.atomic_table.specs.Seated.{TableId}
use Rattle.seat_table.proofs.Rules.{reads}
use Rattle.seat_table.proofs.table.SeatTable.seen.Goals as goal

pub load-requires : goal.load-requires
load-requires g c = (c.requires ∙ sym {A = TableId} c.self.view_is, omega (arith, c.self.invariant.0), reads g.D.Recorded.history g.D.Recorded.seat _ _ _)
