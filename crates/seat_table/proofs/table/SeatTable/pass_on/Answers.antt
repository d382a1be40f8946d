use Rattle.std.proofs.Common.{arith, sym, ◌∙◌}
use Rattle.atomic_table.specs.Seated.{TableId}
use Rattle.seat_table.proofs.Rules.{leaves}
use Rattle.seat_table.proofs.table.SeatTable.pass_on.Goals as goal

pub fetch_add-requires : goal.fetch_add-requires
fetch_add-requires g c = (
  c.requires.own ∙ sym {A = TableId} c.self.view_is,
  omega (arith, c.self.invariant.0),
  leaves g.D.Recorded.history g.D.Recorded.seat _ _ _ c.requires.holds.0 c.self.invariant.1 c.requires.turn c.requires.holds.1 c.requires.holds.2,
)
