use Rattle.std.proofs.Common.{arith, sym, ◌∙◌}
use Rattle.atomic_table.specs.Seated.{TableId}
use Rattle.seat_table.proofs.Lists.{first_is, second_is}
use Rattle.seat_table.proofs.Rules.{joins_note}
use Rattle.seat_table.proofs.table.SeatTable.join.Goals as goal

pub join_seat-requires : goal.join_seat-requires
join_seat-requires g c =
    let note = c.requires.note.1 in (
      c.requires.own.0 ∙ sym {A = TableId} c.self.view_is,
      c.requires.own.1 ∙ sym {A = TableId} c.self.view_is,
      second_is _ _ _ note,
      omega (arith, c.self.invariant.0),
      joins_note g.D.Recorded.history g.D.Recorded.seat _ _ _ _ _ (first_is _ _ _ note) c.requires.out,
    )
