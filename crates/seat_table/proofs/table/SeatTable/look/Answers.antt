use Rattle.std.proofs.Common.{arith, sym, ◌∙◌}
use Rattle.atomic_table.specs.Seated.{TableId}
use Rattle.seat_table.proofs.Rules.{looks}
use Rattle.seat_table.proofs.table.SeatTable.look.Goals as goal

pub load-requires : goal.load-requires
load-requires g c =
    let waits = c.requires.waits in (
      c.requires.own ∙ sym {A = TableId} c.self.view_is,
      omega (arith, c.self.invariant.0),
      looks g.D.Recorded.history g.D.Recorded.seat _ _ waits.0 _ waits.1.0 waits.1.1 waits.1.2,
    )

pub returns-clause-turn : goal.returns-clause-turn
returns-clause-turn g c = c.load.ensures.2.0

pub returns-clause-others : goal.returns-clause-others
returns-clause-others g c = λ other. let same = c.load.ensures.2.1 other in λ i. (same.0 i, same.1 i)
