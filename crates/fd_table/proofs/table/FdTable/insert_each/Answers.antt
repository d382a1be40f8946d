use Rattle.std.proofs.Common.{arith}
use Rattle.fd_table.proofs.Lowest.{free_some}
use Rattle.fd_table.proofs.table.FdTable.insert_each.Goals as goal

pub insert_free-fd-requires : goal.insert_free-fd-requires
insert_free-fd-requires c = free_some c.loop-object.self (omega (arith, c.loop-object.invariant.free, c.loop-object.auto.object-index-end, c.loop-object-test.true))
