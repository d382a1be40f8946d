use Rattle.std.proofs.Common.{◌≡◌, length, length-append, arith}
use Rattle.sys_run.proofs.NameTables.{AllTablesStandFrom_push}
use Rattle.sys_run.proofs.name_tables.NameTables.new.Goals as goal

pub loop-preserved : goal.loop-preserved
loop-preserved c =
    let count : length c.loop.tables.items ≡ c.loop.counter = c.loop.invariant.1
    in rw c.in-Ok.ensures.items (
      AllTablesStandFrom_push c.loop.tables.items _ 1 c.loop.invariant.0 c.in_ok-table.ensures,
      simp length-append (omega arith),
    )
