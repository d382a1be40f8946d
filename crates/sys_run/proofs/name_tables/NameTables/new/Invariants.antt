use Rattle.std.proofs.Common.{◌≡◌, [], length}
use Rattle.sys_run.specs.NameTables.{AllTablesStandFrom}
use Rattle.sys_run.proofs.name_tables.NameTables.new.Given as goal

abbrev pub invariant-loop : goal.invariant-loop
invariant-loop l = AllTablesStandFrom [] 1 l.tables.items × (length l.tables.items ≡ l.counter)
