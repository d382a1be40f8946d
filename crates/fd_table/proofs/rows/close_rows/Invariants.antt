use Rattle.std.proofs.Common.{◌≡◌, ◌++◌, map, take, drop}
use Rattle.spec_records.specs.Words.{free_row}
use Rattle.fd_table.proofs.rows.close_rows.Given as goal

abbrev pub invariant-loop-row : goal.invariant-loop-row
invariant-loop-row l = l.rows ≡ map free_row (take l.row-index l.initial.rows) ++ drop l.row-index l.initial.rows
