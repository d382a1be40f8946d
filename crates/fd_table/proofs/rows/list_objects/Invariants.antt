use Rattle.std.proofs.Common.{◌≡◌, ◌+◌, ◌≤◌, ◌++◌, take}
use Rattle.spec_records.specs.Words.{objects_of}
use Rattle.fd_table.proofs.rows.list_objects.Given as goal

abbrev pub invariant-loop-row : goal.invariant-loop-row
invariant-loop-row l =
    record {
      listed : l.into.items ≡ l.initial.into.items ++ objects_of (take l.row-index l.rows);
      roomy : l.initial.into.spare ≤ l.into.spare + l.row-index;
    }
