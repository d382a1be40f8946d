use Rattle.std.proofs.Common.{◌≡◌, ◌+◌, ◌≤◌, ◌++◌, length, drop}
use Rattle.spec_records.specs.Words.{free_rows, insert_rows, new_descriptors}
use Rattle.fd_table.proofs.table.FdTable.insert_each.Given as goal

abbrev pub invariant-loop-object : goal.invariant-loop-object
invariant-loop-object l =
    record {
      rows : insert_rows l.self (drop l.object-index l.objects) ≡ insert_rows l.initial.self l.objects;
      fds : l.into.items ++ new_descriptors l.self (drop l.object-index l.objects) ≡ l.initial.into.items ++ new_descriptors l.initial.self l.objects;
      free : length l.objects ≤ free_rows l.self + l.object-index;
      roomy : l.initial.into.spare ≤ l.into.spare + l.object-index;
    }
