use Rattle.std.proofs.Common.{◌≡◌, ◌+◌, ◌≤◌, ◌++◌, drop}
use Rattle.spec_records.specs.Words.{objects_passed}
use Rattle.arg_transfer.proofs.passing.list_objects.Given as goal

abbrev pub invariant-loop-passed : goal.invariant-loop-passed
invariant-loop-passed l =
    record {
      listed : l.into.items ++ objects_passed l.table (drop l.passed-index l.pass) ≡ l.initial.into.items ++ objects_passed l.table l.pass;
      roomy : l.initial.into.spare ≤ l.into.spare + l.passed-index;
    }
