use Rattle.std.proofs.Common.{◌≡◌, drop}
use Rattle.spec_records.specs.Words.{release_rows}
use Rattle.arg_transfer.proofs.passing.release_each.Given as goal

abbrev pub invariant-loop-passed : goal.invariant-loop-passed
invariant-loop-passed l = release_rows l.table (drop l.passed-index l.pass) ≡ release_rows l.initial.table l.pass
