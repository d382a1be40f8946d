use Rattle.std.proofs.Common.{◌≡◌, drop}
use Rattle.spec_records.specs.Words.{has_double_release}
use Rattle.arg_transfer.proofs.passing.has_double_release.Given as goal

abbrev pub invariant-loop-place : goal.invariant-loop-place
invariant-loop-place l = has_double_release (drop l.place l.pass) ≡ has_double_release l.pass
