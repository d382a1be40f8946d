use Rattle.std.proofs.Common.{◌≡◌, drop}
use Rattle.history_text.specs.Reading.{is_skipped}
use Rattle.history_text.proofs.reading.is_skipped.Given as goal

abbrev pub invariant-loop-byte : goal.invariant-loop-byte
invariant-loop-byte l = is_skipped (drop l.byte-index l.line) ≡ is_skipped l.line
