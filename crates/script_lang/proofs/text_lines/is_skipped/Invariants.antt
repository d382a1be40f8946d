use Rattle.std.proofs.Common.{◌≡◌, drop}
use Rattle.script_lang.specs.Parsing.{is_skipped}
use Rattle.script_lang.proofs.text_lines.is_skipped.Given as goal

abbrev pub invariant-loop-byte : goal.invariant-loop-byte
invariant-loop-byte l = is_skipped (drop l.byte-index l.line) ≡ is_skipped l.line
