use Rattle.std.proofs.Common.{◌≡◌, length}
use Rattle.line_text.specs.Strings.{Plain, text_from}
use Rattle.line_text.proofs.AfterFront.{after_front}
use Rattle.line_text.proofs.string.text_of.Given as goal

abbrev pub invariant-loop-byte : goal.invariant-loop-byte
invariant-loop-byte l = after_front l.text (text_from Plain l.rest) ≡ text_from Plain l.bytes

abbrev pub decreases-loop-byte : goal.decreases-loop-byte
decreases-loop-byte l = length l.rest
