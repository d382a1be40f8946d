use Rattle.std.proofs.Common.{◌≡◌, ◌∷◌, take, flat_map}
use Rattle.line_text.specs.Strings.{quoted_byte}
use Rattle.line_text.proofs.string.quoted_text.Given as goal

abbrev pub invariant-loop-byte : goal.invariant-loop-byte
invariant-loop-byte l = l.text ≡ 34 ∷ flat_map quoted_byte (take l.byte-index l.bytes)
