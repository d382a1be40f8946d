use Rattle.std.proofs.Common.{◌≡◌, ◌≤◌, ◌+◌, ◌*◌, ◌∷◌, ◌++◌, take, length, flat_map}
use Rattle.line_text.specs.Strings.{quoted_byte}
use Rattle.trace_text.specs.Taken.{TakesAtMost}
use Rattle.trace_text.proofs.data_text.push_quoted.Given as goal

abbrev pub invariant-loop-byte : goal.invariant-loop-byte
invariant-loop-byte l =
    (l.text.items ≡ l.fn.text.items ++ 34 ∷ flat_map quoted_byte (take l.byte-index l.bytes))
    × TakesAtMost l.fn.text l.text (1 + 4 * l.byte-index)
    × (4 * length l.bytes + 2 ≤ l.fn.text.spare)
