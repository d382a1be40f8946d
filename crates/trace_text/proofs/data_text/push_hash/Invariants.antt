use Rattle.std.proofs.Common.{◌≡◌, ◌≤◌, ◌*◌, ◌++◌, take}
use Rattle.work_ops.specs.Words.{hex_text}
use Rattle.trace_text.specs.Taken.{TakesAtMost}
use Rattle.trace_text.proofs.data_text.push_hash.Given as goal

abbrev pub invariant-loop-byte : goal.invariant-loop-byte
invariant-loop-byte l =
    (l.text.items ≡ l.fn.text.items ++ hex_text (take l.byte-index l.byte-items))
    × TakesAtMost l.fn.text l.text (2 * l.byte-index)
    × (64 ≤ l.fn.text.spare)
