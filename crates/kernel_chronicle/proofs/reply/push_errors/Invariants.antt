use Rattle.std.proofs.Common.{◌≡◌, ◌≤◌, ◌+◌, ◌++◌, length, map, take}
use Rattle.kernel_chronicle.specs.Replies.{error_number}
use Rattle.kernel_chronicle.proofs.reply.push_errors.Given as goal

abbrev pub invariant-loop-error : goal.invariant-loop-error
invariant-loop-error l =
    (l.words.items ≡ l.fn.words.items ++ map error_number (take l.error-index l.errors))
    × (l.fn.words.spare ≤ l.words.spare + l.error-index)
    × (length l.errors ≤ l.fn.words.spare)
