use Rattle.std.proofs.Common.{◌≡◌, ◌≤◌, ◌+◌, ◌++◌, length, map, take}
use Rattle.kernel_chronicle.specs.Replies.{thread_number}
use Rattle.kernel_chronicle.proofs.reply.push_threads.Given as goal

abbrev pub invariant-loop-thread : goal.invariant-loop-thread
invariant-loop-thread l =
    (l.words.items ≡ l.fn.words.items ++ map thread_number (take l.thread-index l.threads))
    × (l.fn.words.spare ≤ l.words.spare + l.thread-index)
    × (length l.threads ≤ l.fn.words.spare)
