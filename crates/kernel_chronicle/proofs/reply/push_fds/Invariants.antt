use Rattle.std.proofs.Common.{◌≡◌, ◌≤◌, ◌+◌, ◌++◌, length, map, take}
use Rattle.kernel_chronicle.specs.Replies.{fd_number}
use Rattle.kernel_chronicle.proofs.reply.push_fds.Given as goal

abbrev pub invariant-loop-fd : goal.invariant-loop-fd
invariant-loop-fd l =
    (l.words.items ≡ l.fn.words.items ++ map fd_number (take l.fd-index l.fds))
    × (l.fn.words.spare ≤ l.words.spare + l.fd-index)
    × (length l.fds ≤ l.fn.words.spare)
