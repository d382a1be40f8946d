use Rattle.std.proofs.Common.{◌≡◌, ◌≤◌, ◌*◌, ◌++◌, take, length}
use Rattle.std.specs.Prelude.{flat_map}
use Rattle.spec_requests.specs.Words.{spaced_fd}
use Rattle.trace_text.specs.Taken.{TakesAtMost}
use Rattle.trace_text.proofs.answer.push_each_fd.Given as goal

abbrev pub invariant-loop-fd : goal.invariant-loop-fd
invariant-loop-fd l =
    (l.text.items ≡ l.fn.text.items ++ flat_map spaced_fd (take l.fd-index l.fds))
    × TakesAtMost l.fn.text l.text (21 * l.fd-index)
    × (21 * length l.fds ≤ l.fn.text.spare)
