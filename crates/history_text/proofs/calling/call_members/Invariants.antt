use Rattle.std.proofs.Common.{◌≡◌, ◌++◌, take, drop}
use Rattle.std.specs.Prelude.{reverse}
use Rattle.history_text.specs.Changes.{with_member_names}
use Rattle.history_text.proofs.calling.call_members.Given as goal

abbrev pub invariant-loop-thread : goal.invariant-loop-thread
invariant-loop-thread l =
    with_member_names l.process (reverse l.fn.names.items) l.fn.threads
    ≡ take l.thread-index l.threads ++ with_member_names l.process (reverse l.names.items) (drop l.thread-index l.threads)
