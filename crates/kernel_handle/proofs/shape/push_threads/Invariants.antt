use Rattle.std.proofs.Common.{◌≡◌, ◌++◌, replicate}
use Rattle.kernel_handle.proofs.shape.push_threads.Given as goal

abbrev pub invariant-loop-made : goal.invariant-loop-made
invariant-loop-made l = l.threads.items ≡ l.initial.threads.items ++ replicate l._made l.thread
