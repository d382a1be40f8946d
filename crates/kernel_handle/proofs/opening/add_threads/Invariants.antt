use Rattle.std.proofs.Common.{◌≡◌, drop, length}
use Rattle.spec_histories.specs.Openings.{with_threads}
use Rattle.kernel_handle.proofs.opening.add_threads.Given as goal

abbrev pub invariant-loop-thread : goal.invariant-loop-thread
invariant-loop-thread l =
    (with_threads l.initial.kernel l.threads ≡ with_threads l.kernel (drop l.thread-index l.threads))
    × (l.kernel.events ≡ 0)
    × (length l.kernel.process_table.processes ≡ length l.processes)
    × (length l.kernel.process_table.threads ≡ l.thread-index)
