use Rattle.std.proofs.Common.{◌≡◌, ◌≤◌, ◌++◌, drop, length}
use Rattle.dk_base.specs.declared.limits.TheConstants.{THREADS_MAX}
use Rattle.kernel_handle.specs.Shapes.{threads_from, threads_of}
use Rattle.kernel_handle.proofs.shape.threads_of.Given as goal

abbrev pub invariant-loop-place : goal.invariant-loop-place
invariant-loop-place l =
    (threads_of l.shapes ≡ l.threads.items ++ threads_from l.place (drop l.place l.shapes)) × (length l.threads.items ≤ THREADS_MAX)
