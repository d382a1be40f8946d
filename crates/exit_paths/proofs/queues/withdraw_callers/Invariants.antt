use Rattle.std.proofs.Common.{◌-◌, ◌≤◌}
use Rattle.dk_base.specs.declared.limits.TheConstants.{THREADS_MAX}
use Rattle.proc_table.specs.Words.{Walks}
use Rattle.dk_base.specs.Words.{has}
use Rattle.exit_paths.specs.Words.{HaveLeft, is_call_of_any}
use Rattle.exit_paths.proofs.queues.withdraw_callers.Given as goal

abbrev pub invariant-loop-t : goal.invariant-loop-t
invariant-loop-t l = Walks l.initial.walk.rest l.walk × HaveLeft (is_call_of_any l.doors.items l.calls.tree.calls (has l.initial.walk.rest) l.walk.done) l.fn.pools l.pools × (l.walk.done ≤ THREADS_MAX)

abbrev pub decreases-loop-t : goal.decreases-loop-t
decreases-loop-t l = THREADS_MAX - l.walk.done
