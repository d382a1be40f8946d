use Rattle.std.proofs.Common.{◌+◌, ◌-◌, ◌≤◌, List}
use Rattle.dk_base.specs.declared.limits.TheConstants.{THREADS_MAX}
use Rattle.spec_records.specs.Words.{CallTree, NoticeList, leaving_of}
use Rattle.spec_kernel.specs.Types.{Door, Pool}
use Rattle.server_pool.specs.Words.{thread_room_in}
use Rattle.law_pools.specs.Words.{Agrees}
use Rattle.proc_table.specs.Words.{Walks}
use Rattle.exit_paths.specs.Words.{KeepsItems}
use Rattle.exit_paths.proofs.LeftThreads.{HasLeft}
use Rattle.exit_paths.proofs.fates.leave_threads.Given as goal

abbrev pub invariant-loop-t : goal.invariant-loop-t
invariant-loop-t l =
    Walks l.fn.touched l.walk
    × ((doors : List Door) → HasLeft (leaving_of l.fn.processes doors l.who) l.now l.calls.tree.calls l.walk.done l.fn.processes l.processes)
    × ((doors : List Door) (tree : CallTree) (list : NoticeList) → Agrees l.now l.fn.processes doors tree list l.fn.pools → Agrees l.now l.processes doors tree list l.pools)
    × KeepsItems l.fn.pools l.pools
    × ((pool : Pool) → thread_room_in l.fn.pools pool ≤ thread_room_in l.pools pool + l.walk.done)

abbrev pub decreases-loop-t : goal.decreases-loop-t
decreases-loop-t l = THREADS_MAX - l.walk.done
