use Rattle.std.proofs.Common.{◌≡◌, ℕ, ◌-◌, ◌≤◌, true, is_some, length}
use Rattle.dk_base.specs.declared.limits.TheConstants.{THREADS_MAX}
use Rattle.server_pool.specs.Words.{pool_at, thread_room_in}
use Rattle.proc_table.specs.Words.{Walks}
use Rattle.dk_base.specs.Words.{has}
use Rattle.exit_paths.specs.Words.{HasNoLessRoom, HoldsSame, own_pool_in}
use Rattle.exit_paths.proofs.fates.make_room.Given as goal

abbrev pub invariant-loop-t : goal.invariant-loop-t
invariant-loop-t l =
    HoldsSame l.fn.pools l.pools
    × HasNoLessRoom l.fn.pools l.pools
    × ((t : ℕ) → t ≤ l.walk.done → has l.fn.touched t ≡ true →
    is_some (pool_at l.fn.pools (own_pool_in l.processes l.fn.pools.bindings t)) ≡ true →
    length l.processes.threads ≤ thread_room_in l.pools (own_pool_in l.processes l.fn.pools.bindings t))
    × Walks l.fn.touched l.walk

abbrev pub decreases-loop-t : goal.decreases-loop-t
decreases-loop-t l = THREADS_MAX - l.walk.done
