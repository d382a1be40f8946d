use Rattle.std.proofs.Common.{◌≡◌, ◌+◌, ◌≤◌, ◌++◌, length, map, take}
use Rattle.server_pool.specs.Words.{thread_of}
use Rattle.server_pool.proofs.pool.list_threads.Given as goal

abbrev pub invariant-loop-x : goal.invariant-loop-x
invariant-loop-x l =
    (l.into.items ≡ l.fn.into.items ++ map thread_of (take l.x-index l.parked)) × (length l.parked ≤ l.into.spare + l.x-index)
