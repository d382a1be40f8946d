use Rattle.std.proofs.Common.{◌≡◌, ◌+◌, ◌≤◌, ◌++◌, take}
use Rattle.server_pool.specs.Words.{items_at, items_waiting_at}
use Rattle.server_pool.proofs.pool.list_items.Given as goal

abbrev pub invariant-loop-i : goal.invariant-loop-i
invariant-loop-i l =
    (l.into.items ≡ l.fn.into.items ++ items_at l.d (take l.i l.waiting.items))
    × (l.fn.into.spare ≤ l.into.spare + items_waiting_at l.d (take l.i l.waiting.items))
    × (items_waiting_at l.d l.waiting.items ≤ l.fn.into.spare)
