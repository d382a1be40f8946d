-- Which waiting items leave their queues.
use Rattle.std.specs.Prelude.{ℕ, zero, suc, ◌≡◌, ◌&&◌, ◌||◌, Bool, false, List, [], ◌∷◌, ◌++◌, Option, Some, None, find, sum_by}
use Rattle.std.specs.List.{list_any}
use Rattle.dk_base.specs.ByNumber.{at_number}
use Rattle.dk_base.specs.declared.object.Item.TheVariants as item
use Rattle.spec_records.specs.Words.{is_pool, is_queued, pool_in}
use Rattle.spec_kernel.specs.Types.{Call, Door, Item, Pool, Waiting}
use Rattle.call_tree.specs.Words.{is_called_by}
use Rattle.server_pool.specs.Words.{PoolsValue, change_pool, drop_door_in, is_waiting_as, is_waiting_at, items_at, items_waiting_at, queue_in}

abbrev pub pool_of_number : List Door → ℕ → Pool
pool_of_number doors d = pool_in (at_number doors d)

abbrev pub none_gone : Pool → Waiting → Bool
none_gone pool w = false

-- a call that waits, in the pool of its door
abbrev pub is_queued_at : List Door → Call → Pool → Waiting → Bool
is_queued_at doors r pool w = is_queued r.stage && (is_pool (pool_of_number doors r.door) pool && is_waiting_as (item.Call r.number) w)

-- a call, if there is one
abbrev pub is_call_of : List Door → Option Call → Pool → Waiting → Bool
is_call_of doors None pool w = false
is_call_of doors (Some r) pool w = is_queued_at doors r pool w

-- the call of a thread, where it leaves
abbrev pub is_call_where : List Door → List Call → Bool → ℕ → Pool → Waiting → Bool
is_call_where doors calls leaves t pool w = leaves && is_call_of doors (find (is_called_by t) calls) pool w

-- those of the threads 1 to n that meet a test
abbrev pub is_call_of_any : List Door → List Call → (ℕ → Bool) → ℕ → Pool → Waiting → Bool
is_call_of_any doors calls test zero pool w = false
is_call_of_any doors calls test (suc n) pool w = is_call_of_any doors calls test n pool w || is_call_where doors calls (test (suc n)) (suc n) pool w

-- what waits at one of these doors, in its pool
abbrev pub is_at_door : List Door → Pool → Waiting → ℕ → Bool
is_at_door doors pool w d = is_pool (pool_of_number doors d) pool && is_waiting_at d w

abbrev pub is_at_lost : List Door → List ℕ → Pool → Waiting → Bool
is_at_lost doors lost pool w = list_any (is_at_door doors pool w) lost

-- how much waits at these doors
abbrev pub waiting_total : List Door → PoolsValue → List ℕ → ℕ
waiting_total doors pools lost = sum_by (λ d. items_waiting_at d (queue_in pools (pool_of_number doors d))) lost

-- each door's items follow those before, as the doors are lost one after the other
abbrev pub dropped_items : List Door → List ℕ → PoolsValue → List Item
dropped_items doors [] pools = []
dropped_items doors (d ∷ ds) pools =
    items_at d (queue_in pools (pool_of_number doors d))
    ++ dropped_items doors ds (change_pool pools (pool_of_number doors d) (drop_door_in d))

abbrev pub Dropped : List Door → List ℕ → PoolsValue → List Item → List Item → Type 0
Dropped doors lost pools before after = after ≡ before ++ dropped_items doors lost pools
