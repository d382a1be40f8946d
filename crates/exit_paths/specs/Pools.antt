-- What becomes of pools where threads park and end, and where waiting items leave.
use Rattle.std.specs.Prelude.{ℕ, ◌≡◌, ◌+◌, ◌<◌, ◌≤◌, Bool, true, List, Option, filter, is_some, length, not}
use Rattle.spec_records.specs.Words.{ProcessTable, bound_at, process_in, thread_at, tid}
use Rattle.spec_kernel.specs.Types.{Pool, Waiting}
use Rattle.server_pool.specs.Words.{AllParkedBefore, PoolsValue, item_room_in, pool_at, queue_in, spares_of, stack_in, thread_room_in}
use Rattle.law_pools.specs.Words.{pool_by}

-- the pool in which a thread parks, by the records of threads and their bindings
abbrev pub own_pool_in : ProcessTable → List (Option ℕ) → ℕ → Pool
own_pool_in table bindings t = pool_by (process_in (thread_at table t)) (bound_at bindings t)

-- a thread that is there can park at an event: its pool has room for it, and those that are parked there were before it
pub record CanParkAgain (table : ProcessTable) (pools : PoolsValue) (t now : ℕ) : Type 0 where
  pub there : is_some (thread_at table t) ≡ true
  pub room : 0 < thread_room_in pools (own_pool_in table pools.bindings t)
  pub later :
      AllParkedBefore (stack_in pools (own_pool_in table pools.bindings t))
      (record { thread = tid t; pool = own_pool_in table pools.bindings t; since = now })

-- the places for threads in a pool, taken and free
abbrev pub places_in : PoolsValue → Pool → ℕ
places_in pools pool = thread_room_in pools pool + length (stack_in pools pool)

-- no binding changes, no item comes or goes, and a thread takes a free place or leaves one
pub record KeepsItems (v w : PoolsValue) : Type 0 where
  pub bindings : w.bindings ≡ v.bindings
  pub items : (pool : Pool) → item_room_in w pool ≡ item_room_in v pool
  pub places : (pool : Pool) → places_in v pool ≤ places_in w pool
  pub doors : w.door_room ≡ v.door_room

-- the pools hold the same, in whatever room
pub record HoldsSame (v w : PoolsValue) : Type 0 where
  pub bindings : w.bindings ≡ v.bindings
  pub stacks : (pool : Pool) → stack_in w pool ≡ stack_in v pool
  pub queues : (pool : Pool) → queue_in w pool ≡ queue_in v pool
  pub spares : (p : ℕ) → spares_of w p ≡ spares_of v p
  pub common : length w.common ≡ length v.common
  pub spare_lists : length w.spares ≡ length v.spares
  pub private : length w.private ≡ length v.private

-- the same pools are there, with no less room
pub record HasNoLessRoom (v w : PoolsValue) : Type 0 where
  pub doors : v.door_room ≤ w.door_room
  pub there : (pool : Pool) → is_some (pool_at w pool) ≡ is_some (pool_at v pool)
  pub threads : (pool : Pool) → thread_room_in v pool ≤ thread_room_in w pool
  pub items : (pool : Pool) → item_room_in v pool ≤ item_room_in w pool

-- The items of which this holds have left their queues, where the others keep their order; all else of the pools is as it was.
abbrev pub kept_where : (Waiting → Bool) → Waiting → Bool
kept_where gone w = not (gone w)

pub record HaveLeft (gone : Pool → Waiting → Bool) (v w : PoolsValue) : Type 0 where
  pub bindings : w.bindings ≡ v.bindings
  pub stacks : (pool : Pool) → stack_in w pool ≡ stack_in v pool
  pub queues : (pool : Pool) → queue_in w pool ≡ filter (kept_where (gone pool)) (queue_in v pool)
  pub spares : w.spares ≡ v.spares
  pub common : length w.common ≡ length v.common
  pub private : length w.private ≡ length v.private
  pub there : (pool : Pool) → is_some (pool_at w pool) ≡ is_some (pool_at v pool)
  pub threads : (pool : Pool) → thread_room_in w pool ≡ thread_room_in v pool
  pub items : (pool : Pool) → item_room_in v pool ≤ item_room_in w pool
  pub doors : w.door_room ≡ v.door_room
