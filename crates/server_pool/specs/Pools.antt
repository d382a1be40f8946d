-- All server pools, with the bindings of threads and the spare threads of each process.
use Rattle.std.specs.Prelude.{◌+◌, ◌-◌, ℕ, ◌<◌, Bool, ◌==◌, ◌&&◌, not, if◌then◌else◌, List, [], Option, None, Some, Result, Ok, Err, ◌∷◌, ◌++◌, drop, filter, length, replicate, slice_get, sum_by, take}
use Rattle.std.specs.List.{AllByRecursion}
use Rattle.dk_base.specs.ByNumber.{at_number}
use Rattle.dk_base.specs.declared.error.Errno.{Errno}
use Rattle.dk_base.specs.declared.error.Errno.TheVariants.{EBADF, EINVAL}
use Rattle.dk_base.specs.declared.limits.TheConstants.{THREADS_MAX}
use Rattle.dk_base.specs.declared.number.Tid.{Tid}
use Rattle.spec_records.specs.declared.pool.Parked.{Parked}
use Rattle.spec_records.specs.declared.pool.Pool.{Pool}
use Rattle.spec_records.specs.declared.pool.Pool.TheVariants.{Common, Private}
use Rattle.spec_records.specs.declared.pool.Waiting.{Waiting}
use Rattle.spec_records.specs.Words.{unbind_thread}
use Rattle.server_pool.specs.declared.facts.BindFacts.{BindFacts}
use Rattle.server_pool.specs.Ordered.{change_at_number}
use Rattle.server_pool.specs.Pool.{PoolValue, empty_pool, pool_size}

-- The door that each thread is bound to, at the thread's place; the pools that processes have in common, by process; the pools
-- of private doors, by door, where a door that is not private has an empty one; the spare threads of each process that were
-- not started, the lowest first; and how many more doors take no memory.
pub record PoolsValue : Type 0 where
  pub bindings : List (Option ℕ)
  pub common : List PoolValue
  pub private : List PoolValue
  pub spares : List (List ℕ)
  pub door_room : ℕ

-- no process and no door
abbrev pub no_pools : PoolsValue
no_pools = record { bindings = replicate THREADS_MAX None; common = []; private = []; spares = []; door_room = 0 }

-- a pool, of which there may be none

abbrev pub pool_at : PoolsValue → Pool → Option PoolValue
pool_at pools (Common p) = at_number pools.common p.0
pool_at pools (Private d) = at_number pools.private d

abbrev pub pool_or_empty : Option PoolValue → PoolValue
pool_or_empty None = empty_pool
pool_or_empty (Some pool) = pool

-- the threads parked in a pool, in the order in which they parked
abbrev pub stack_in : PoolsValue → Pool → List Parked
stack_in pools pool = (pool_or_empty (pool_at pools pool)).parked

-- what waits in a pool, the oldest first
abbrev pub queue_in : PoolsValue → Pool → List Waiting
queue_in pools pool = (pool_or_empty (pool_at pools pool)).waiting

-- how many more threads and items take no memory, none where there is no pool

abbrev pub thread_room_in : PoolsValue → Pool → ℕ
thread_room_in pools pool = (pool_or_empty (pool_at pools pool)).thread_room

abbrev pub item_room_in : PoolsValue → Pool → ℕ
item_room_in pools pool = (pool_or_empty (pool_at pools pool)).item_room

-- a pool changes; where there is none, nothing does
abbrev pub change_pool : PoolsValue → Pool → (PoolValue → PoolValue) → PoolsValue
change_pool pools (Common p) change = record pools { common = change_at_number pools.common p.0 change }
change_pool pools (Private d) change = record pools { private = change_at_number pools.private d change }

-- spare threads

abbrev pub spares_or_none : Option (List ℕ) → List ℕ
spares_or_none None = []
spares_or_none (Some spares) = spares

-- those of a process, the lowest first
abbrev pub spares_of : PoolsValue → ℕ → List ℕ
spares_of pools p = spares_or_none (at_number pools.spares p)

abbrev pub AllBelow : ℕ → List ℕ → Type 0
AllBelow t spares = AllByRecursion (λ u. u < t) spares

abbrev pub lowest_spare : List ℕ → Option ℕ
lowest_spare spares = slice_get spares 0

abbrev pub with_spare : ℕ → List ℕ → List ℕ
with_spare t spares = spares ++ t ∷ []

abbrev pub without_lowest : List ℕ → List ℕ
without_lowest spares = drop 1 spares

abbrev pub without_highest : List ℕ → List ℕ
without_highest spares = take (length spares - 1) spares

abbrev pub is_another_spare : ℕ → ℕ → Bool
is_another_spare t u = not (u == t)

-- without every place of a thread
abbrev pub without_spare : ℕ → List ℕ → List ℕ
without_spare t spares = filter (is_another_spare t) spares

abbrev pub change_spares : PoolsValue → ℕ → (List ℕ → List ℕ) → PoolsValue
change_spares pools p change = record pools { spares = change_at_number pools.spares p change }

-- how much waits and is parked in all pools
abbrev pub size_in : PoolsValue → ℕ
size_in pools = sum_by pool_size pools.common + sum_by pool_size pools.private

-- bindings

-- what binding a thread to a door is refused with, of which this is known
abbrev pub may_bind_to : Bool → Bool → Bool → Result Unit Errno
may_bind_to valid is_private own = if valid then (if is_private && own then Ok tt else Err EINVAL) else Err EBADF

abbrev pub may_bind : BindFacts → Result Unit Errno
may_bind facts = may_bind_to facts.valid facts.is_private facts.own

-- these threads are bound to none
abbrev pub unbind_each : List (Option ℕ) → List Tid → List (Option ℕ)
unbind_each bindings [] = bindings
unbind_each bindings (t ∷ ts) = unbind_each (unbind_thread bindings t.0) ts
