-- One server pool: its parked threads and its waiting items, with the room for more of them, and what becomes of it.
use Rattle.std.specs.Prelude.{ℕ, ◌+◌, ◌-◌, List, [], ◌∷◌, ◌++◌, Option, Bool, true, false, ◌==◌, ◌&&◌, not, None, Some, count_by, drop, filter, length, map, nat_le, slice_get, take}
use Rattle.dk_base.specs.declared.limits.TheConstants.{QUEUE_MAX}
use Rattle.dk_base.specs.declared.object.Item.{Item}
use Rattle.dk_base.specs.declared.object.Item.TheVariants.{Call, Notice}
use Rattle.spec_records.specs.declared.pool.Parked.{Parked}
use Rattle.spec_records.specs.declared.pool.Waiting.{Waiting}
use Rattle.server_pool.specs.declared.facts.Match.{Match}
use Rattle.server_pool.specs.Stack.{pick_of, without_thread}

-- the threads in the order in which they parked, the items with the oldest first, and how many more of each take no memory
pub record PoolValue : Type 0 where
  pub parked : List Parked
  pub waiting : List Waiting
  pub thread_room : ℕ
  pub item_room : ℕ

abbrev pub empty_pool : PoolValue
empty_pool = record { parked = []; waiting = []; thread_room = 0; item_room = 0 }

-- other threads or items, in the memory that the pool has

abbrev pub with_parked : List Parked → PoolValue → PoolValue
with_parked parked pool = record pool { parked = parked; thread_room = (pool.thread_room + length pool.parked) - length parked }

abbrev pub with_waiting : List Waiting → PoolValue → PoolValue
with_waiting waiting pool = record pool { waiting = waiting; item_room = (pool.item_room + length pool.waiting) - length waiting }

-- the same threads and items, with room for so many more
abbrev pub with_room : ℕ → ℕ → PoolValue → PoolValue
with_room threads items pool = record pool { thread_room = threads; item_room = items }

-- waiting items

abbrev pub is_call : Item → Bool
is_call (Call c) = true
is_call (Notice n) = false

abbrev pub is_waiting_call : Waiting → Bool
is_waiting_call w = is_call w.item

abbrev pub count_calls : List Waiting → ℕ
count_calls waiting = count_by is_waiting_call waiting

abbrev pub is_item : Item → Item → Bool
is_item (Call c) (Call d) = c == d
is_item (Notice m) (Notice n) = m == n
is_item _ _ = false

abbrev pub is_waiting_as : Item → Waiting → Bool
is_waiting_as item w = is_item item w.item

abbrev pub is_waiting_otherwise : Item → Waiting → Bool
is_waiting_otherwise item w = not (is_waiting_as item w)

-- without every place of an item
abbrev pub without_item : Item → List Waiting → List Waiting
without_item item waiting = filter (is_waiting_otherwise item) waiting

-- at a door

abbrev pub is_waiting_at : ℕ → Waiting → Bool
is_waiting_at d w = w.door == d

abbrev pub is_waiting_elsewhere : ℕ → Waiting → Bool
is_waiting_elsewhere d w = not (is_waiting_at d w)

abbrev pub item_of : Waiting → Item
item_of w = w.item

-- the oldest first
abbrev pub items_at : ℕ → List Waiting → List Item
items_at d waiting = map item_of (filter (is_waiting_at d) waiting)

abbrev pub items_waiting_at : ℕ → List Waiting → ℕ
items_waiting_at d waiting = count_by (is_waiting_at d) waiting

abbrev pub without_door : ℕ → List Waiting → List Waiting
without_door d waiting = filter (is_waiting_elsewhere d) waiting

-- a call beyond those that may wait in a pool
abbrev pub is_call_too_many : Waiting → List Waiting → Bool
is_call_too_many w waiting = is_waiting_call w && nat_le QUEUE_MAX (count_calls waiting)

-- what becomes of a pool

-- a thread parks, on top of the others
abbrev pub park_in : Parked → PoolValue → PoolValue
park_in x pool = with_parked (pool.parked ++ x ∷ []) pool

abbrev pub unpark_in : ℕ → PoolValue → PoolValue
unpark_in t pool = with_parked (without_thread t pool.parked) pool

-- an item waits, behind the others
abbrev pub enqueue_in : Waiting → PoolValue → PoolValue
enqueue_in w pool = with_waiting (pool.waiting ++ w ∷ []) pool

abbrev pub withdraw_in : Item → PoolValue → PoolValue
withdraw_in item pool = with_waiting (without_item item pool.waiting) pool

-- what waits at a door leaves
abbrev pub drop_door_in : ℕ → PoolValue → PoolValue
drop_door_in d pool = with_waiting (without_door d pool.waiting) pool

-- all threads leave
abbrev pub drop_threads_in : PoolValue → PoolValue
drop_threads_in pool = with_parked [] pool

-- how much is in it
abbrev pub pool_size : PoolValue → ℕ
pool_size pool = length pool.parked + length pool.waiting

-- the thread on top and the oldest item leave
abbrev pub match_in : PoolValue → PoolValue
match_in pool = with_parked (take (length pool.parked - 1) pool.parked) (with_waiting (drop 1 pool.waiting) pool)

-- the oldest item, if one waits
abbrev pub next_of : List Waiting → Option Waiting
next_of waiting = slice_get waiting 0

abbrev pub match_of : Option Parked → Option Waiting → Option Match
match_of (Some x) (Some w) = Some (record { thread = x.thread; item = w.item })
match_of _ _ = None

-- the pick with the oldest item, where there are both
abbrev pub first_match : List Parked → List Waiting → Option Match
first_match parked waiting = match_of (pick_of parked) (next_of waiting)
