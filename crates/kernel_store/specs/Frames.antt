-- What an act needs of a store before it, and what it keeps beside the state that it makes.
use Rattle.std.specs.Prelude.{ℕ, ◌≡◌, ◌⊎◌, ◌+◌, ◌<◌, ◌≤◌, ◌||◌, Bool, List, [], Some, false, is_some, slice_get, true}
use Rattle.std.specs.List.{list_any}
use Rattle.dk_base.specs.Words.{RoomValue}
use Rattle.dk_base.specs.declared.limits.TheConstants.{EVENTS_MAX}
use Rattle.dk_base.specs.ByNumber.{at_number}
use Rattle.spec_records.specs.declared.leaving.Leaver.{Leaver}
use Rattle.spec_records.specs.declared.leaving.Leaver.TheVariants.{EndedProcess}
use Rattle.spec_records.specs.Words.{is_done, is_dormant, is_idle, is_pool, valid_doors_of}
use Rattle.spec_kernel.specs.Types.{Parked, Pool, ThreadState}
use Rattle.spec_kernel.specs.Words.{State, has_lost_door, now, pool_of, state_of}
use Rattle.law_calls.specs.Words.{is_calling, is_given_item}
use Rattle.server_pool.specs.Words.{PoolsValue, item_room_in, queue_in, stack_in}
use Rattle.law_pools.specs.Words.{IsGivenOut, IsGivenOutBut, own_pool}
use Rattle.dk_base.specs.declared.thread_set.ThreadSet.{ThreadSet}
use Rattle.dk_base.specs.Words.{has}
use Rattle.kernel_store.specs.Held.{AreHeld}
use Rattle.kernel_store.specs.Stored.{ArePlaced, HasRoom, HasWholeStep, StoreValue, WaitAtValidDoors, stored_state}

-- an empty list with room for n items
pub record IsRoomFor {X : Type 0} (n : ℕ) (list : RoomValue X) : Type 0 where
  pub empty : list.items ≡ []
  pub spare : n ≤ list.spare

-- a thread in this state is neither parked, nor over, nor a spare that was not started: no pool has it; and it has been given no item,
-- and waits in no call
pub record IsActive (s : ThreadState) : Type 0 where
  pub not_done : is_done s ≡ false
  pub not_idle : is_idle s ≡ false
  pub not_dormant : is_dormant s ≡ false
  pub not_given : is_given_item s ≡ false
  pub not_calling : is_calling s ≡ false

-- the pools of a store

-- in no pool something waits where a thread is parked
abbrev pub AllIsGivenOut : StoreValue → Type 0
AllIsGivenOut store = IsGivenOut store.pools

-- no thread parked, and no call or notice was made, after this event
abbrev pub NothingAfter : ℕ → StoreValue → Type 0
NothingAfter n store = store.latest ≤ n

-- both, which hold between event n and the next one
pub record IsAtRest (n : ℕ) (store : StoreValue) : Type 0 where
  pub given_out : AllIsGivenOut store
  pub latest : NothingAfter n store

-- before an act: the next event can be numbered, the processes, doors and calls that other records name are there, and nothing is later
-- than the last event

-- an act that puts something into one pool at most
pub record CanAct (touched : Pool) (store : StoreValue) : Type 0 where
  pub few : store.events < EVENTS_MAX
  pub placed : ArePlaced (stored_state store)
  pub latest : NothingAfter store.events store
  pub room : HasRoom store touched

-- an act by which callers, threads or doors leave
pub record CanLeave (store : StoreValue) : Type 0 where
  pub few : store.events < EVENTS_MAX
  pub placed : ArePlaced (stored_state store)
  pub latest : NothingAfter store.events store
  pub waiting : WaitAtValidDoors (stored_state store)
  pub held : AreHeld (stored_state store)
  pub references : HasWholeStep store

-- a process that ends is there
abbrev pub IsDeclared : Leaver → State → Type 0
IsDeclared (EndedProcess p) m = is_some (at_number m.process_table.processes p.0) ≡ true
IsDeclared _ m = Unit {0}

-- these are its valid doors
abbrev pub AreItsDoors : Leaver → State → List ℕ → Type 0
AreItsDoors (EndedProcess p) m lost = lost ≡ valid_doors_of p.0 m.doors
AreItsDoors _ m lost = Unit {0}

-- after the act of an event, which is not yet counted

-- notices can be made
pub record IsInEvent (store : StoreValue) : Type 0 where
  pub few : store.events < EVENTS_MAX
  pub placed : ArePlaced (stored_state store)
  pub latest : NothingAfter (now (stored_state store)) store

-- these threads alone are parked in a pool, or no item waits there
abbrev pub AreIn : ThreadSet → List Parked → Type 0
AreIn set stack = (i : ℕ) (x : Parked) → slice_get stack i ≡ Some x → has set x.thread.0 ≡ true

abbrev pub IsGivenOutToOthers : ThreadSet → PoolsValue → Pool → Type 0
IsGivenOutToOthers set pools pool = AreIn set (stack_in pools pool) ⊎ (queue_in pools pool ≡ [])

-- a pool serves one of these doors
abbrev pub serves_any : State → List ℕ → Pool → Bool
serves_any m ds pool = list_any (λ d. is_pool (pool_of m d) pool) ds

-- idle threads that lost their doors park in this pool, or are of a set
abbrev pub LoseDoorsIn : Pool → ThreadSet → State → Type 0
LoseDoorsIn touched parked m = (t : ℕ) → has_lost_door m t ≡ true → (is_pool touched (own_pool m t) || has parked t) ≡ true

-- where an act touched this pool, these threads parked again by it since their callers left, and notices were made of some of these
-- doors: but for the pool and those of the doors, in no pool another thread is parked while something waits
pub record CanSettle (touched : Pool) (parked : ThreadSet) (ds : List ℕ) (store : StoreValue) : Type 0 where
  pub given_out :
      (pool : Pool) → is_pool touched pool ≡ false → serves_any (stored_state store) ds pool ≡ false → IsGivenOutToOthers parked store.pools pool
  pub lost : LoseDoorsIn touched parked (stored_state store)

-- What an act keeps, each weaker than the one before, but for the last, which has the third in it. `opening` has the counts at the
-- beginning of its step; the rooms are those for notices.

-- the pools stand as they were
pub record KeepsPools (before after : StoreValue) : Type 0 where
  pub pools : after.pools ≡ before.pools
  pub latest : after.latest ≡ before.latest
  pub opening : after.opening ≡ before.opening
  pub notice_room : before.notices.spare ≤ after.notices.spare
  pub short_room : after.short_room ≡ before.short_room

-- neither a thread nor an item is put into a pool, and at most one pool is made
pub record FillsNoPool (before after : StoreValue) : Type 0 where
  pub given_out : AllIsGivenOut before → AllIsGivenOut after
  pub latest : after.latest ≡ before.latest
  pub opening : after.opening ≡ before.opening
  pub notice_room : before.notices.spare ≤ after.notices.spare
  pub short_room : before.short_room ≤ after.short_room + 1
  pub items : (pool : Pool) → item_room_in before.pools pool ≤ item_room_in after.pools pool

-- what every act keeps for the notices that are made after it: it puts at most one item into each pool, and lists at most one pool as
-- short of room
pub record KeepsForNotices (before after : StoreValue) : Type 0 where
  pub latest : NothingAfter (now (stored_state before)) after
  pub opening : after.opening ≡ before.opening
  pub notice_room : before.notices.spare ≤ after.notices.spare
  pub short_room : before.short_room ≤ after.short_room + 1
  pub items : (pool : Pool) → item_room_in before.pools pool ≤ item_room_in after.pools pool + 1

-- the same of an act that puts a thread or an item into this pool alone
pub record FillsOnePool (touched : Pool) (before after : StoreValue) : Type 0 where
  pub kept : KeepsForNotices before after
  pub given_out : AllIsGivenOut before → IsGivenOutBut touched after.pools

-- what an act keeps by which callers, threads or doors leave: the threads that park again are of this set, and no others are parked where
-- something waits
pub record ParksAgain (parked : ThreadSet) (before after : StoreValue) : Type 0 where
  pub idle :
      (t : ℕ) → is_idle (state_of (stored_state before) t) ≡ false → is_idle (state_of (stored_state after) t) ≡ true → has parked t ≡ true
  pub given_out : AllIsGivenOut before → (pool : Pool) → IsGivenOutToOthers parked after.pools pool

-- no item is put into a pool
abbrev pub FillsNoQueue : StoreValue → StoreValue → Type 0
FillsNoQueue before after = (pool : Pool) → item_room_in before.pools pool ≤ item_room_in after.pools pool
