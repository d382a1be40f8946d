-- What a store holds, by the values of its parts, and the written state that this is.
use Rattle.std.specs.Prelude.{ℕ, ◌≡◌, ◌+◌, ◌<◌, ◌≤◌, ◌==◌, ◌&&◌, Bool, List, None, Option, Some, count_by, false, is_some, length, min, slice_get, true, []}
use Rattle.dk_base.specs.ByNumber.{at_number}
use Rattle.dk_base.specs.Words.{RoomValue}
use Rattle.spec_kernel.specs.Types.{Call, Door, Notice, Obj, Pool}
use Rattle.spec_records.specs.Words.{Pipe, ProcessTable, count_object, is_pool, is_queued, is_valid_in, is_waiting_stage, notice_doors}
use Rattle.spec_kernel.specs.Words.{State, door_of, may_have_notice, pool_of, reference_count}
use Rattle.spec_kernel.specs.Words.{references_of as object_count}
use Rattle.name_space.specs.Words.{HasRoomForName, NameTable}
use Rattle.server_pool.specs.Words.{PoolsValue, item_room_in, pool_at, thread_room_in}
use Rattle.call_tree.specs.Words.{CallsValue, HasRoomForCall}
use Rattle.event_port.specs.Words.{PortsValue}
use Rattle.port_assoc.specs.Words.{AssocsValue}
use Rattle.timer_src.specs.Words.{TimersValue}
use Rattle.unref_notice.specs.Words.{NoticesValue, ObjectCounts, count_of, was_shared}
use Rattle.dk_base.specs.declared.limits.TheConstants.{PASS_MAX}
use Rattle.dk_base.specs.declared.object.Obj.TheVariants as obj
use Rattle.kernel_holdings.specs.Words.{HoldingsValue, references_of}
use Rattle.unref_notice.specs.declared.counts.TheConstants.{STEP_MAX}
use Rattle.unref_notice.specs.declared.notices.TheConstants.{NOTICES_MAX}
use Rattle.law_pools.specs.Words.{Agrees, HasPlaces}
use Rattle.kernel_store.specs.Noticing.{HaveItemRoomBut}

pub record StoreValue : Type 0 where
  pub processes : ProcessTable
  pub pools : PoolsValue
  pub tables : List (List (Option Obj))
  pub names : NameTable
  pub doors : RoomValue Door
  -- the calls that are live
  pub calls : CallsValue
  -- the notices but for those that are past and that no rule asks for again
  pub notices : NoticesValue
  pub events : ℕ
  -- no thread parked, and no call or notice was made, after this event
  pub latest : ℕ
  -- how many references each object had when the step began, and how often one may yet come or go in this step
  pub opening : ObjectCounts
  pub left : ℕ
  -- how many more pools take no memory in the list of those that may be short of room for notices
  pub short_room : ℕ
  -- with room for further pipes, ports, events, associations and timers
  pub pipes : RoomValue Pipe
  pub ports : PortsValue
  pub assocs : AssocsValue
  pub timers : TimersValue

abbrev pub stored_state : StoreValue → State
stored_state store =
    record {
      process_table = store.processes;
      bindings = store.pools.bindings;
      tables = store.tables;
      names = store.names.names;
      doors = store.doors.items;
      call_tree = store.calls.tree;
      notice_list = store.notices.list;
      channels = record { pipes = store.pipes.items; ports = store.ports.ports; associations = store.assocs.list; timers = store.timers.list };
      events = store.events;
    }

-- the pools hold what the threads, doors, calls and notices say
abbrev pub IsAgreed : StoreValue → Type 0
IsAgreed store = Agrees store.latest store.processes store.doors.items store.calls.tree store.notices.list store.pools

-- the processes, doors and calls that threads, bindings, calls and notices name are there
abbrev pub ArePlaced : State → Type 0
ArePlaced m = HasPlaces m.process_table m.bindings m.doors m.call_tree.calls m.notice_list.notices

-- what waits does so at valid doors
pub record WaitAtValidDoors (m : State) : Type 0 where
  pub calls : (i : ℕ) (r : Call) → slice_get m.call_tree.calls i ≡ Some r → is_queued r.stage ≡ true → is_valid_in (at_number m.doors r.door) ≡ true
  pub notices : (i : ℕ) (n : Notice) → slice_get m.notice_list.notices i ≡ Some n → is_waiting_stage n.stage ≡ true → is_valid_in (at_number m.doors n.door) ≡ true

-- memory

-- as many references may come or go in this step as a call has objects
abbrev pub HasRoomForReferences : StoreValue → Type 0
HasRoomForReferences store = PASS_MAX ≤ store.left

-- the doors among these objects are there
abbrev pub AreThere : List Door → List Obj → Type 0
AreThere doors objects = (d : ℕ) → at_number doors d ≡ None → count_object (obj.Door d) objects ≡ 0

-- and so are those that anything refers to
abbrev pub ReferToDoors : List Door → HoldingsValue → Type 0
ReferToDoors doors held = (d : ℕ) → at_number doors d ≡ None → references_of held (obj.Door d) ≡ 0

-- these objects get descriptors, or a name, without memory
pub record CanHold (store : StoreValue) (objects : List Obj) : Type 0 where
  pub there : AreThere store.doors.items objects
  pub room : length objects ≤ store.left

-- another door can be made, and its pool listed as short of room
pub record HasRoomForDoor (store : StoreValue) : Type 0 where
  pub doors : 0 < store.doors.spare
  pub pools : 0 < store.pools.door_room
  pub short : 0 < store.short_room

-- another name
pub record HasRoomToAttach (store : StoreValue) : Type 0 where
  pub names : HasRoomForName store.names
  pub references : HasRoomForReferences store

-- as many as in any step
abbrev pub HasWholeStep : StoreValue → Type 0
HasWholeStep store = STEP_MAX ≤ store.left

-- another name, door and call, another thread and another item in this pool; an act that makes a call makes no door, so the pool of either
-- is listed in the same place
pub record HasRoom (store : StoreValue) (touched : Pool) : Type 0 where
  pub names : HasRoomForName store.names
  pub door : HasRoomForDoor store
  pub calls : HasRoomForCall store.calls
  pub threads : is_some (pool_at store.pools touched) ≡ true → 0 < thread_room_in store.pools touched
  pub items : is_some (pool_at store.pools touched) ≡ true → 0 < item_room_in store.pools touched

-- Notices that an event may make, each of one of these doors: they can be numbered, and their records and their places in the queues
-- that are there take no memory.

-- how many of these doors a pool serves
abbrev pub count_served : State → Pool → List ℕ → ℕ
count_served m pool ds = count_by (λ d. is_pool pool (pool_of m d)) ds

pub record CanMake (store : StoreValue) (ds : List ℕ) : Type 0 where
  pub records : length ds ≤ store.notices.spare
  pub numbers : store.notices.list.made + length ds ≤ NOTICES_MAX
  pub short : length ds ≤ store.short_room
  pub items :
      (pool : Pool) → is_some (pool_at store.pools pool) ≡ true → count_served (stored_state store) pool ds ≤ item_room_in store.pools pool

-- before the act of the event, which may take the place of one item: room for as many as can be made, whichever the doors are
pub record HasRoomForNotices (store : StoreValue) : Type 0 where
  pub records : min (length (notice_doors store.doors.items)) STEP_MAX ≤ store.notices.spare
  pub numbers : store.notices.list.made + STEP_MAX ≤ NOTICES_MAX
  pub short : STEP_MAX < store.short_room
  pub items : HaveItemRoomBut [] store.pools

-- the step of an event began in this state: `opening` has the counts of its references
pub record HasBegun (store : StoreValue) (m : State) : Type 0 where
  pub counts : (d : ℕ) → count_of store.opening (obj.Door d) ≡ reference_count m d
  pub all : (o : Obj) → count_of store.opening o ≡ object_count m o
  pub none : (d : ℕ) → door_of m d ≡ None → count_of store.opening (obj.Door d) ≡ 0

-- a door had more than one reference when the step began, and has one in this state
abbrev pub has_fallen_since : ObjectCounts → State → ℕ → Bool
has_fallen_since opening m d = was_shared opening d && (reference_count m d == 1)

-- another notice can be made of the door of a number, if it is there
abbrev pub may_have_notice_in : State → ℕ → Option Door → Bool
may_have_notice_in m d None = false
may_have_notice_in m d (Some x) = may_have_notice m d x
