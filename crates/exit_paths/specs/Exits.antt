-- What an exit path leaves of processes, calls and pools, where callers are interrupted, threads end and doors are lost; what it needs;
-- and what it tells.
use Rattle.std.specs.Prelude.{ℕ, ◌≡◌, ◌+◌, ◌<◌, ◌≤◌, ◌&&◌, Bool, not, List, Option, Some, count_by, find, flat_map, is_some, length, map, slice_get}
use Rattle.std.specs.List.{AllByRecursion, list_any}
use Rattle.dk_base.specs.declared.number.Tid.{Tid}
use Rattle.dk_base.specs.declared.limits.TheConstants.{THREADS_MAX}
use Rattle.dk_base.specs.declared.object.Item.TheVariants as item
use Rattle.spec_records.specs.Words.{CallTree, Leaving, NoticeList, ProcessTable, is_idle, is_pool, is_waiting_stage, kept_notices, left_calls, left_notices, left_threads, live_calls, numbers_where, parked_at, state_in, thread_at, tid}
use Rattle.spec_kernel.specs.Types.{Call, Door, Item, Notice, Obj, Parked, Pool}
use Rattle.spec_kernel.specs.Words.{objects_in_call}
use Rattle.server_pool.specs.Words.{PoolsValue, is_item, is_waiting_at, item_room_in, queue_in, thread_room_in}
use Rattle.call_tree.specs.Words.{CallsValue, is_ready_of}
use Rattle.law_pools.specs.Words.{Agrees, HasPlaces}
use Rattle.exit_paths.specs.Pools.{HasNoLessRoom, HoldsSame, own_pool_in}
use Rattle.exit_paths.specs.Queues.{dropped_items}
use Rattle.exit_paths.specs.Together.{AreTogether}
use Rattle.exit_paths.specs.declared.left.Left.{Left}

pub record Kept : Type 0 where
  pub procs : ProcessTable
  pub calls : CallsValue
  pub pools : PoolsValue

-- What is asked of them: pools hold what threads, doors, calls and notices say, processes and doors are where threads, bindings and
-- calls say, and no thread parked at this event or a later one.
pub record CanExit (now : ℕ) (doors : List Door) (k : Kept) : Type 0 where
  pub list : NoticeList
  pub agreed : Agrees now k.procs doors k.calls.tree list k.pools
  pub placed : HasPlaces k.procs k.pools.bindings doors k.calls.tree.calls list.notices
  pub earlier : (t : ℕ) (x : Parked) → parked_at k.procs k.pools.bindings t ≡ Some x → x.since < now

-- what is told

-- the objects that are in transit with calls
abbrev pub transit : List Call → List Obj
transit calls = flat_map objects_in_call calls

-- each object leaves transit as often as it is told
pub record DropsTransit (before after : List Call) (dropped : List Obj) : Type 0 where
  pub counts : (p : Obj → Bool) → count_by p (transit before) ≡ count_by p (transit after) + count_by p dropped
  pub in_all : length (transit before) ≡ length (transit after) + length dropped

-- threads that meet a test, in order of number
abbrev pub threads_where : (ℕ → Bool) → List Tid
threads_where test = map tid (numbers_where test THREADS_MAX)

abbrev pub is_idle_at : ProcessTable → ℕ → Bool
is_idle_at table t = is_idle (state_in (thread_at table t))

abbrev pub became_idle : ProcessTable → ProcessTable → ℕ → Bool
became_idle before after t = not (is_idle_at before t) && is_idle_at after t

-- whether a thread's pool is this one
abbrev pub parks_in : ProcessTable → List (Option ℕ) → Pool → Tid → Bool
parks_in table bindings pool t = is_pool pool (own_pool_in table bindings t.0)

-- a thread's call was returned or has ended
abbrev pub has_ready : CallTree → ℕ → Bool
has_ready tree t = is_some (find (is_ready_of t) tree.calls)

abbrev pub became_ready : CallTree → CallTree → ℕ → Bool
became_ready before after t = not (has_ready before t) && has_ready after t

-- what waits in any pool is at a door that is lost exactly where the door is listed
abbrev pub AreLost : Leaving → List ℕ → PoolsValue → Type 0
AreLost who lost pools = (pool : Pool) → AllByRecursion (λ w. list_any (λ d. is_waiting_at d w) lost ≡ who.loses w.door) (queue_in pools pool)

-- by their records, those notices are told that waited at a door that is lost
abbrev pub TellsUntaken : Leaving → List Notice → List Item → Type 0
TellsUntaken who notices untaken =
    (i : ℕ) (n : Notice) → slice_get notices i ≡ Some n →
    list_any (is_item (item.Notice n.number)) untaken ≡ (is_waiting_stage n.stage && who.loses n.door)

-- All that waited at a door that is lost, each once, in the order in which it left its queue: door after door, and of one door the
-- oldest first. Where no door is lost that is nothing.
pub record IsUntaken (who : Leaving) (doors : List Door) (pools : PoolsValue) (untaken : List Item) : Type 0 where
  pub lost : List ℕ
  pub those : AreLost who lost pools
  pub told : untaken ≡ dropped_items doors lost pools

-- want of memory: all is as before, in whatever room
pub record IsAsBefore (before after : Kept) : Type 0 where
  pub procs : after.procs ≡ before.procs
  pub calls : after.calls ≡ before.calls
  pub pools : HoldsSame before.pools after.pools
  pub room : HasNoLessRoom before.pools after.pools

-- they left
pub record HasExited (who : Leaving) (now : ℕ) (doors : List Door) (before after : Kept) (left : Left) : Type 0 where
  pub threads : after.procs ≡ left_threads who now before.calls.tree.calls before.procs
  pub calls : after.calls.tree ≡ live_calls (left_calls who before.calls.tree)
  -- pools hold what these say
  pub agreed :
      (list : NoticeList) → Agrees now before.procs doors before.calls.tree list before.pools →
      Agrees now after.procs doors after.calls.tree (kept_notices doors (left_notices who list)) after.pools
  pub bindings : after.pools.bindings ≡ before.pools.bindings
  -- and threads and calls say the same of each other as before
  pub together : AreTogether before.procs before.calls.tree → AreTogether after.procs after.calls.tree
  pub dropped : DropsTransit before.calls.tree.calls after.calls.tree.calls left.dropped
  pub parked : left.parked ≡ threads_where (became_idle before.procs after.procs)
  pub woken : left.woken ≡ threads_where (became_ready before.calls.tree after.calls.tree)
  pub untaken :
      (list : NoticeList) → Agrees now before.procs doors before.calls.tree list before.pools → TellsUntaken who list.notices left.untaken
  pub all_untaken : IsUntaken who doors before.pools left.untaken
  -- room
  pub spare : before.calls.spare ≤ after.calls.spare
  pub items : (pool : Pool) → item_room_in before.pools pool ≤ item_room_in after.pools pool
  pub door_room : before.pools.door_room ≤ after.pools.door_room
  -- a thread that became Idle has taken one place in its own pool, and none else has
  pub threads_room :
      (pool : Pool) → thread_room_in before.pools pool ≤ thread_room_in after.pools pool + count_by (parks_in after.procs after.pools.bindings pool) left.parked
