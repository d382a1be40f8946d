-- What server pools hold, and what the records of threads, doors, calls and notices say of it. The pools are redundant: each is found
-- by a search of the records, which the pools save.
use Rattle.std.specs.Prelude.{ℕ, ◌≡◌, ◌≤◌, ◌++◌, ◌==◌, ◌&&◌, ◌||◌, not, nat_lt, List, [], ◌∷◌, Option, Bool, false, true, Some, None, filter, if◌then◌else◌, is_some, length, map, slice_get, suc, zero}
use Rattle.std.specs.List.{AllByRecursion}
use Rattle.dk_base.specs.ByNumber.{at_number}
use Rattle.spec_kernel.specs.Types.{Call, Door, Notice, Parked, Pool, Thread, Waiting}
use Rattle.dk_base.specs.declared.number.Tid.{Tid}
use Rattle.spec_records.specs.declared.pool.TheConstants.{LOST_DOOR}
use Rattle.spec_records.specs.declared.record.CallStage.TheVariants as stage
use Rattle.spec_records.specs.Words.{CallTree, IsAscending, NoticeList, ProcessTable, bound_at, call_number, is_kept_notice, is_owned_by, is_pool, is_private_in, is_queued, is_queued_in, is_spare_of, is_valid_door, is_waiting_stage, notice_number, parked_at, pool_in, process_in, thread_at, waiting_call, waiting_notice}
use Rattle.server_pool.specs.Words.{IsOrderedBy, IsStack, PoolsValue, is_waiting_call, queue_in, spares_of, stack_in}

-- parked threads

-- a thread stands in a list
pub record IsListed (stack : List Parked) (x : Parked) : Type 0 where
  pub place : ℕ
  pub there : slice_get stack place ≡ Some x

-- the records say that x is parked in this pool, since no event after `latest`
pub record IsParkedIn (table : ProcessTable) (bindings : List (Option ℕ)) (latest : ℕ) (pool : Pool) (x : Parked) : Type 0 where
  pub parked : parked_at table bindings x.thread.0 ≡ Some x
  pub same_pool : is_pool pool x.pool ≡ true
  pub since : x.since ≤ latest

-- the threads of a stack are those that the records have in its pool, in the order in which they parked
pub record IsStackOf (table : ProcessTable) (bindings : List (Option ℕ)) (latest : ℕ) (pool : Pool) (stack : List Parked) : Type 0 where
  pub parked : (i : ℕ) (x : Parked) → slice_get stack i ≡ Some x → IsParkedIn table bindings latest pool x
  pub all : (t : ℕ) (x : Parked) → parked_at table bindings t ≡ Some x → is_pool pool x.pool ≡ true → IsListed stack x
  pub in_order : IsStack stack

-- waiting calls

-- those that wait in a pool, the oldest first
abbrev pub waiting_in : List Door → List Call → Pool → List Waiting
waiting_in doors calls pool = map waiting_call (filter (is_queued_in doors pool) calls)

-- the same of notices

abbrev pub is_waiting_notice_in : List Door → Pool → Notice → Bool
is_waiting_notice_in doors pool n = is_waiting_stage n.stage && is_pool pool (pool_in (at_number doors n.door))

abbrev pub notices_waiting_in : List Door → List Notice → Pool → List Waiting
notices_waiting_in doors notices pool = map waiting_notice (filter (is_waiting_notice_in doors pool) notices)

-- none is past that no rule asks for again
abbrev pub AreKept : List Door → List Notice → Type 0
AreKept doors notices = AllByRecursion (λ n. is_kept_notice doors n ≡ true) notices

-- each was made no earlier than the one before it, and none after an event

abbrev pub AreDated : ℕ → ℕ → List ℕ → Type 0
AreDated low latest [] = Unit {0}
AreDated low latest (k ∷ ks) = (low ≤ k) × (k ≤ latest) × AreDated k latest ks

abbrev pub date_of_call : Call → ℕ
date_of_call r = r.made

abbrev pub date_of_notice : Notice → ℕ
date_of_notice n = n.made

-- queues: what waits in one stands there in the order in which it was made, and of one event calls come before notices

abbrev pub is_notice_waiting : Waiting → Bool
is_notice_waiting w = not (is_waiting_call w)

abbrev pub waits_before : Waiting → Waiting → Bool
waits_before w v = nat_lt w.made v.made || ((w.made == v.made) && (is_waiting_call w || is_notice_waiting v))

abbrev pub WaitsBefore : Waiting → Waiting → Type 0
WaitsBefore w v = waits_before w v ≡ true

abbrev pub IsQueue : List Waiting → Type 0
IsQueue = IsOrderedBy WaitsBefore

-- a queue is of the calls and the notices that the records have in its pool
pub record IsQueueOf (doors : List Door) (calls : List Call) (notices : List Notice) (pool : Pool) (queue : List Waiting) : Type 0 where
  pub calls_wait : filter is_waiting_call queue ≡ waiting_in doors calls pool
  pub notices_wait : filter is_notice_waiting queue ≡ notices_waiting_in doors notices pool
  pub in_order : IsQueue queue

-- spare threads that were not started

abbrev pub spare_in : ℕ → ℕ → Option Thread → List ℕ
spare_in p t None = []
spare_in p t (Some x) = if is_spare_of p x then t ∷ [] else []

abbrev pub spare_at : ProcessTable → ℕ → ℕ → List ℕ
spare_at table p t = spare_in p t (thread_at table t)

-- those of a process among the threads 1 to n, the lowest first
abbrev pub spares_among : ProcessTable → ℕ → ℕ → List ℕ
spares_among table p zero = []
spares_among table p (suc n) = spares_among table p n ++ spare_at table p (suc n)

-- the pools hold what the records say, where no thread parked and no call or notice was made after the event `latest`
pub record Agrees (latest : ℕ) (table : ProcessTable) (doors : List Door) (tree : CallTree) (list : NoticeList) (pools : PoolsValue) : Type 0 where
  pub stacks : (pool : Pool) → IsStackOf table pools.bindings latest pool (stack_in pools pool)
  pub queues : (pool : Pool) → IsQueueOf doors tree.calls list.notices pool (queue_in pools pool)
  pub spares : (p : ℕ) → spares_of pools p ≡ spares_among table p (length table.threads)
  -- the numbers of calls and notices go up, and are none above those that were made
  pub calls : IsAscending call_number 0 tree.made tree.calls
  pub call_dates : AreDated 0 latest (map date_of_call tree.calls)
  pub notices : IsAscending notice_number 0 list.made list.notices
  pub notice_dates : AreDated 0 latest (map date_of_notice list.notices)
  pub kept : AreKept doors list.notices
  -- there is a pool for each process, and one for each door
  pub common : length pools.common ≡ length table.processes
  pub spare_lists : length pools.spares ≡ length table.processes
  pub private : length pools.private ≡ length doors

-- What the invariant says of the records, as far as pools need it: threads and doors have the numbers of their places; the
-- processes of threads and of valid doors, the doors to which threads are bound, but for the one that is lost, and those of waiting
-- calls and of notices are there. A thread that was given a call is not bound to the lost door.
pub record HasPlaces (table : ProcessTable) (bindings : List (Option ℕ)) (doors : List Door) (calls : List Call) (notices : List Notice) : Type 0 where
  pub thread_number : (t : ℕ) (x : Thread) → thread_at table t ≡ Some x → x.number ≡ t
  pub process_there : (t : ℕ) (x : Thread) → thread_at table t ≡ Some x → is_some (at_number table.processes x.process.0) ≡ true
  pub owner_there :
      (d : ℕ) (x : Door) → at_number doors d ≡ Some x → is_valid_door x ≡ true → is_some (at_number table.processes x.owner.0) ≡ true
  pub door_number : (d : ℕ) (x : Door) → at_number doors d ≡ Some x → x.number ≡ d
  pub bound_private : (t d : ℕ) → bound_at bindings t ≡ Some d → (d == LOST_DOOR) ≡ false → is_private_in (at_number doors d) ≡ true
  pub bound_own :
      (t d : ℕ) → bound_at bindings t ≡ Some d → (d == LOST_DOOR) ≡ false → is_owned_by (process_in (thread_at table t)) (at_number doors d) ≡ true
  pub given_not_lost : (i : ℕ) (r : Call) (u : Tid) → slice_get calls i ≡ Some r → r.stage ≡ stage.Given u → bound_at bindings u.0 ≡ Some LOST_DOOR → ⊥
  pub queued_door : (i : ℕ) (r : Call) → slice_get calls i ≡ Some r → is_queued r.stage ≡ true → is_some (at_number doors r.door) ≡ true
  pub notice_door : (i : ℕ) (n : Notice) → slice_get notices i ≡ Some n → is_some (at_number doors n.door) ≡ true
