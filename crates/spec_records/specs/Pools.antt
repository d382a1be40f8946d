-- Server pools: which idle thread is picked, and what waits (door_create(3C), door_bind(3C); the order is this
-- project's profile).
use Rattle.std.specs.Prelude.{ℕ, List, [], ◌∷◌, Option, Bool, false, not, ◌==◌, ◌&&◌, if◌then◌else◌, Some, None, zero, suc, nat_le, map, filter, count_by, length}
use Rattle.dk_base.specs.ByNumber.{at_number, with_at_number}
use Rattle.dk_base.specs.declared.object.Item.TheVariants as item
use Rattle.spec_records.specs.declared.pool.Parked.{Parked}
use Rattle.spec_records.specs.declared.pool.Pool.{Pool}
use Rattle.spec_records.specs.declared.pool.Pool.TheVariants.{Common, Private}
use Rattle.spec_records.specs.declared.pool.Waiting.{Waiting}
use Rattle.spec_records.specs.declared.pool.TheConstants.{LOST_DOOR}
use Rattle.spec_records.specs.declared.record.Call.{Call}
use Rattle.spec_records.specs.declared.record.Door.{Door}
use Rattle.spec_records.specs.declared.record.Notice.{Notice}
use Rattle.spec_records.specs.declared.record.Thread.{Thread}
use Rattle.spec_records.specs.declared.record.ThreadState.{ThreadState}
use Rattle.spec_records.specs.declared.record.ThreadState.TheVariants as is
use Rattle.dk_base.specs.Numbers.{pid, tid}
use Rattle.spec_records.specs.ProcessTable.{ProcessTable, thread_at}
use Rattle.spec_records.specs.Calls.{is_queued, is_queued_call}
use Rattle.spec_records.specs.Doors.{is_private}
use Rattle.spec_records.specs.Notices.{is_waiting_notice}

-- pools

abbrev pub is_pool : Pool → Pool → Bool
is_pool (Common p) (Common q) = p.0 == q.0
is_pool (Private d) (Private e) = d == e
is_pool _ _ = false

abbrev pub pool_of_door : Door → Pool
pool_of_door d = if is_private d.attrs then Private d.number else Common d.owner

abbrev pub pool_in : Option Door → Pool
pool_in None = Common (pid 0)
pool_in (Some d) = pool_of_door d

-- idle threads: the door that a thread is bound to stands at the thread's place

abbrev pub bound_in : Option (Option ℕ) → Option ℕ
bound_in None = None
bound_in (Some b) = b

abbrev pub bound_at : List (Option ℕ) → ℕ → Option ℕ
bound_at bindings t = bound_in (at_number bindings t)

-- a thread is bound to a door, in place of the one that it was bound to
abbrev pub bind_thread : List (Option ℕ) → ℕ → ℕ → List (Option ℕ)
bind_thread bindings t d = with_at_number bindings t (Some d)

-- it is bound to none
abbrev pub unbind_thread : List (Option ℕ) → ℕ → List (Option ℕ)
unbind_thread bindings t = with_at_number bindings t None

-- it is bound to the door that is lost
abbrev pub bind_lost : List (Option ℕ) → ℕ → List (Option ℕ)
bind_lost bindings t = bind_thread bindings t LOST_DOOR

-- a thread is bound to a door that is there
abbrev pub is_bound_to_some : Option ℕ → Bool
is_bound_to_some None = false
is_bound_to_some (Some d) = not (d == LOST_DOOR)

abbrev pub pool_of_thread : Thread → Option ℕ → Pool
pool_of_thread x None = Common x.process
pool_of_thread x (Some d) = Private d

abbrev pub parked_in : ℕ → Pool → ThreadState → Option Parked
parked_in t pool (is.Idle since) = Some (record { thread = tid t; pool = pool; since = since })
parked_in t pool _ = None

abbrev pub parked_thread : List (Option ℕ) → ℕ → Option Thread → Option Parked
parked_thread bindings t None = None
parked_thread bindings t (Some x) = parked_in t (pool_of_thread x (bound_at bindings t)) x.state

abbrev pub parked_at : ProcessTable → List (Option ℕ) → ℕ → Option Parked
parked_at table bindings t = parked_thread bindings t (thread_at table t)

-- of two parked threads the one that parked later; where both parked at one event, the second
abbrev pub later_parked : Option Parked → Parked → Option Parked
later_parked None x = Some x
later_parked (Some best) x = if nat_le best.since x.since then Some x else Some best

abbrev pub better_parked : Pool → Option Parked → Option Parked → Option Parked
better_parked pool best None = best
better_parked pool best (Some x) = if is_pool pool x.pool then later_parked best x else best

-- the best of the threads 1 to n
abbrev pub pick_among : ProcessTable → List (Option ℕ) → Pool → ℕ → Option Parked
pick_among table bindings pool zero = None
pick_among table bindings pool (suc n) = better_parked pool (pick_among table bindings pool n) (parked_at table bindings (suc n))

-- the pool's thread that parked last; of several that parked at one event, the one with the greatest number
abbrev pub pick_parked : ProcessTable → List (Option ℕ) → Pool → Option Parked
pick_parked table bindings pool = pick_among table bindings pool (length table.threads)

-- what waits for a thread

abbrev pub waiting_call : Call → Waiting
waiting_call r = record { item = item.Call r.number; made = r.made; door = r.door }

abbrev pub waiting_notice : Notice → Waiting
waiting_notice n = record { item = item.Notice n.number; made = n.made; door = n.door }

-- a notice stands after everything that was made before it or at the same event
abbrev pub with_notice : List Waiting → Waiting → List Waiting
with_notice [] n = n ∷ []
with_notice (w ∷ ws) n = if nat_le w.made n.made then w ∷ with_notice ws n else n ∷ w ∷ ws

abbrev pub with_notices : List Waiting → List Waiting → List Waiting
with_notices ws [] = ws
with_notices ws (n ∷ ns) = with_notices (with_notice ws n) ns

-- What waits, the oldest first; at one event a call comes before notices. Calls and notices are listed as they were
-- made, the notices of one event by their doors.
abbrev pub items_in_order : List Call → List Notice → List Waiting
items_in_order calls notices = with_notices (map waiting_call (filter is_queued_call calls)) (map waiting_notice (filter is_waiting_notice notices))

abbrev pub is_queued_in : List Door → Pool → Call → Bool
is_queued_in doors pool r = is_queued r.stage && is_pool pool (pool_in (at_number doors r.door))

-- how many of these calls wait in a pool
abbrev pub queue_length : List Door → List Call → Pool → ℕ
queue_length doors calls pool = count_by (is_queued_in doors pool) calls
