-- What follows each act, from the states before and after it. There are five rules, in this order: unreferenced notices are
-- made; idle threads whose door is not valid wake with EINVAL, and then what waits is given to the others; spare threads start;
-- associations whose row is closed end, and timers whose process has ended; and associations whose pipe got ready fire.
use Rattle.std.specs.Prelude.{ℕ, ◌&&◌, ◌||◌, List, [], ◌∷◌, Option, Bool, false, true, if◌then◌else◌, not, Some, None, is_none, is_some, length, suc, zero}
use Rattle.spec_kernel.specs.Types.{Item, Parked, Waiting}
use Rattle.dk_base.specs.declared.object.Item.TheVariants as item
use Rattle.spec_records.specs.declared.pool.Pool.TheVariants.{Common}
use Rattle.spec_records.specs.declared.record.ThreadState.TheVariants as is
use Rattle.spec_records.specs.Words.{give_call, give_notice, give_thread, has_common_door, is_idle, pid, set_thread_state, start_spare, unbind_thread}
use Rattle.spec_kernel.specs.Notices.{make_notices}
use Rattle.spec_kernel.specs.Telling.{tell}
use Rattle.spec_kernel.specs.State.{State, has_invalid_door, pick, pool_of, state_of, waiting_items}

-- An idle thread that is bound to a door that is not valid has nothing to wait for: it is unbound, and wakes with EINVAL.

abbrev pub has_lost_door : State → ℕ → Bool
has_lost_door m t = is_idle (state_of m t) && has_invalid_door m t

abbrev pub fail_return : State → ℕ → State
fail_return m t =
    record m { process_table = set_thread_state m.process_table t is.FailedReturn; bindings = unbind_thread m.bindings t }

abbrev pub fail_one : State → ℕ → State
fail_one m t = if has_lost_door m t then fail_return m t else m

-- of the threads 1 to n
abbrev pub fail_each : State → ℕ → State
fail_each m zero = m
fail_each m (suc n) = fail_one (fail_each m n) (suc n)

abbrev pub fail_returns : State → State
fail_returns m = fail_each m (length m.process_table.threads)

-- A pool that has both a waiting item and an idle thread gives its oldest item to its pick, and so on.

-- an item to a thread
abbrev pub give_one : State → Item → ℕ → State
give_one m (item.Call c) u =
    record m { process_table = give_thread m.process_table u (item.Call c); call_tree = give_call m.call_tree c u }
give_one m (item.Notice n) u =
    record m { process_table = give_thread m.process_table u (item.Notice n); notice_list = give_notice m.notice_list n u }

abbrev pub give_to : State → Waiting → Option Parked → State
give_to m w None = m
give_to m w (Some x) = give_one m w.item x.thread.0

-- each item in turn to the pick of its pool, as long as that has one
abbrev pub give_each : State → List Waiting → State
give_each m [] = m
give_each m (w ∷ ws) = give_each (give_to m w (pick m (pool_of m w.door))) ws

abbrev pub give : State → State
give m = give_each m (waiting_items m)

-- A process starts its lowest spare when its first common door is made, and when a giving takes the last idle thread of its common
-- pool. `before` is the state before the event, `ungiven` the one before giving, and `given` the one after it.

abbrev pub has_first_common_door : State → State → ℕ → Bool
has_first_common_door before after p = not (has_common_door before.doors p) && has_common_door after.doors p

abbrev pub has_given_last : State → State → ℕ → Bool
has_given_last ungiven given p = is_some (pick ungiven (Common (pid p))) && is_none (pick given (Common (pid p)))

abbrev pub needs_spare : State → State → State → ℕ → Bool
needs_spare before ungiven given p = has_first_common_door before given p || has_given_last ungiven given p

abbrev pub start_one : State → ℕ → Bool → State
start_one m p false = m
start_one m p true = record m { process_table = start_spare m.process_table p }

-- of the processes 1 to n
abbrev pub start_each : State → State → State → ℕ → State
start_each before ungiven given zero = given
start_each before ungiven given (suc n) =
    start_one (start_each before ungiven given n) (suc n) (needs_spare before ungiven given (suc n))

abbrev pub start_spares : State → State → State → State
start_spares before ungiven given = start_each before ungiven given (length given.process_table.processes)

-- giving and spares
abbrev pub give_and_start : State → State → State
give_and_start before m = start_spares before m (give m)

-- what follows an act of threads, calls and notices
abbrev pub settle_pools : State → State → State
settle_pools before after = give_and_start before (fail_returns (make_notices before after))

abbrev pub settle : State → State → State
settle before after = tell (settle_pools before after)
