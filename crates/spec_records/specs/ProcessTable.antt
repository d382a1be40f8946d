-- Processes and threads, numbered from 1 by their places. Every reader is total: a number that no thread has reads as that of a
-- Done thread, and a writer at such a number changes nothing.
use Rattle.std.specs.Prelude.{ℕ, ◌+◌, List, Option, Bool, true, false, ◌==◌, ◌&&◌, not, if◌then◌else◌, Some, None, count_by, map, position}
use Rattle.std.specs.List.{list_any}
use Rattle.dk_base.specs.declared.number.Pid.{Pid}
use Rattle.dk_base.specs.declared.object.Inv.{Inv}
use Rattle.dk_base.specs.declared.object.Item.{Item}
use Rattle.dk_base.specs.ByNumber.{at_number, with_at_number}
use Rattle.spec_records.specs.declared.record.Process.{Process}
use Rattle.spec_records.specs.declared.record.ProcessStage.{ProcessStage}
use Rattle.spec_records.specs.declared.record.ProcessStage.TheVariants.{Unborn, Live, Ended}
use Rattle.spec_records.specs.declared.record.Thread.{Thread}
use Rattle.spec_records.specs.declared.record.ThreadState.{ThreadState}
use Rattle.spec_records.specs.declared.record.ThreadState.TheVariants as is
use Rattle.dk_base.specs.Numbers.{pid}

pub record ProcessTable : Type 0 where
  pub processes : List Process
  pub threads : List Thread

-- processes

-- as it is made, with the number of descriptors that it may have
abbrev pub new_process : ℕ → ℕ → Process
new_process n limit = record { number = n; made = 0; limit = limit; parent = None; stage = Live }

abbrev pub is_live_stage : ProcessStage → Bool
is_live_stage Unborn = false
is_live_stage Live = true
is_live_stage Ended = false

abbrev pub is_live_in : Option Process → Bool
is_live_in None = false
is_live_in (Some p) = is_live_stage p.stage

abbrev pub ended_process : Process → Process
ended_process p = record p { stage = Ended }

-- a child of a process, which has not begun

abbrev pub child_of : ℕ → Process → Process
child_of parent p = record p { parent = Some (pid parent); stage = Unborn }

abbrev pub is_unborn_stage : ProcessStage → Bool
is_unborn_stage Unborn = true
is_unborn_stage Live = false
is_unborn_stage Ended = false

abbrev pub is_unborn_in : Option Process → Bool
is_unborn_in None = false
is_unborn_in (Some p) = is_unborn_stage p.stage

abbrev pub parent_in : Option Process → Option Pid
parent_in None = None
parent_in (Some p) = p.parent

abbrev pub live_process : Process → Process
live_process p = record p { stage = Live }

-- threads

abbrev pub opening_state : Bool → ThreadState
opening_state spare = if spare then is.Dormant else is.Running

-- as it is made: a spare thread is Dormant
abbrev pub new_thread : ℕ → ℕ → Bool → Thread
new_thread n p spare = record { number = n; made = 0; process = pid p; spare = spare; invocation = None; state = opening_state spare }

-- of a process that has not begun each thread is
abbrev pub unborn_thread : ℕ → ℕ → Bool → Thread
unborn_thread n p spare = record { number = n; made = 0; process = pid p; spare = spare; invocation = None; state = is.Dormant }

abbrev pub new_thread_where : Bool → ℕ → ℕ → Bool → Thread
new_thread_where unborn n p spare = if unborn then unborn_thread n p spare else new_thread n p spare

abbrev pub thread_at : ProcessTable → ℕ → Option Thread
thread_at table t = at_number table.threads t

abbrev pub process_in : Option Thread → ℕ
process_in None = 0
process_in (Some x) = x.process.0

abbrev pub state_in : Option Thread → ThreadState
state_in None = is.Done
state_in (Some x) = x.state

abbrev pub is_spare_in : Option Thread → Bool
is_spare_in None = false
is_spare_in (Some x) = x.spare

abbrev pub invocation_in : Option Thread → Option Inv
invocation_in None = None
invocation_in (Some x) = x.invocation

-- writers: what becomes of a thread

abbrev pub change_thread_in : ProcessTable → ℕ → (Thread → Thread) → Option Thread → ProcessTable
change_thread_in table t change None = table
change_thread_in table t change (Some x) = record table { threads = with_at_number table.threads t (change x) }

abbrev pub change_thread : ProcessTable → ℕ → (Thread → Thread) → ProcessTable
change_thread table t change = change_thread_in table t change (thread_at table t)

-- it turns to another state
abbrev pub thread_at_state : ThreadState → Thread → Thread
thread_at_state s x = record x { state = s }

abbrev pub new_invocation : Item → Inv
new_invocation i = record { item = i; cancelled = false }

-- it enters the invocation of an item
abbrev pub thread_in_invocation : Item → Thread → Thread
thread_in_invocation i x = record x { invocation = Some (new_invocation i); state = is.Running }

-- its invocation ends, and it is parked
abbrev pub idle_thread : ℕ → Thread → Thread
idle_thread now x = record x { invocation = None; state = is.Idle now }

-- its invocation ends, and it goes on
abbrev pub thread_outside : Thread → Thread
thread_outside x = record x { invocation = None }

-- it ends
abbrev pub ended_thread : Thread → Thread
ended_thread x = record x { invocation = None; state = is.Done }

abbrev pub set_thread_state : ProcessTable → ℕ → ThreadState → ProcessTable
set_thread_state table t s = change_thread table t (thread_at_state s)

abbrev pub give_thread : ProcessTable → ℕ → Item → ProcessTable
give_thread table t i = change_thread table t (thread_at_state (is.Given i))

abbrev pub enter_thread : ProcessTable → ℕ → Item → ProcessTable
enter_thread table t i = change_thread table t (thread_in_invocation i)

abbrev pub park_thread : ProcessTable → ℕ → ℕ → ProcessTable
park_thread table t now = change_thread table t (idle_thread now)

abbrev pub end_thread : ProcessTable → ℕ → ProcessTable
end_thread table t = change_thread table t ended_thread

abbrev pub end_invocation : ProcessTable → ℕ → ProcessTable
end_invocation table t = change_thread table t thread_outside

-- spare threads that were not started

abbrev pub is_dormant : ThreadState → Bool
is_dormant is.Dormant = true
is_dormant _ = false

abbrev pub is_spare_of : ℕ → Thread → Bool
is_spare_of p x = (x.process.0 == p) && is_dormant x.state

abbrev pub start_thread_at : ProcessTable → Option ℕ → ProcessTable
start_thread_at table None = table
start_thread_at table (Some place) = set_thread_state table (place + 1) is.Running

-- the lowest spare of a process starts, where there is one
abbrev pub start_spare : ProcessTable → ℕ → ProcessTable
start_spare table p = start_thread_at table (position (is_spare_of p) table.threads)

-- the end of a process

abbrev pub with_ended : ProcessTable → ℕ → Option Process → ProcessTable
with_ended table p None = table
with_ended table p (Some x) = record table { processes = with_at_number table.processes p (ended_process x) }

abbrev pub end_process : ProcessTable → ℕ → ProcessTable
end_process table p = with_ended table p (at_number table.processes p)

-- a thread that keeps its process from ending
abbrev pub is_active : ThreadState → Bool
is_active is.Done = false
is_active is.Dormant = false
is_active _ = true

abbrev pub keeps_alive : ℕ → ℕ → Thread → Bool
keeps_alive t p x = (x.process.0 == p) && not (x.number == t) && is_active x.state

-- whether a thread is the last of its process that is neither Done nor Dormant
abbrev pub is_last : ProcessTable → ℕ → ℕ → Bool
is_last table t p = not (list_any (keeps_alive t p) table.threads)

-- the threads of a process that are neither Done nor Dormant

abbrev pub is_active_of : ℕ → Thread → Bool
is_active_of p x = (x.process.0 == p) && is_active x.state

abbrev pub active_threads : ProcessTable → ℕ → ℕ
active_threads table p = count_by (is_active_of p) table.threads

-- a child process is declared, and begins: its threads run that are no spares

abbrev pub change_process_in : ProcessTable → ℕ → (Process → Process) → Option Process → ProcessTable
change_process_in table p change None = table
change_process_in table p change (Some x) = record table { processes = with_at_number table.processes p (change x) }

abbrev pub change_process : ProcessTable → ℕ → (Process → Process) → ProcessTable
change_process table p change = change_process_in table p change (at_number table.processes p)

abbrev pub make_child : ProcessTable → ℕ → ℕ → ProcessTable
make_child table child parent = change_process table child (child_of parent)

-- a thread of a process that is no spare
abbrev pub is_first_of : ℕ → Thread → Bool
is_first_of p x = (x.process.0 == p) && not x.spare

abbrev pub begun_thread : ℕ → Thread → Thread
begun_thread p x = if is_first_of p x then thread_at_state is.Running x else x

abbrev pub begin_process : ProcessTable → ℕ → ProcessTable
begin_process table p = change_process (record table { threads = map (begun_thread p) table.threads }) p live_process

-- the place of the least thread of a process that is no spare, if it has one
abbrev pub first_place : ProcessTable → ℕ → Option ℕ
first_place table p = position (is_first_of p) table.threads

-- a thread that waits for a call
abbrev pub is_calling : ThreadState → Bool
is_calling (is.Calling c) = true
is_calling _ = false

-- another thread of the process of thread t, which waits for a call
abbrev pub is_fellow_caller : ProcessTable → ℕ → ℕ → Bool
is_fellow_caller table t u =
    not (u == t) && ((process_in (thread_at table u) == process_in (thread_at table t)) && is_calling (state_in (thread_at table u)))

-- a thread that is parked stands in a pool, and one that ended has left for good
abbrev pub is_idle : ThreadState → Bool
is_idle (is.Idle since) = true
is_idle _ = false

abbrev pub is_idle_thread : Thread → Bool
is_idle_thread x = is_idle x.state

abbrev pub is_done : ThreadState → Bool
is_done is.Done = true
is_done _ = false
