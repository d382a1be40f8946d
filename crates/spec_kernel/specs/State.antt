-- The written state: plain lists of records, by subject, and their readers. Every reader is total: a number that nothing
-- has reads as nothing.
use Rattle.std.specs.Prelude.{ℕ, ◌+◌, List, Option, Bool, false, not, Some, None, find}
use Rattle.dk_base.specs.ByNumber.{at_number}
use Rattle.spec_kernel.specs.Types.{Call, Door, Fd, Inv, Name, Notice, Obj, Parked, PathId, Pid, Pool, Thread, ThreadState, Waiting}
use Rattle.spec_records.specs.declared.timer.Timer.{Timer}
use Rattle.spec_records.specs.Words.{AssociationList, TimerList}
use Rattle.spec_records.specs.Words.{CallTree, NoticeList, Pipe, Port, ProcessTable, bound_at, invocation_in, is_client_call_of, is_live_in, is_unborn_in, name_in, object_named, parent_in, pick_parked, pool_in, process_in, queue_length, state_in, table_in, thread_at, set_thread_state, is_valid_in, items_in_order, with_table}

-- What carries bytes or events from one thread to another and is no door, numbered from 1 by its place; which ports are told of which
-- objects; and the clock, with the timers that tell ports of it.
pub record Channels : Type 0 where
  pub pipes : List Pipe
  pub ports : List Port
  pub associations : AssociationList
  pub timers : TimerList

-- Processes, threads and doors are numbered from 1 by their places; a process's table and a thread's binding stand at the same
-- places as they do; there is a place for the binding of each thread that there can be.
pub record State : Type 0 where
  pub process_table : ProcessTable
  -- the door that a thread is bound to, which may be the lost one, or none
  pub bindings : List (Option ℕ)
  pub tables : List (List (Option Obj))
  pub names : List Name
  pub doors : List Door
  -- records of calls and notices are never removed
  pub call_tree : CallTree
  pub notice_list : NoticeList
  pub channels : Channels
  pub events : ℕ

-- the number of the next event, which dates what it makes
abbrev pub now : State → ℕ
now m = m.events + 1

-- processes and threads

abbrev pub is_live_process : State → ℕ → Bool
is_live_process m p = is_live_in (at_number m.process_table.processes p)

-- a child process that has not begun
abbrev pub is_unborn_process : State → ℕ → Bool
is_unborn_process m p = is_unborn_in (at_number m.process_table.processes p)

-- the process that a process is a child of, if it is one
abbrev pub parent_of : State → ℕ → Option Pid
parent_of m p = parent_in (at_number m.process_table.processes p)

abbrev pub thread_of : State → ℕ → Option Thread
thread_of m t = thread_at m.process_table t

-- the number of a thread's process, 0 for no thread
abbrev pub process_of : State → ℕ → ℕ
process_of m t = process_in (thread_of m t)

-- a number that no thread has reads as Done
abbrev pub state_of : State → ℕ → ThreadState
state_of m t = state_in (thread_of m t)

abbrev pub invocation_of : State → ℕ → Option Inv
invocation_of m t = invocation_in (thread_of m t)

-- the door that a thread is bound to
abbrev pub bound_of : State → ℕ → Option ℕ
bound_of m t = bound_at m.bindings t

-- a thread is bound to a door that is not valid

abbrev pub is_bound_to_invalid : State → Option ℕ → Bool
is_bound_to_invalid m None = false
is_bound_to_invalid m (Some d) = not (is_valid_in (at_number m.doors d))

abbrev pub has_invalid_door : State → ℕ → Bool
has_invalid_door m t = is_bound_to_invalid m (bound_of m t)

-- a thread turns to another state
abbrev pub with_state : State → ℕ → ThreadState → State
with_state m t s = record m { process_table = set_thread_state m.process_table t s }

-- tables

abbrev pub table_of : State → ℕ → List (Option Obj)
table_of m p = table_in m.tables p

-- what a descriptor of a process names
abbrev pub object_at : State → ℕ → Fd → Option Obj
object_at m p fd = object_named (table_of m p) fd

-- a process has this table
abbrev pub with_table_of : State → ℕ → List (Option Obj) → State
with_table_of m p table = record m { tables = with_table m.tables p table }

-- names

-- the door attached to a path
abbrev pub name_of : State → PathId → Option Name
name_of m path = name_in m.names path

-- doors

abbrev pub door_of : State → ℕ → Option Door
door_of m d = at_number m.doors d

abbrev pub is_valid : State → ℕ → Bool
is_valid m d = is_valid_in (door_of m d)

-- the pool that serves a door
abbrev pub pool_of : State → ℕ → Pool
pool_of m d = pool_in (door_of m d)

-- the pool's thread that parked last
abbrev pub pick : State → Pool → Option Parked
pick m pool = pick_parked m.process_table m.bindings pool

-- calls

abbrev pub find_call : State → (Call → Bool) → Option Call
find_call m test = find test m.call_tree.calls

-- the call that a thread has entered, where its caller has not left
abbrev pub client_call : State → ℕ → Option Call
client_call m t = find_call m (is_client_call_of t)

-- notices

abbrev pub find_notice : State → (Notice → Bool) → Option Notice
find_notice m test = find test m.notice_list.notices

abbrev pub waiting_items : State → List Waiting
waiting_items m = items_in_order m.call_tree.calls m.notice_list.notices

-- how many calls wait in a pool
abbrev pub calls_waiting : State → Pool → ℕ
calls_waiting m pool = queue_length m.doors m.call_tree.calls pool

-- pipes, ports, associations and timers

abbrev pub with_channels : State → Channels → State
with_channels m channels = record m { channels = channels }

abbrev pub with_pipes : State → List Pipe → State
with_pipes m pipes = record m { channels = record m.channels { pipes = pipes } }

abbrev pub with_ports : State → List Port → State
with_ports m ports = record m { channels = record m.channels { ports = ports } }

-- those that have not ended, in order of number
abbrev pub timers_in : State → List Timer
timers_in m = m.channels.timers.timers
