-- The acts of leaving: interrupts, the ends of threads and of processes, door_revoke(3C), and fork(2), at which callers are
-- interrupted; and how a server learns that its client has left. What becomes of calls, threads and notices is one word for all of them, `leave`, which takes each record from
-- what stands before the event.
use Rattle.std.specs.Prelude.{ℕ, ◌+◌, List, [], ◌∷◌, Option, Bool, false, not, Some, None, if◌then◌else◌, is_some}
use Rattle.spec_kernel.specs.Types.{Fd, Inv, Request}
use Rattle.dk_base.specs.declared.error.Errno.TheVariants.{EAGAIN, EINVAL}
use Rattle.dk_base.specs.declared.request.Request.TheVariants as request
use Rattle.dk_base.specs.declared.answer.Answer.TheVariants as answer
use Rattle.spec_records.specs.declared.record.ThreadState.TheVariants as is
use Rattle.spec_records.specs.Words.{Leaving, Test, begin_process, bind_lost, close_row, close_table, end_owner, end_process, first_place, forking, interruption, is_last, left_calls, left_notices, left_threads, pid, process_end, refused_where, revocation, revoke_door, revoke_tests, thread_end, with_table}
use Rattle.spec_kernel.specs.State.{State, bound_of, door_of, invocation_of, is_live_process, is_unborn_process, now, table_of, with_state}
use Rattle.spec_kernel.specs.Acts.{ActResult, no_act}
use Rattle.spec_kernel.specs.Information.{door_at}

abbrev pub leave : State → Leaving → State
leave m who =
    record m {
      process_table = left_threads who (now m) m.call_tree.calls m.process_table;
      call_tree = left_calls who m.call_tree;
      notice_list = left_notices who m.notice_list;
    }

-- an interrupt of a thread: EINTR for its call, or for its wait for the events of a port; nothing for any other thread
abbrev pub interrupt : State → ℕ → ActResult
interrupt m t = record { state = leave m (interruption t); answer = answer.Done }

-- the end of a thread whose process goes on
abbrev pub leave_thread : State → ℕ → State
leave_thread m t = leave m (thread_end t)

-- the end of a process: all its threads end, its doors become invalid with it, and its descriptors are closed
abbrev pub leave_process : State → ℕ → State
leave_process m p =
    record (leave m (process_end m.process_table m.doors p)) {
      process_table = end_process (leave m (process_end m.process_table m.doors p)).process_table p;
      tables = with_table m.tables p (close_table (table_of m p));
      doors = end_owner m.doors p;
    }

-- the end of the thread that asks: its process ends with its last thread that is neither Done nor Dormant
abbrev pub exit : State → ℕ → ℕ → ActResult
exit m t p = record { state = if is_last m.process_table t p then leave_process m p else leave_thread m t; answer = answer.Done }

-- a process that lives ends, whoever asks; one that has not begun stays so
abbrev pub kill : State → ℕ → ActResult
kill m p = record { state = if is_live_process m p then leave_process m p else m; answer = answer.Done }

-- door_revoke: EBADF for no door or an invalid one, EPERM for another process's; the door is invalid, and its descriptor closed

abbrev pub revoking_tests : State → ℕ → Fd → List Test
revoking_tests m p fd = revoke_tests p (door_of m (door_at m p fd))

abbrev pub revoke : State → ℕ → Fd → ActResult
revoke m p fd =
    record {
      state =
          record (leave m (revocation (door_at m p fd))) {
            tables = with_table m.tables p (close_row (table_of m p) fd.0);
            doors = revoke_door m.doors (door_at m p fd);
          };
      answer = answer.Done;
    }

-- fork: EAGAIN for a child that has begun. The other threads of the process that wait for calls are interrupted; the child begins with
-- the descriptors of the process, under the same numbers, and its threads run that are no spares. Where the thread that forks is bound
-- to a door, the child's first thread is bound to the lost one. No association is of the child.

abbrev pub forking_tests : State → ℕ → List Test
forking_tests m child = refused_where (not (is_unborn_process m child)) EAGAIN ∷ []

abbrev pub bind_first : List (Option ℕ) → Option ℕ → List (Option ℕ)
bind_first bindings None = bindings
bind_first bindings (Some place) = bind_lost bindings (place + 1)

abbrev pub bindings_after_fork : State → ℕ → ℕ → List (Option ℕ)
bindings_after_fork m t child =
    if is_some (bound_of m t) then bind_first m.bindings (first_place m.process_table child) else m.bindings

abbrev pub fork : State → ℕ → ℕ → ℕ → ActResult
fork m t p child =
    record {
      state =
          record (leave m (forking m.process_table t)) {
            process_table = begin_process (leave m (forking m.process_table t)).process_table child;
            bindings = bindings_after_fork m t child;
            tables = with_table m.tables child (table_of m p);
          };
      answer = answer.Child (pid child);
    }

-- whether the client of an invocation has left it

abbrev pub is_cancelled : Option Inv → Bool
is_cancelled None = false
is_cancelled (Some v) = v.cancelled

abbrev pub test_cancel : State → ℕ → ActResult
test_cancel m t = record { state = m; answer = answer.Cancel (is_cancelled (invocation_of m t)) }

-- a thread whose door became invalid while it was parked goes on, and is told EINVAL
abbrev pub wake : State → ℕ → ActResult
wake m t = record { state = with_state m t is.Running; answer = answer.Failure EINVAL }

-- the tests and the effect of an entry of this file

abbrev pub tests_of_leaving : State → ℕ → ℕ → Request → List Test
tests_of_leaving m t p (request.Revoke fd) = revoking_tests m p fd
tests_of_leaving m t p (request.Fork child) = forking_tests m child.0
tests_of_leaving m t p _ = []

abbrev pub effect_of_leaving : State → ℕ → ℕ → Request → ActResult
effect_of_leaving m t p (request.Revoke fd) = revoke m p fd
effect_of_leaving m t p (request.Interrupt thread) = interrupt m thread.0
effect_of_leaving m t p (request.Kill process) = kill m process.0
effect_of_leaving m t p request.Exit = exit m t p
effect_of_leaving m t p (request.Fork child) = fork m t p child.0
effect_of_leaving m t p request.TestCancel = test_cancel m t
effect_of_leaving m t p _ = no_act m
