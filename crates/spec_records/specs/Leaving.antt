-- What becomes of calls, threads and notices where callers are interrupted, threads end, and doors become invalid, all at one
-- event: each record's next one from the records before the event alone. A caller that ends and is interrupted ends.
use Rattle.std.specs.Prelude.{ℕ, List, Option, Bool, false, true, ◌==◌, ◌||◌, if◌then◌else◌, Some, None, find, map}
use Rattle.std.specs.Option.{option_map}
use Rattle.dk_base.specs.declared.error.Errno.{Errno}
use Rattle.dk_base.specs.declared.error.Errno.TheVariants.{EBADF, EINTR}
use Rattle.dk_base.specs.declared.object.Inv.{Inv}
use Rattle.dk_base.specs.ByNumber.{at_number}
use Rattle.spec_records.specs.declared.leaving.Leaver.{Leaver}
use Rattle.spec_records.specs.declared.leaving.Leaver.TheVariants.{Interrupted, Ended, EndedProcess, Revoked, Forked}
use Rattle.spec_records.specs.declared.record.Call.{Call}
use Rattle.spec_records.specs.declared.record.CallStage.{CallStage}
use Rattle.spec_records.specs.declared.record.CallStage.TheVariants as stage
use Rattle.spec_records.specs.declared.record.Door.{Door}
use Rattle.spec_records.specs.declared.record.Notice.{Notice}
use Rattle.spec_records.specs.declared.record.NoticeStage.{NoticeStage}
use Rattle.spec_records.specs.declared.record.NoticeStage.TheVariants as notice
use Rattle.spec_records.specs.declared.record.Thread.{Thread}
use Rattle.spec_records.specs.declared.record.ThreadState.{ThreadState}
use Rattle.spec_records.specs.declared.record.ThreadState.TheVariants as is
use Rattle.spec_records.specs.Calls.{CallTree, is_served_by, without_arguments_at}
use Rattle.spec_records.specs.Doors.{is_owned_by}
use Rattle.spec_records.specs.Notices.{NoticeList}
use Rattle.spec_records.specs.ProcessTable.{ProcessTable, ended_thread, idle_thread, is_fellow_caller, process_in, thread_at}

-- which threads end, which callers are interrupted, and which doors become invalid, by their numbers
pub record Leaving : Type 0 where
  pub ends : ℕ → Bool
  pub interrupts : ℕ → Bool
  pub loses : ℕ → Bool

abbrev pub interruption : ℕ → Leaving
interruption t = record { ends = λ u. false; interrupts = λ u. u == t; loses = λ d. false }

abbrev pub thread_end : ℕ → Leaving
thread_end t = record { ends = λ u. u == t; interrupts = λ u. false; loses = λ d. false }

-- all threads and all doors of a process
abbrev pub process_end : ProcessTable → List Door → ℕ → Leaving
process_end table doors p =
    record {
      ends = λ u. process_in (thread_at table u) == p;
      interrupts = λ u. false;
      loses = λ d. is_owned_by p (at_number doors d);
    }

abbrev pub revocation : ℕ → Leaving
revocation d = record { ends = λ u. false; interrupts = λ u. false; loses = λ e. e == d }

-- the other threads of a process that wait for calls, as one of its threads forks
abbrev pub forking : ProcessTable → ℕ → Leaving
forking table t = record { ends = λ u. false; interrupts = λ u. is_fellow_caller table t u; loses = λ d. false }

abbrev pub leaving_of : ProcessTable → List Door → Leaver → Leaving
leaving_of table doors (Interrupted t) = interruption t.0
leaving_of table doors (Ended t) = thread_end t.0
leaving_of table doors (EndedProcess p) = process_end table doors p.0
leaving_of table doors (Revoked d) = revocation d
leaving_of table doors (Forked t) = forking table t.0

-- calls

-- its caller has left it while a thread is in it: what that thread returns goes nowhere
abbrev pub abandoned_at : CallStage → Call → Call
abandoned_at s r = record (without_arguments_at s r) { abandoned = true }

-- Its caller ends.
abbrev pub gone_call_at : CallStage → Call → Call
gone_call_at (stage.Entered u) r = abandoned_at stage.Gone r
gone_call_at (stage.Answered k) r = r
gone_call_at stage.Gone r = r
gone_call_at _ r = without_arguments_at stage.Gone r

abbrev pub ended_where : Bool → Errno → Call → Call
ended_where b e r = if b then without_arguments_at (stage.Ended e) r else r

-- Its caller does not end: EINTR where the caller is interrupted, EBADF where the call waits and its door becomes invalid, and
-- EINTR where the thread ends that it was given to or that has entered it. A call that is returned or ended stays.
abbrev pub broken_call_at : Leaving → CallStage → Call → Call
broken_call_at who stage.Queued r =
    if who.interrupts r.caller.0 then without_arguments_at (stage.Ended EINTR) r else ended_where (who.loses r.door) EBADF r
broken_call_at who (stage.Given u) r = ended_where (who.interrupts r.caller.0 || who.ends u.0) EINTR r
broken_call_at who (stage.Entered u) r =
    if who.interrupts r.caller.0 then abandoned_at (stage.Ended EINTR) r else ended_where (who.ends u.0) EINTR r
broken_call_at who _ r = r

abbrev pub left_call : Leaving → Call → Call
left_call who r = if who.ends r.caller.0 then gone_call_at r.stage r else broken_call_at who r.stage r

abbrev pub left_calls : Leaving → CallTree → CallTree
left_calls who tree = record tree { calls = map (left_call who) tree.calls }

-- threads

abbrev pub cancelled_invocation : Inv → Inv
cancelled_invocation v = record v { cancelled = true }

abbrev pub cancelled_thread : Thread → Thread
cancelled_thread x = record x { invocation = option_map cancelled_invocation x.invocation }

-- Its caller leaves the call that it was given, or has entered: it is parked again, or the flag of its invocation is set, unless
-- the call's door has DOOR_NO_CANCEL.
abbrev pub deserted_at : ℕ → Bool → CallStage → Thread → Thread
deserted_at now no_cancel (stage.Given u) x = idle_thread now x
deserted_at now no_cancel (stage.Entered u) x = if no_cancel then x else cancelled_thread x
deserted_at now no_cancel _ x = x

abbrev pub is_left : Leaving → Call → Bool
is_left who r = who.ends r.caller.0 || who.interrupts r.caller.0

-- of a thread that serves this call, or none
abbrev pub deserted_in : Leaving → ℕ → Option Call → Thread → Thread
deserted_in who now None x = x
deserted_in who now (Some r) x = if is_left who r then deserted_at now r.no_cancel r.stage x else x

-- an interrupt ends the wait for the events of a port
abbrev pub interrupted_state : ThreadState → ThreadState
interrupted_state (is.Getting port max nget one interrupted) = is.Getting port max nget one true
interrupted_state s = s

abbrev pub interrupted_thread : Thread → Thread
interrupted_thread x = record x { state = interrupted_state x.state }

abbrev pub interrupted_where : Bool → Thread → Thread
interrupted_where b x = if b then interrupted_thread x else x

-- of a thread that serves this call, or none
abbrev pub left_thread : Leaving → ℕ → Option Call → Thread → Thread
left_thread who now served x =
    if who.ends x.number then ended_thread x else deserted_in who now served (interrupted_where (who.interrupts x.number) x)

abbrev pub left_thread_of : Leaving → ℕ → List Call → Thread → Thread
left_thread_of who now calls x = left_thread who now (find (is_served_by x.number) calls) x

abbrev pub left_threads : Leaving → ℕ → List Call → ProcessTable → ProcessTable
left_threads who now calls table = record table { threads = map (left_thread_of who now calls) table.threads }

-- notices: one that waits is dropped with its door, and one that a thread was given or has entered is over with the thread

abbrev pub left_notice_at : Leaving → NoticeStage → Notice → Notice
left_notice_at who notice.Waiting n = if who.loses n.door then record n { stage = notice.Dropped } else n
left_notice_at who (notice.Given u) n = if who.ends u.0 then record n { stage = notice.Over } else n
left_notice_at who (notice.Entered u) n = if who.ends u.0 then record n { stage = notice.Over } else n
left_notice_at who _ n = n

abbrev pub left_notice : Leaving → Notice → Notice
left_notice who n = left_notice_at who n.stage n

abbrev pub left_notices : Leaving → NoticeList → NoticeList
left_notices who list = record list { notices = map (left_notice who) list.notices }
