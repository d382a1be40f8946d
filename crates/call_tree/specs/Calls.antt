-- Door calls by their numbers, callers and servers, and what each change of one leaves (door_call(3C), door_return(3C)).
use Rattle.std.specs.Prelude.{ℕ, ◌<◌, ◌≤◌, Bool, true, false, ◌==◌, ◌&&◌, List, [], Option, Some, None, if◌then◌else◌, nat_lt, length}
use Rattle.dk_base.specs.declared.error.Errno.{Errno}
use Rattle.dk_base.specs.declared.error.Errno.TheVariants.{EINTR}
use Rattle.dk_base.specs.declared.limits.TheConstants.{THREADS_MAX}
use Rattle.dk_base.specs.declared.object.Obj.{Obj}
use Rattle.spec_records.specs.declared.record.Call.{Call}
use Rattle.spec_records.specs.declared.record.CallStage.{CallStage}
use Rattle.spec_records.specs.declared.record.CallStage.TheVariants as stage
use Rattle.spec_records.specs.Words.{CallTree, Leaving, change_first, interruption, is_served_by, is_to_collect, left_call, live_calls, thread_end, tid, without_arguments_at}
use Rattle.call_tree.specs.Kept.{is_call}
use Rattle.call_tree.specs.declared.parts.Args.{Args}
use Rattle.call_tree.specs.declared.parts.Leave.{Leave}
use Rattle.call_tree.specs.declared.parts.Leave.TheVariants.{Interrupted, Finished}
use Rattle.call_tree.specs.declared.parts.Outcome.{Outcome}
use Rattle.call_tree.specs.declared.parts.Outcome.TheVariants.{Results, Ended}

-- the number of a thread
abbrev pub IsThread : ℕ → Type 0
IsThread t = (0 < t) × (t ≤ THREADS_MAX)

-- look-ups

-- a call of this caller
abbrev pub is_called_by : ℕ → Call → Bool
is_called_by t r = r.caller.0 == t

-- no thread has entered it, and it has not ended
abbrev pub is_waiting : CallStage → Bool
is_waiting stage.Queued = true
is_waiting (stage.Given u) = true
is_waiting _ = false

abbrev pub is_waiting_as : ℕ → Call → Bool
is_waiting_as c r = (r.number == c) && is_waiting r.stage

abbrev pub is_given : CallStage → Bool
is_given (stage.Given u) = true
is_given _ = false

-- call c was given to a thread
abbrev pub is_given_call : ℕ → Call → Bool
is_given_call c r = (r.number == c) && is_given r.stage

abbrev pub is_ready_of : ℕ → Call → Bool
is_ready_of t r = (r.caller.0 == t) && is_to_collect r.stage

-- a call as it is made

abbrev pub queued_call : ℕ → ℕ → ℕ → ℕ → List ℕ → List Obj → ℕ → Bool → Call
queued_call number made caller door bytes objects rsize no_cancel =
    record {
      number = number;
      made = made;
      caller = tid caller;
      door = door;
      bytes = bytes;
      objects = objects;
      rsize = rsize;
      no_cancel = no_cancel;
      abandoned = false;
      stage = stage.Queued;
    }

-- what changes

-- a call that no thread has entered ends
abbrev pub refuse_call : CallTree → ℕ → Errno → CallTree
refuse_call tree c e = record tree { calls = change_first (is_call c) (without_arguments_at (stage.Ended e)) tree.calls }

-- the call that a thread serves ends with the thread
abbrev pub lose_server : CallTree → ℕ → CallTree
lose_server tree u = record tree { calls = change_first (is_served_by u) (without_arguments_at (stage.Ended EINTR)) tree.calls }

abbrev pub leaving_for : Leave → ℕ → Leaving
leaving_for Interrupted t = interruption t
leaving_for Finished t = thread_end t

-- what becomes of the call of a caller that leaves it
abbrev pub abandon_call : CallTree → ℕ → Leave → CallTree
abandon_call tree t why = live_calls (record tree { calls = change_first (is_called_by t) (left_call (leaving_for why t)) tree.calls })

-- answers

-- what the caller is told of a call that is returned or ended
abbrev pub outcome_at : ℕ → CallStage → Option Outcome
outcome_at rsize (stage.Returned bytes objects) = Some (Results bytes objects (nat_lt rsize (length bytes)))
outcome_at rsize (stage.Ended e) = Some (Ended e)
outcome_at rsize _ = None

abbrev pub outcome_in : Option Call → Option Outcome
outcome_in None = None
outcome_in (Some r) = outcome_at r.rsize r.stage

abbrev pub args_in : Option Call → Option Args
args_in None = None
args_in (Some r) = Some (record { bytes = r.bytes; objects = r.objects })

-- the objects of the results, or else those of the arguments
abbrev pub held_at : CallStage → List Obj → List Obj
held_at (stage.Returned bytes results) objects = results
held_at _ objects = objects

-- what is in transit with a call: its arguments until a thread enters it, and its results
abbrev pub transit_at : CallStage → List Obj → List Obj
transit_at stage.Queued objects = objects
transit_at (stage.Given u) objects = objects
transit_at (stage.Returned bytes results) objects = results
transit_at _ objects = []

-- a caller that is interrupted still collects its results
abbrev pub dropped_at : Leave → CallStage → List Obj → List Obj
dropped_at Interrupted (stage.Returned bytes results) objects = []
dropped_at _ s objects = transit_at s objects

-- the objects that are no longer in transit
abbrev pub dropped_objects : Leave → Option Call → List Obj
dropped_objects why None = []
dropped_objects why (Some r) = dropped_at why r.stage r.objects

abbrev pub parked_at : CallStage → Option ℕ
parked_at (stage.Given u) = Some u.0
parked_at _ = None

-- the thread that was given the call, which it no longer enters
abbrev pub parked_thread : Option Call → Option ℕ
parked_thread None = None
parked_thread (Some r) = parked_at r.stage

abbrev pub cancelled_at : Bool → CallStage → Option ℕ
cancelled_at no_cancel (stage.Entered u) = if no_cancel then None else Some u.0
cancelled_at no_cancel _ = None

-- the thread that is in the call, whose invocation is cancelled, unless the door has DOOR_NO_CANCEL
abbrev pub cancelled_by : Option Call → Option ℕ
cancelled_by None = None
cancelled_by (Some r) = cancelled_at r.no_cancel r.stage
