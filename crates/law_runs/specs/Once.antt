-- Once: each call is entered at most once, and only by the accept of the thread that it was given to, a thread of the
-- process that made its door; an accept enters just one call or just one notice; a thread is in one invocation at a time; each
-- call is answered at most once, and only by the collect of its caller; and what is answered with results was entered before.
use Rattle.std.specs.Prelude.{ℕ, ◌≡◌, ◌+◌, ◌<◌, ◌≤◌, ◌⊎◌, List, Option, Bool, true, Some, None, length, slice_get}
use Rattle.spec_kernel.specs.Types.{Call, Fd, Inv, Item, Pass}
use Rattle.dk_base.specs.declared.error.Errno.TheVariants.{EINVAL, EMFILE}
use Rattle.dk_base.specs.declared.object.Item.TheVariants as item
use Rattle.dk_base.specs.declared.answer.Answer.TheVariants as answer
use Rattle.spec_records.specs.declared.record.CallStage.TheVariants as stage
use Rattle.spec_records.specs.declared.record.ThreadState.TheVariants as is
use Rattle.spec_records.specs.Words.{cancelled_invocation, is_live, new_invocation, tid}
use Rattle.spec_kernel.specs.Words.{State, Turn, bound_of, caller_in, invocation_of, process_of, state_at, state_of}
use Rattle.law_states.specs.Records.{item_of, owner_of_call, record_of, stage_of}
use Rattle.law_states.specs.Events.{Begins, IsCancelled}
use Rattle.law_places.specs.Counts.{free_descriptors}
use Rattle.law_places.specs.Places.{BecomesAnswered, BecomesEntered, HasEntered, IsAccept, IsBoundToInvalid, IsBoundToNoInvalid, IsCollect, IsReturn, NoticeBecomesEntered, answer_at}

-- the turn of place i ends the wait of a thread that was given call c: the thread enters c, and nothing else
pub record Enters (m : State) (xs : List Turn) (i : ℕ) (x : Turn) (c : ℕ) : Type 0 where
  pub no_request : x.request ≡ None
  pub was_given : state_of (state_at m xs i) x.thread ≡ is.Given (item.Call c)
  pub stage_before : stage_of (state_at m xs i) c ≡ Some (stage.Given (tid x.thread))
  pub stage_after : HasEntered (state_at m xs (i + 1)) x.thread c
  -- enough descriptors are free for the call's objects
  pub room : (r : Call) → record_of (state_at m xs i) c ≡ Some r → length r.objects ≤ free_descriptors (state_at m xs i) (process_of (state_at m xs i) x.thread)
  pub entered : BecomesEntered m xs c i
  pub nothing_else : (d : ℕ) → BecomesEntered m xs d i → d ≡ c
  pub no_notice : (n : ℕ) → NoticeBecomesEntered m xs n i → ⊥
  pub of_the_owner : owner_of_call (state_at m xs i) c ≡ Some (process_of (state_at m xs i) x.thread)
  pub free_before : invocation_of (state_at m xs i) x.thread ≡ None
  pub invocation_after : invocation_of (state_at m xs (i + 1)) x.thread ≡ Some (new_invocation (item.Call c))

-- The thread of the turn of place i waits again after it: it is idle since this event, or was given another item than call c at
-- once. Where it was bound to a door that is not valid, it was unbound instead, and will be told so.
pub data WaitsAgain (m : State) (xs : List Turn) (i : ℕ) (x : Turn) (c : ℕ) : Type 0 where
  is_idle :
      IsBoundToNoInvalid (state_at m xs i) x.thread → state_of (state_at m xs (i + 1)) x.thread ≡ is.Idle (i + 1) →
      WaitsAgain m xs i x c
  is_given :
      (other : Item) → IsBoundToNoInvalid (state_at m xs i) x.thread → (other ≡ item.Call c → ⊥) →
      state_of (state_at m xs (i + 1)) x.thread ≡ is.Given other → WaitsAgain m xs i x c
  has_failed :
      IsBoundToInvalid (state_at m xs i) x.thread → state_of (state_at m xs (i + 1)) x.thread ≡ is.FailedReturn →
      bound_of (state_at m xs (i + 1)) x.thread ≡ None → WaitsAgain m xs i x c

-- The turn of place i ends the wait of a thread that was given call c: its process has too few descriptors free for what comes
-- with the call, which ends with EMFILE; no call and no notice is entered, and the thread has no invocation. The thread waits again.
pub record FailsToEnter (m : State) (xs : List Turn) (i : ℕ) (x : Turn) (c : ℕ) : Type 0 where
  pub no_request : x.request ≡ None
  pub was_given : state_of (state_at m xs i) x.thread ≡ is.Given (item.Call c)
  pub stage_before : stage_of (state_at m xs i) c ≡ Some (stage.Given (tid x.thread))
  pub stage_after : stage_of (state_at m xs (i + 1)) c ≡ Some (stage.Ended EMFILE)
  pub answer : answer_at m xs i x ≡ answer.EnterFailed c
  -- too few descriptors are free for the call's objects
  pub full : (r : Call) → record_of (state_at m xs i) c ≡ Some r → free_descriptors (state_at m xs i) (process_of (state_at m xs i) x.thread) < length r.objects
  pub none_entered : (d : ℕ) → BecomesEntered m xs d i → ⊥
  pub no_notice : (n : ℕ) → NoticeBecomesEntered m xs n i → ⊥
  pub of_the_owner : owner_of_call (state_at m xs i) c ≡ Some (process_of (state_at m xs i) x.thread)
  pub free_after : invocation_of (state_at m xs (i + 1)) x.thread ≡ None
  pub parked : WaitsAgain m xs i x c

-- it was entered at an earlier turn
pub record WasEntered (m : State) (xs : List Turn) (i c : ℕ) : Type 0 where
  pub at : ℕ
  pub earlier : at < i
  pub entered : BecomesEntered m xs c at

-- the turn of place i collects a call that was entered at an earlier turn
pub record CollectsEntered (m : State) (xs : List Turn) (i : ℕ) (x : Turn) : Type 0 where
  pub call : ℕ
  pub collect : IsCollect m xs i x call
  pub answered : BecomesAnswered m xs call i
  pub was_entered : WasEntered m xs i call

-- after the turn of place i its thread is idle since this event, or was given an item at once
pub data IsParked (m : State) (xs : List Turn) (i : ℕ) (x : Turn) : Type 0 where
  is_idle : state_of (state_at m xs (i + 1)) x.thread ≡ is.Idle (i + 1) → IsParked m xs i x
  is_given : (got : Item) → state_of (state_at m xs (i + 1)) x.thread ≡ is.Given got → IsParked m xs i x

-- there is a call, thread t is its caller, and it is neither answered nor Gone
pub record IsLiveCallOf (o : Option Call) (t : ℕ) : Type 0 where
  pub call : Call
  pub there : o ≡ Some call
  pub same_caller : call.caller ≡ tid t
  pub live : is_live call.stage ≡ true

-- a Return parks its thread, and answers Wait
pub record ReturnParks (m : State) (xs : List Turn) (i : ℕ) (x : Turn) : Type 0 where
  pub answer : answer_at m xs i x ≡ answer.Wait
  pub parked : IsParked m xs i x

-- or it unbinds its thread, which goes on, and answers EINVAL
pub record ReturnUnbinds (m : State) (xs : List Turn) (i : ℕ) (x : Turn) : Type 0 where
  pub answer : answer_at m xs i x ≡ answer.Failure EINVAL
  pub running : state_of (state_at m xs (i + 1)) x.thread ≡ is.Running
  pub bound_to_none : bound_of (state_at m xs (i + 1)) x.thread ≡ None

-- the turn of place i answers EINVAL, and its thread goes on
pub record IsWoken (m : State) (xs : List Turn) (i : ℕ) (x : Turn) : Type 0 where
  pub answer : answer_at m xs i x ≡ answer.Failure EINVAL
  pub running : state_of (state_at m xs (i + 1)) x.thread ≡ is.Running

-- The invocation of thread t over the turn of place i: it stays as it is, begins at an accept of t that says so, has its flag set
-- where its client leaves, ends at a Return of t that is not refused, or leaves with the end of t.
pub data InvocationMoves (m : State) (xs : List Turn) (i : ℕ) (x : Turn) (t : ℕ) : Option Inv → Option Inv → Type 0 where
  stays : {v : Option Inv} → InvocationMoves m xs i x t v v
  begins :
      (of : Item) → t ≡ x.thread → x.request ≡ None → state_of (state_at m xs i) x.thread ≡ is.Given of → Begins (answer_at m xs i x) of →
      InvocationMoves m xs i x t None (Some (new_invocation of))
  cancels :
      (v : Inv) → IsCancelled (state_at m xs i) x.thread x.request (state_at m xs (i + 1)) t v →
      InvocationMoves m xs i x t (Some v) (Some (cancelled_invocation v))
  ends :
      (v : Inv) (bytes : List ℕ) (pass : List Pass) → t ≡ x.thread → IsReturn m xs i x bytes pass →
      InvocationMoves m xs i x t (Some v) None
  leaves : (v : Inv) → state_of (state_at m xs (i + 1)) t ≡ is.Done → InvocationMoves m xs i x t (Some v) None

pub record Once (m : State) (xs : List Turn) : Type 0 where
  pub entered_once : (c i j : ℕ) → BecomesEntered m xs c i → BecomesEntered m xs c j → i ≡ j
  pub answered_once : (c i j : ℕ) → BecomesAnswered m xs c i → BecomesAnswered m xs c j → i ≡ j
  pub accepts :
      (i c entry cookie : ℕ) (x : Turn) (bytes : List ℕ) (fds : List Fd) → slice_get xs i ≡ Some x →
      answer_at m xs i x ≡ answer.Entered c entry cookie bytes fds → Enters m xs i x c
  pub accept_fails :
      (i c : ℕ) (x : Turn) → slice_get xs i ≡ Some x → answer_at m xs i x ≡ answer.EnterFailed c → FailsToEnter m xs i x c
  -- the wait of a thread that was given a call ends by entering it, or fails to
  pub given_enters :
      (i c : ℕ) (x : Turn) → slice_get xs i ≡ Some x → x.request ≡ None → state_of (state_at m xs i) x.thread ≡ is.Given (item.Call c) →
      Enters m xs i x c ⊎ FailsToEnter m xs i x c
  pub only_by_accept : (i c : ℕ) (x : Turn) → slice_get xs i ≡ Some x → BecomesEntered m xs c i → IsAccept m xs i x c
  pub notices_enter_no_call :
      (i n entry cookie c : ℕ) (x : Turn) → slice_get xs i ≡ Some x →
      answer_at m xs i x ≡ answer.EnteredNotice n entry cookie → BecomesEntered m xs c i → ⊥
  -- the call that a thread has entered is its invocation's, so it is one
  pub in_its_invocation :
      (i t c : ℕ) → i ≤ length xs → HasEntered (state_at m xs i) t c → item_of (state_at m xs i) t ≡ Some (item.Call c)
  pub one_at_once :
      (i t c d : ℕ) → i ≤ length xs → HasEntered (state_at m xs i) t c → HasEntered (state_at m xs i) t d → c ≡ d
  -- so between two invocations of a thread lies a Return of it, or its end
  pub invocations :
      (i t : ℕ) (x : Turn) → slice_get xs i ≡ Some x →
      InvocationMoves m xs i x t (invocation_of (state_at m xs i) t) (invocation_of (state_at m xs (i + 1)) t)
  -- a Return that is not refused parks its thread, or unbinds it from a door that is not valid; a thread that lost its door while it
  -- was parked is told the same at its next turn
  pub return_parks :
      (i : ℕ) (x : Turn) (bytes : List ℕ) (pass : List Pass) → slice_get xs i ≡ Some x → IsReturn m xs i x bytes pass →
      IsBoundToNoInvalid (state_at m xs i) x.thread → ReturnParks m xs i x
  pub return_unbinds :
      (i : ℕ) (x : Turn) (bytes : List ℕ) (pass : List Pass) → slice_get xs i ≡ Some x → IsReturn m xs i x bytes pass →
      IsBoundToInvalid (state_at m xs i) x.thread → ReturnUnbinds m xs i x
  pub wakes :
      (i : ℕ) (x : Turn) → slice_get xs i ≡ Some x → x.request ≡ None → state_of (state_at m xs i) x.thread ≡ is.FailedReturn →
      IsWoken m xs i x
  -- in either case a Return leaves its thread without an invocation; and a thread that is Done has none
  pub return_ends :
      (i : ℕ) (x : Turn) (bytes : List ℕ) (pass : List Pass) → slice_get xs i ≡ Some x → IsReturn m xs i x bytes pass →
      invocation_of (state_at m xs (i + 1)) x.thread ≡ None
  pub none_when_done : (i t : ℕ) → i ≤ length xs → state_of (state_at m xs i) t ≡ is.Done → invocation_of (state_at m xs i) t ≡ None
  pub collects : (i c : ℕ) (x : Turn) → slice_get xs i ≡ Some x → IsCollect m xs i x c → BecomesAnswered m xs c i
  pub only_by_collect : (i c : ℕ) (x : Turn) → slice_get xs i ≡ Some x → BecomesAnswered m xs c i → IsCollect m xs i x c
  -- a thread that is Calling c is the caller of c, which is live
  pub calling_live :
      (i t c : ℕ) → i ≤ length xs → state_of (state_at m xs i) t ≡ is.Calling c → IsLiveCallOf (record_of (state_at m xs i) c) t
  -- from its Call to its collect a caller waits in this call alone
  pub caller_waits :
      (i c : ℕ) (r : Call) → i ≤ length xs → record_of (state_at m xs i) c ≡ Some r → is_live r.stage ≡ true →
      state_of (state_at m xs i) r.caller.0 ≡ is.Calling c
  -- the thread that collects a call is its caller
  pub collects_own :
      (i c : ℕ) (x : Turn) → slice_get xs i ≡ Some x → IsCollect m xs i x c →
      caller_in (record_of (state_at m xs i) c) ≡ Some x.thread
  pub results_after_entry :
      (i : ℕ) (x : Turn) (bytes : List ℕ) (fds : List Fd) (grown : Bool) → slice_get xs i ≡ Some x →
      answer_at m xs i x ≡ answer.Results bytes fds grown → CollectsEntered m xs i x
