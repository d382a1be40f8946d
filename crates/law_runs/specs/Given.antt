-- Given: a call that was given to a thread stays with that thread until the thread accepts it, or the call ends. The thread is of the
-- process that made the call's door, is one that may serve it, and waits to accept the call. The call waits in no queue again, and is
-- with no other thread.
use Rattle.std.specs.Prelude.{ℕ, ◌≡◌, ◌+◌, ◌≤◌, ◌↔◌, ◌⊎◌, List, Some, length, slice_get}
use Rattle.spec_kernel.specs.Types.{Call, Pid}
use Rattle.dk_base.specs.declared.error.Errno.TheVariants.{EINTR, EMFILE}
use Rattle.dk_base.specs.declared.object.Item.TheVariants as item
use Rattle.dk_base.specs.declared.request.Request.TheVariants as request
use Rattle.dk_base.specs.declared.answer.Answer.TheVariants as answer
use Rattle.spec_records.specs.declared.record.CallStage.TheVariants as stage
use Rattle.spec_records.specs.declared.record.ThreadState.TheVariants as is
use Rattle.spec_records.specs.Words.{tid}
use Rattle.spec_kernel.specs.Words.{State, Turn, process_of, state_at, state_of}
use Rattle.law_states.specs.Records.{owner_of_call, record_of, stage_of}
use Rattle.law_states.specs.Arrows.{EndsNow}
use Rattle.law_places.specs.Places.{HasEntered, IsAccept, MayServe, answer_at}

-- call c was given to thread t, which has not accepted it
abbrev pub IsGiven : State → ℕ → ℕ → Type 0
IsGiven m c t = stage_of m c ≡ Some (stage.Given (tid t))

-- call c is with thread t: given to it, or entered by it
abbrev pub IsCallWith : State → ℕ → ℕ → Type 0
IsCallWith m c t = IsGiven m c t ⊎ HasEntered m t c

-- what becomes of call c, which was given to thread t, at the turn of place i
pub data GivenMoves (m : State) (xs : List Turn) (i : ℕ) (x : Turn) (c t : ℕ) : Type 0 where
  stays : IsGiven (state_at m xs (i + 1)) c t → GivenMoves m xs i x c t
  -- the turn is the thread's, which accepts it
  enters : x.thread ≡ t → IsAccept m xs i x c → HasEntered (state_at m xs (i + 1)) t c → GivenMoves m xs i x c t
  -- or its accept fails
  fails :
      x.thread ≡ t → answer_at m xs i x ≡ answer.EnterFailed c → stage_of (state_at m xs (i + 1)) c ≡ Some (stage.Ended EMFILE) →
      GivenMoves m xs i x c t
  caller_interrupted :
      (r : Call) → record_of (state_at m xs i) c ≡ Some r → x.request ≡ Some (request.Interrupt r.caller) →
      stage_of (state_at m xs (i + 1)) c ≡ Some (stage.Ended EINTR) → GivenMoves m xs i x c t
  caller_forked :
      (r : Call) (child : Pid) → record_of (state_at m xs i) c ≡ Some r → x.request ≡ Some (request.Fork child) →
      answer_at m xs i x ≡ answer.Child child → process_of (state_at m xs i) r.caller.0 ≡ process_of (state_at m xs i) x.thread →
      (x.thread ≡ r.caller.0 → ⊥) → stage_of (state_at m xs (i + 1)) c ≡ Some (stage.Ended EINTR) → GivenMoves m xs i x c t
  thread_ends :
      EndsNow (state_at m xs i) (state_at m xs (i + 1)) t → stage_of (state_at m xs (i + 1)) c ≡ Some (stage.Ended EINTR) →
      GivenMoves m xs i x c t
  caller_ends :
      (r : Call) → record_of (state_at m xs i) c ≡ Some r → EndsNow (state_at m xs i) (state_at m xs (i + 1)) r.caller.0 →
      stage_of (state_at m xs (i + 1)) c ≡ Some stage.Gone → GivenMoves m xs i x c t

pub record StaysGiven (m : State) (xs : List Turn) : Type 0 where
  -- a call was given to a thread exactly where the thread's state says so
  pub given_waits :
      (i t c : ℕ) → i ≤ length xs → IsGiven (state_at m xs i) c t ↔ (state_of (state_at m xs i) t ≡ is.Given (item.Call c))
  pub given_to_owner :
      (i t c : ℕ) → i ≤ length xs → IsGiven (state_at m xs i) c t →
      owner_of_call (state_at m xs i) c ≡ Some (process_of (state_at m xs i) t)
  -- that thread is bound to the call's door where that has a pool of its own, and else to none
  pub given_to_pool :
      (i t c : ℕ) (r : Call) → i ≤ length xs → record_of (state_at m xs i) c ≡ Some r → r.stage ≡ stage.Given (tid t) →
      MayServe (state_at m xs i) t r.door
  pub moves : (i c t : ℕ) (x : Turn) → slice_get xs i ≡ Some x → IsGiven (state_at m xs i) c t → GivenMoves m xs i x c t
  -- one that is with a thread is in no queue at a later place, and is with no other thread there
  pub waits_no_more :
      (i j c t : ℕ) → i ≤ j → j ≤ length xs → IsCallWith (state_at m xs i) c t → stage_of (state_at m xs j) c ≡ Some stage.Queued → ⊥
  pub same_thread :
      (i j c t u : ℕ) → i ≤ j → j ≤ length xs → IsCallWith (state_at m xs i) c t → IsCallWith (state_at m xs j) c u → u ≡ t
