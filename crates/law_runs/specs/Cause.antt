-- Cause: a Call is refused exactly where the first of its tests that holds says so; what a caller collects has its cause at the
-- one place where its call left the queue or its server, and each cause has its effect there; and a call that is live when its
-- caller ends is Gone for ever.
use Rattle.std.specs.Prelude.{ℕ, ◌≡◌, ◌+◌, ◌<◌, ◌≤◌, ◌↔◌, ◌⊎◌, List, true, false, Some, None, length, nat_lt, slice_get}
use Rattle.spec_kernel.specs.Types.{Answer, Call, Errno, Fd, Obj, Pass, Pid}
use Rattle.dk_base.specs.declared.error.Errno.TheVariants.{EBADF, EINTR, EMFILE}
use Rattle.dk_base.specs.declared.request.Request.TheVariants as request
use Rattle.dk_base.specs.declared.answer.Answer.TheVariants as answer
use Rattle.spec_records.specs.declared.record.CallStage.TheVariants as stage
use Rattle.spec_records.specs.declared.record.ThreadState.TheVariants as is
use Rattle.spec_records.specs.Words.{is_live, tid}
use Rattle.spec_kernel.specs.Words.{State, Turn, is_valid, state_at, state_of}
use Rattle.law_states.specs.Records.{record_of, stage_of}
use Rattle.law_states.specs.Core.{is_underway, underway_in}
use Rattle.law_states.specs.Arrows.{EndsNow}
use Rattle.law_places.specs.Counts.{free_descriptors}
use Rattle.law_places.specs.Places.{IsCollect, IsRefusedBy, MakesCall, ReturnsCall, answer_at, process_at}

-- the turn of place i is this Call
pub record IsCall (m : State) (xs : List Turn) (i : ℕ) (x : Turn) (fd : Fd) (bytes : List ℕ) : Type 0 where
  pub turn : slice_get xs i ≡ Some x
  pub pass : List Pass
  pub rsize : ℕ
  pub request : x.request ≡ Some (request.Call fd bytes pass rsize)

-- it makes a call
pub record MakesOne (m : State) (xs : List Turn) (i : ℕ) (x : Turn) : Type 0 where
  pub call : ℕ
  pub makes : MakesCall m xs i x call

-- place e is the last at which call c is underway: Queued, Given or Entered
pub record Leaves (m : State) (xs : List Turn) (c e : ℕ) : Type 0 where
  pub within : e < length xs
  pub underway : underway_in (record_of (state_at m xs e) c) ≡ true
  pub over : underway_in (record_of (state_at m xs (e + 1)) c) ≡ false

-- the process of a thread has a free descriptor for each of these at place i
abbrev pub HasRoomAt : State → List Turn → ℕ → ℕ → List Obj → Type 0
HasRoomAt m xs i t objects = length objects ≤ free_descriptors (state_at m xs i) (process_at m xs i t)

-- or it has fewer
abbrev pub HasTooFewAt : State → List Turn → ℕ → ℕ → List Obj → Type 0
HasTooFewAt m xs i t objects = free_descriptors (state_at m xs i) (process_at m xs i t) < length objects

-- The causes of what is collected at place k, by the turn z, of call c, which left at place e: a constructor for each. Which
-- numbers descriptors get is told by the law of what matches.
pub data Cause (m : State) (xs : List Turn) (c e k : ℕ) (z : Turn) : Answer → Type 0 where
  -- it was returned, and its caller's process has enough descriptors free at the collect: the bytes are the Return's, and grown
  -- where they are more than the caller had room for
  results :
      (r : Call) (w : Turn) (fds : List Fd) → record_of (state_at m xs e) c ≡ Some r → (back : ReturnsCall m xs e w c) →
      HasRoomAt m xs k z.thread back.objects → Cause m xs c e k z (answer.Results back.bytes fds (nat_lt r.rsize (length back.bytes)))
  -- it was returned, and its caller's process has too few descriptors free at the collect
  caller_full :
      (r : Call) (w : Turn) → record_of (state_at m xs e) c ≡ Some r → (back : ReturnsCall m xs e w c) →
      HasTooFewAt m xs k z.thread back.objects → Cause m xs c e k z (answer.Failure EMFILE)
  -- the thread that it was given to accepted it, and its process had too few descriptors free
  server_full :
      (r : Call) (w : Turn) → slice_get xs e ≡ Some w → w.request ≡ None → record_of (state_at m xs e) c ≡ Some r →
      r.stage ≡ stage.Given (tid w.thread) →
      answer_at m xs e w ≡ answer.EnterFailed c → HasTooFewAt m xs e w.thread r.objects →
      Cause m xs c e k z (answer.Failure EMFILE)
  -- it waited, its door became invalid, and its caller did not end
  door_invalid :
      (r : Call) → record_of (state_at m xs e) c ≡ Some r → r.stage ≡ stage.Queued → is_valid (state_at m xs e) r.door ≡ true →
      is_valid (state_at m xs (e + 1)) r.door ≡ false → (state_of (state_at m xs (e + 1)) r.caller.0 ≡ is.Done → ⊥) →
      Cause m xs c e k z (answer.Failure EBADF)
  -- it was underway, its caller was interrupted, and did not end
  interrupted :
      (r : Call) (w : Turn) → slice_get xs e ≡ Some w → record_of (state_at m xs e) c ≡ Some r → is_underway r.stage ≡ true →
      w.request ≡ Some (request.Interrupt r.caller) → (state_of (state_at m xs (e + 1)) r.caller.0 ≡ is.Done → ⊥) →
      Cause m xs c e k z (answer.Failure EINTR)
  -- it was underway, and another thread of its caller's process forked
  forked :
      (r : Call) (w : Turn) (child : Pid) → slice_get xs e ≡ Some w → record_of (state_at m xs e) c ≡ Some r → is_underway r.stage ≡ true →
      w.request ≡ Some (request.Fork child) → answer_at m xs e w ≡ answer.Child child → (w.thread ≡ r.caller.0 → ⊥) →
      process_at m xs e w.thread ≡ process_at m xs e r.caller.0 → Cause m xs c e k z (answer.Failure EINTR)
  -- the thread that it was given to, or that had entered it, ended, and its caller did not
  server_ended :
      (r : Call) (u : ℕ) → record_of (state_at m xs e) c ≡ Some r →
      (r.stage ≡ stage.Given (tid u)) ⊎ (r.stage ≡ stage.Entered (tid u)) → EndsNow (state_at m xs e) (state_at m xs (e + 1)) u →
      (state_of (state_at m xs (e + 1)) r.caller.0 ≡ is.Done → ⊥) → Cause m xs c e k z (answer.Failure EINTR)

-- the kinds of causes: one for each constructor
pub data CauseKind : Type 0 where
  results : CauseKind
  caller_full : CauseKind
  server_full : CauseKind
  door_invalid : CauseKind
  interrupted : CauseKind
  forked : CauseKind
  server_ended : CauseKind

abbrev pub kind_of :
    {m : State} → {xs : List Turn} → {c e k : ℕ} → {z : Turn} → {a : Answer} → Cause m xs c e k z a → CauseKind
kind_of (Cause.results _ _ _ _ _ _) = CauseKind.results
kind_of (Cause.caller_full _ _ _ _ _) = CauseKind.caller_full
kind_of (Cause.server_full _ _ _ _ _ _ _ _) = CauseKind.server_full
kind_of (Cause.door_invalid _ _ _ _ _ _) = CauseKind.door_invalid
kind_of (Cause.interrupted _ _ _ _ _ _ _) = CauseKind.interrupted
kind_of (Cause.forked _ _ _ _ _ _ _ _ _ _) = CauseKind.forked
kind_of (Cause.server_ended _ _ _ _ _ _) = CauseKind.server_ended

-- two answers of collects tell the same, but for the numbers of descriptors
abbrev pub TellsSame : Answer → Answer → Type 0
TellsSame (answer.Results bytes fds grown) (answer.Results others fds' grown') = (bytes ≡ others) × (grown ≡ grown')
TellsSame (answer.Failure e) (answer.Failure f) = e ≡ f
TellsSame a b = ⊥

-- what the collect of call c at place k answers has a cause at the earlier place where c left
pub record IsCaused (m : State) (xs : List Turn) (c k : ℕ) (z : Turn) : Type 0 where
  pub at : ℕ
  pub earlier : at < k
  pub leaves : Leaves m xs c at
  pub cause : Cause m xs c at k z (answer_at m xs k z)

pub record HasCause (m : State) (xs : List Turn) : Type 0 where
  pub refused :
      (i : ℕ) (x : Turn) (fd : Fd) (bytes : List ℕ) (e : Errno) → (asked : IsCall m xs i x fd bytes) →
      (answer_at m xs i x ≡ answer.Failure e) ↔ IsRefusedBy m xs i x.thread fd bytes asked.pass e
  pub not_refused :
      (i : ℕ) (x : Turn) (fd : Fd) (bytes : List ℕ) → (asked : IsCall m xs i x fd bytes) →
      ((e : Errno) → IsRefusedBy m xs i x.thread fd bytes asked.pass e → ⊥) → MakesOne m xs i x
  pub told : (k c : ℕ) (z : Turn) → slice_get xs k ≡ Some z → IsCollect m xs k z c → IsCaused m xs c k z
  -- it has one cause
  pub exact :
      (c e k : ℕ) (z : Turn) (a b : Answer) (p : Cause m xs c e k z a) (q : Cause m xs c e k z b) →
      TellsSame a b × (kind_of p ≡ kind_of q)
  -- where there is a cause the call leaves, whatever is collected of it later
  pub at_once : (c e k : ℕ) (z : Turn) (a : Answer) → Cause m xs c e k z a → Leaves m xs c e
  -- a call whose caller ended is Gone, or was answered before; one that is live when its caller ends is Gone from then on; and a
  -- call that is Gone is not collected
  pub gone :
      (i c : ℕ) (r : Call) → i ≤ length xs → record_of (state_at m xs i) c ≡ Some r → state_of (state_at m xs i) r.caller.0 ≡ is.Done →
      is_live r.stage ≡ false
  pub gone_for_ever :
      (i j c : ℕ) (r : Call) → i < j → j ≤ length xs → record_of (state_at m xs i) c ≡ Some r → is_live r.stage ≡ true →
      state_of (state_at m xs (i + 1)) r.caller.0 ≡ is.Done → stage_of (state_at m xs j) c ≡ Some stage.Gone
  -- and it is Gone only where its caller is Done
  pub gone_only :
      (i c : ℕ) (r : Call) → i ≤ length xs → record_of (state_at m xs i) c ≡ Some r → r.stage ≡ stage.Gone →
      state_of (state_at m xs i) r.caller.0 ≡ is.Done
  pub gone_unanswered :
      (i c : ℕ) (x : Turn) → slice_get xs i ≡ Some x → IsCollect m xs i x c → stage_of (state_at m xs i) c ≡ Some stage.Gone → ⊥
  pub left_once : (c e f : ℕ) → Leaves m xs c e → Leaves m xs c f → e ≡ f
