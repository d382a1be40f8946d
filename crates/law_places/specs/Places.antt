-- What is said of a place in a run: what its turn answers, what becomes true there, which turns make, enter, return and collect
-- a call, and where a notice stands. The states before and after the turn of place i are those at i and at i + 1.
use Rattle.std.specs.Prelude.{ℕ, ◌≡◌, ◌+◌, ◌<◌, List, Option, Bool, true, false, Some, None, length, map, slice_get}
use Rattle.spec_kernel.specs.Types.{Answer, Call, CallStage, Door, Errno, Fd, Notice, NoticeStage, Obj, Pass}
use Rattle.dk_base.specs.declared.error.Errno.TheVariants.{EINVAL}
use Rattle.dk_base.specs.declared.object.Obj.TheVariants as obj
use Rattle.dk_base.specs.declared.request.Request.TheVariants as request
use Rattle.dk_base.specs.declared.answer.Answer.TheVariants as answer
use Rattle.spec_records.specs.declared.record.CallStage.TheVariants as stage
use Rattle.spec_records.specs.declared.record.NoticeStage.TheVariants as notice
use Rattle.spec_records.specs.declared.record.ThreadState.TheVariants as is
use Rattle.spec_records.specs.Words.{tid}
use Rattle.spec_kernel.specs.Words.{State, Turn, bound_of, door_of, is_valid, object_at, process_of, state_at, state_of, step}
use Rattle.law_states.specs.Records.{notice_of, owner_in, record_of, stage_of}
use Rattle.law_states.specs.Core.{abandoned_in, has_arguments, notice_in}
use Rattle.law_states.specs.Events.{IsSameDoor}
use Rattle.law_places.specs.Counts.{has_own_pool}
use Rattle.law_places.specs.Refusals.{Refusal, ReturnRefusal}

-- what the turn of place i answers, if it is this turn
abbrev pub answer_at : State → List Turn → ℕ → Turn → Answer
answer_at m xs i x = (step (state_at m xs i) x.thread x.request).answer

-- the process of a thread at place i
abbrev pub process_at : State → List Turn → ℕ → ℕ → ℕ
process_at m xs i t = process_of (state_at m xs i) t

-- stages of a call, of which there is a record

abbrev pub is_entered_stage : CallStage → Bool
is_entered_stage (stage.Entered u) = true
is_entered_stage _ = false

abbrev pub is_returned_stage : CallStage → Bool
is_returned_stage (stage.Returned bytes objects) = true
is_returned_stage _ = false

abbrev pub is_answered_stage : CallStage → Bool
is_answered_stage (stage.Answered k) = true
is_answered_stage _ = false

abbrev pub is_entered_in : Option Call → Bool
is_entered_in None = false
is_entered_in (Some r) = is_entered_stage r.stage

abbrev pub is_returned_in : Option Call → Bool
is_returned_in None = false
is_returned_in (Some r) = is_returned_stage r.stage

abbrev pub is_answered_in : Option Call → Bool
is_answered_in None = false
is_answered_in (Some r) = is_answered_stage r.stage

abbrev pub is_entered : State → ℕ → Bool
is_entered m c = is_entered_in (record_of m c)

abbrev pub is_returned : State → ℕ → Bool
is_returned m c = is_returned_in (record_of m c)

abbrev pub is_answered : State → ℕ → Bool
is_answered m c = is_answered_in (record_of m c)

-- at the turn of place i a test becomes true
pub record Becomes (test : State → Bool) (m : State) (xs : List Turn) (i : ℕ) : Type 0 where
  pub within : i < length xs
  pub before : test (state_at m xs i) ≡ false
  pub after : test (state_at m xs (i + 1)) ≡ true

abbrev pub BecomesEntered : State → List Turn → ℕ → ℕ → Type 0
BecomesEntered m xs c i = Becomes (λ n. is_entered n c) m xs i

abbrev pub BecomesReturned : State → List Turn → ℕ → ℕ → Type 0
BecomesReturned m xs c i = Becomes (λ n. is_returned n c) m xs i

abbrev pub BecomesAnswered : State → List Turn → ℕ → ℕ → Type 0
BecomesAnswered m xs c i = Becomes (λ n. is_answered n c) m xs i

-- thread t has entered call c, which has not left it
abbrev pub HasEntered : State → ℕ → ℕ → Type 0
HasEntered m t c = stage_of m c ≡ Some (stage.Entered (tid t))

-- where a notice stands, of which there is a record

abbrev pub notice_stage_of : State → ℕ → Option NoticeStage
notice_stage_of m c = notice_in (notice_of m c)

abbrev pub is_entered_notice_stage : NoticeStage → Bool
is_entered_notice_stage (notice.Entered u) = true
is_entered_notice_stage _ = false

abbrev pub is_entered_notice_in : Option Notice → Bool
is_entered_notice_in None = false
is_entered_notice_in (Some x) = is_entered_notice_stage x.stage

abbrev pub is_notice_entered : State → ℕ → Bool
is_notice_entered m c = is_entered_notice_in (notice_of m c)

abbrev pub NoticeBecomesEntered : State → List Turn → ℕ → ℕ → Type 0
NoticeBecomesEntered m xs c i = Becomes (λ n. is_notice_entered n c) m xs i

-- thread t has entered notice c, and is still in it
abbrev pub HasEnteredNotice : State → ℕ → ℕ → Type 0
HasEnteredNotice m t c = notice_stage_of m c ≡ Some (notice.Entered (tid t))

abbrev pub notice_door : State → Option Notice → Option Door
notice_door m None = None
notice_door m (Some x) = door_of m x.door

-- the door of a notice
abbrev pub door_of_notice : State → ℕ → Option Door
door_of_notice m c = notice_door m (notice_of m c)

-- the process that made the door of a notice
abbrev pub owner_of_notice : State → ℕ → Option ℕ
owner_of_notice m c = owner_in (door_of_notice m c)

-- the procedure and the cookie of a door that is there
pub record IsOf (o : Option Door) (entry cookie : ℕ) : Type 0 where
  pub door : Door
  pub there : o ≡ Some door
  pub same_entry : entry ≡ door.entry
  pub same_cookie : cookie ≡ door.cookie

-- a door is there later too, and is the same
pub record IsKept (d : Door) (later : Option Door) : Type 0 where
  pub door : Door
  pub there : later ≡ Some door
  pub same : IsSameDoor d door

-- the objects that descriptors name in the table of a process

abbrev pub objects_named : State → ℕ → List Pass → List (Option Obj)
objects_named m p pass = map (λ x. object_at m p x.fd) pass

abbrev pub objects_at : State → ℕ → List Fd → List (Option Obj)
objects_at m p fds = map (λ fd. object_at m p fd) fds

-- at place i a Call of thread t through this descriptor, of these bytes and descriptors, is refused with this error
abbrev pub IsRefusedBy : State → List Turn → ℕ → ℕ → Fd → List ℕ → List Pass → Errno → Type 0
IsRefusedBy m xs i t fd bytes pass e =
    Refusal (state_at m xs i) (process_at m xs i t) (length bytes) pass (object_at (state_at m xs i) (process_at m xs i t) fd) e

-- the turn of place i is a Call, through a descriptor of a door, that makes call c
pub record MakesCall (m : State) (xs : List Turn) (i : ℕ) (x : Turn) (c : ℕ) : Type 0 where
  pub turn : slice_get xs i ≡ Some x
  pub fd : Fd
  pub bytes : List ℕ
  pub pass : List Pass
  pub rsize : ℕ
  pub door : ℕ
  pub request : x.request ≡ Some (request.Call fd bytes pass rsize)
  pub names_door : object_at (state_at m xs i) (process_at m xs i x.thread) fd ≡ Some (obj.Door door)
  pub not_refused : (e : Errno) → IsRefusedBy m xs i x.thread fd bytes pass e → ⊥
  pub answer : answer_at m xs i x ≡ answer.WaitCall c
  pub none_before : record_of (state_at m xs i) c ≡ None
  -- the new record: the call is Queued, or Given at once
  pub made : Call
  pub there : record_of (state_at m xs (i + 1)) c ≡ Some made
  pub number : made.number ≡ c
  pub same_caller : made.caller ≡ tid x.thread
  pub same_door : made.door ≡ door
  pub same_bytes : made.bytes ≡ bytes
  pub same_rsize : made.rsize ≡ rsize
  pub not_abandoned : made.abandoned ≡ false
  pub waits : has_arguments made.stage ≡ true

-- call c is entered by the accept at the turn of place i
pub record IsAccept (m : State) (xs : List Turn) (i : ℕ) (x : Turn) (c : ℕ) : Type 0 where
  pub entry : ℕ
  pub cookie : ℕ
  pub bytes : List ℕ
  pub descriptors : List Fd
  pub answer : answer_at m xs i x ≡ answer.Entered c entry cookie bytes descriptors

-- at place i a Return of thread t, of these bytes and descriptors, is refused with this error
abbrev pub IsReturnRefusedBy : State → List Turn → ℕ → ℕ → List ℕ → List Pass → Errno → Type 0
IsReturnRefusedBy m xs i t bytes pass e = ReturnRefusal (state_at m xs i) t (process_at m xs i t) (length bytes) pass e

-- The turn of place i is this Return, and it is not refused. The answer does not tell: a Return with its effects answers EINVAL too,
-- where its thread is bound to a door that is not valid.
pub record IsReturn (m : State) (xs : List Turn) (i : ℕ) (x : Turn) (bytes : List ℕ) (pass : List Pass) : Type 0 where
  pub asked : x.request ≡ Some (request.Return bytes pass)
  pub not_refused : (e : Errno) → IsReturnRefusedBy m xs i x.thread bytes pass e → ⊥

-- thread t is bound to a door that is not valid
pub record IsBoundToInvalid (m : State) (t : ℕ) : Type 0 where
  pub door : ℕ
  pub bound : bound_of m t ≡ Some door
  pub not_valid : is_valid m door ≡ false

-- thread t is bound to no door, or to a valid one
abbrev pub IsBoundToNoInvalid : State → ℕ → Type 0
IsBoundToNoInvalid m t = (d : ℕ) → bound_of m t ≡ Some d → is_valid m d ≡ true

-- thread t may serve door d: it is bound to it where the door has a pool of its own, and else to no door and of the process that
-- made it
pub data MayServe (m : State) (t d : ℕ) : Type 0 where
  bound : has_own_pool (door_of m d) ≡ true → bound_of m t ≡ Some d → MayServe m t d
  unbound :
      has_own_pool (door_of m d) ≡ false → bound_of m t ≡ None → owner_in (door_of m d) ≡ Some (process_of m t) → MayServe m t d

-- what a Return of thread t answers that is not refused
pub data ReturnAnswers (m : State) (t : ℕ) : Answer → Type 0 where
  waits : IsBoundToNoInvalid m t → ReturnAnswers m t answer.Wait
  unbound : IsBoundToInvalid m t → ReturnAnswers m t (answer.Failure EINVAL)

-- the turn of place i is a Return, by the thread that has entered call c, that hands over the results of c
pub record ReturnsCall (m : State) (xs : List Turn) (i : ℕ) (x : Turn) (c : ℕ) : Type 0 where
  pub turn : slice_get xs i ≡ Some x
  pub bytes : List ℕ
  pub pass : List Pass
  pub is_return : IsReturn m xs i x bytes pass
  pub answer : ReturnAnswers (state_at m xs i) x.thread (answer_at m xs i x)
  pub was_entered : HasEntered (state_at m xs i) x.thread c
  pub not_abandoned : abandoned_in (record_of (state_at m xs i) c) ≡ false
  pub objects : List Obj
  pub is_returned : stage_of (state_at m xs (i + 1)) c ≡ Some (stage.Returned bytes objects)

-- the turn of place i ends the wait of a thread that was Calling c
pub record IsCollect (m : State) (xs : List Turn) (i : ℕ) (x : Turn) (c : ℕ) : Type 0 where
  pub no_request : x.request ≡ None
  pub calling : state_of (state_at m xs i) x.thread ≡ is.Calling c
