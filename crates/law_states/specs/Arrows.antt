-- The arrows of calls and of notices: from the state before an event to the state after it each record stays as it is or takes
-- arrows of these tables. An arrow keeps each field of the record that it doesn't name, and says what the event answers.
use Rattle.std.specs.Prelude.{ℕ, ◌≡◌, ◌⊎◌, List, Option, Bool, true, false, Some, None, length, nat_lt}
use Rattle.spec_kernel.specs.Types.{Answer, Call, Door, Errno, Fd, Notice, Obj, Pass, Pid, Request}
use Rattle.dk_base.specs.declared.error.Errno.TheVariants.{EBADF, EINTR, EMFILE}
use Rattle.dk_base.specs.declared.object.Obj.TheVariants as obj
use Rattle.dk_base.specs.declared.object.Item.TheVariants as item
use Rattle.dk_base.specs.declared.request.Request.TheVariants as request
use Rattle.dk_base.specs.declared.answer.Answer.TheVariants as answer
use Rattle.spec_records.specs.declared.record.ThreadState.TheVariants as is
use Rattle.spec_records.specs.declared.record.CallStage.TheVariants as stage
use Rattle.spec_records.specs.declared.record.NoticeStage.TheVariants as notice
use Rattle.spec_records.specs.Words.{abandoned_at, at_stage, cookie_of, entry_of, first_refusal, gone_call_at, is_live, new_descriptors, notice_at, objects_passed, tid, without_arguments_at}
use Rattle.spec_kernel.specs.Words.{State, call_tests, door_of, falls_to_one, forking_tests, has_room, is_valid, may_have_notice, new_call, now, object_at, process_of, return_answer, return_tests, state_of, table_of}
use Rattle.law_states.specs.Core.{has_arguments}

-- the table of a thread's process
abbrev pub own_table : State → ℕ → List (Option Obj)
own_table m t = table_of m (process_of m t)

-- whether it has a free descriptor for each of these
abbrev pub has_own_room : State → ℕ → List Obj → Bool
has_own_room m t objects = has_room m (process_of m t) objects

-- a thread is Done only after the event
pub record EndsNow (m n : State) (u : ℕ) : Type 0 where
  pub before : state_of m u ≡ is.Done → ⊥
  pub after : state_of n u ≡ is.Done

-- The turn of thread t interrupts thread u: it asks for that, or it is a Fork that is not refused, and u another thread of its process.
pub data Interrupts (m : State) (t : ℕ) (q : Option Request) (u : ℕ) : Type 0 where
  asked : q ≡ Some (request.Interrupt (tid u)) → Interrupts m t q u
  forked :
      (child : Pid) → q ≡ Some (request.Fork child) → first_refusal (forking_tests m child.0) ≡ None → process_of m u ≡ process_of m t →
      (u ≡ t → ⊥) → Interrupts m t q u

-- Why a call ends without results, by an act of thread t from state m to state n: a constructor for each cause. The caller does
-- not end in the event.
pub data EndsBy (m : State) (t : ℕ) (q : Option Request) (a : Answer) (n : State) (r : Call) : Errno → Type 0 where
  -- the door of a waiting call becomes invalid
  door_invalid :
      r.stage ≡ stage.Queued → is_valid m r.door ≡ true → is_valid n r.door ≡ false → (state_of n r.caller.0 ≡ is.Done → ⊥) →
      EndsBy m t q a n r EBADF
  -- the thread that it was given to accepts it, and its process has too few descriptors free for the call's objects
  server_full :
      q ≡ None → state_of m t ≡ is.Given (item.Call r.number) → r.stage ≡ stage.Given (tid t) →
      has_own_room m t r.objects ≡ false → a ≡ answer.EnterFailed r.number → EndsBy m t q a n r EMFILE
  -- its caller is interrupted before a thread has entered it
  interrupted :
      Interrupts m t q r.caller.0 → has_arguments r.stage ≡ true → (state_of n r.caller.0 ≡ is.Done → ⊥) →
      EndsBy m t q a n r EINTR
  -- the thread that it was given to, or that has entered it, ends
  server_ended :
      (u : ℕ) → (r.stage ≡ stage.Given (tid u)) ⊎ (r.stage ≡ stage.Entered (tid u)) → EndsNow m n u →
      (state_of n r.caller.0 ≡ is.Done → ⊥) → EndsBy m t q a n r EINTR

-- by the act of thread t, with request q or the end of its wait and answer a, from state m to state n
pub data ByAct (m : State) (t : ℕ) (q : Option Request) (a : Answer) (n : State) : Option Call → Option Call → Type 0 where
  stays : {o : Option Call} → ByAct m t q a n o o
  -- new to Queued, at a Call of its caller through a descriptor of a door, that is not refused
  makes :
      (d rsize : ℕ) (fd : Fd) (bytes : List ℕ) (pass : List Pass) → q ≡ Some (request.Call fd bytes pass rsize) →
      object_at m (process_of m t) fd ≡ Some (obj.Door d) → first_refusal (call_tests m (process_of m t) fd bytes pass) ≡ None →
      a ≡ answer.WaitCall (new_call m t d bytes (objects_passed (own_table m t) pass) rsize).number →
      ByAct m t q a n None (Some (new_call m t d bytes (objects_passed (own_table m t) pass) rsize))
  -- Given to Entered, at the accept of the thread that it was given to, with a descriptor for each of its objects
  enters :
      (r : Call) → q ≡ None → state_of m t ≡ is.Given (item.Call r.number) → r.stage ≡ stage.Given (tid t) →
      has_own_room m t r.objects ≡ true →
      a ≡ answer.Entered r.number (entry_of (door_of m r.door)) (cookie_of (door_of m r.door)) r.bytes (new_descriptors (own_table m t) r.objects) →
      ByAct m t q a n (Some r) (Some (without_arguments_at (stage.Entered (tid t)) r))
  -- Entered to Returned, at a Return of the thread that entered it, that is not refused
  returns :
      (r : Call) (bytes : List ℕ) (pass : List Pass) → q ≡ Some (request.Return bytes pass) →
      first_refusal (return_tests m t (process_of m t) bytes pass) ≡ None → r.stage ≡ stage.Entered (tid t) → r.abandoned ≡ false →
      a ≡ return_answer m t →
      ByAct m t q a n (Some r) (Some (without_arguments_at (stage.Returned bytes (objects_passed (own_table m t) pass)) r))
  -- to Ended
  ends :
      (r : Call) (e : Errno) → EndsBy m t q a n r e → ByAct m t q a n (Some r) (Some (without_arguments_at (stage.Ended e) r))
  -- Entered to Ended, where its caller is interrupted: the thread that entered it stays in its invocation
  breaks_off :
      (r : Call) (u : ℕ) → Interrupts m t q r.caller.0 → r.stage ≡ stage.Entered (tid u) →
      (state_of n r.caller.0 ≡ is.Done → ⊥) → ByAct m t q a n (Some r) (Some (abandoned_at (stage.Ended EINTR) r))
  -- to Gone, where its caller ends
  leaves :
      (r : Call) → is_live r.stage ≡ true → EndsNow m n r.caller.0 → ByAct m t q a n (Some r) (Some (gone_call_at r.stage r))
  -- Returned to Answered, at the collect of its caller, with a descriptor for each of the objects
  collects_results :
      (r : Call) (bytes : List ℕ) (objects : List Obj) → q ≡ None → state_of m t ≡ is.Calling r.number → r.caller.0 ≡ t →
      r.stage ≡ stage.Returned bytes objects → has_own_room m t objects ≡ true →
      a ≡ answer.Results bytes (new_descriptors (own_table m t) objects) (nat_lt r.rsize (length bytes)) →
      ByAct m t q a n (Some r) (Some (without_arguments_at (stage.Answered (now m)) r))
  -- the same where too few descriptors are free
  collects_nothing :
      (r : Call) (bytes : List ℕ) (objects : List Obj) → q ≡ None → state_of m t ≡ is.Calling r.number → r.caller.0 ≡ t →
      r.stage ≡ stage.Returned bytes objects → has_own_room m t objects ≡ false → a ≡ answer.Failure EMFILE →
      ByAct m t q a n (Some r) (Some (without_arguments_at (stage.Answered (now m)) r))
  -- Ended to Answered, at the collect of its caller
  collects_error :
      (r : Call) (e : Errno) → q ≡ None → state_of m t ≡ is.Calling r.number → r.caller.0 ≡ t → r.stage ≡ stage.Ended e →
      a ≡ answer.Failure e → ByAct m t q a n (Some r) (Some (without_arguments_at (stage.Answered (now m)) r))

-- by the giving that follows any act
pub data ByGiving : Option Call → Option Call → Type 0 where
  stays : {o : Option Call} → ByGiving o o
  gives : (r : Call) (u : ℕ) → r.stage ≡ stage.Queued → ByGiving (Some r) (Some (at_stage (stage.Given (tid u)) r))

-- Notices. By the act of thread t and the rule that makes them, from state m to state n.
pub data NoticeByAct (m : State) (t : ℕ) (q : Option Request) (a : Answer) (n : State) : Option Notice → Option Notice → Type 0 where
  stays : {o : Option Notice} → NoticeByAct m t q a n o o
  -- new to Waiting, where the references of a door fall to one
  makes :
      (x : Notice) (d : Door) → door_of n x.door ≡ Some d → may_have_notice m x.door d ≡ true → falls_to_one m n x.door ≡ true → x.stage ≡ notice.Waiting → x.made ≡ now m →
      NoticeByAct m t q a n None (Some x)
  -- Given to Entered, at the accept of the thread that it was given to
  enters :
      (x : Notice) → q ≡ None → state_of m t ≡ is.Given (item.Notice x.number) → x.stage ≡ notice.Given (tid t) →
      a ≡ answer.EnteredNotice x.number (entry_of (door_of m x.door)) (cookie_of (door_of m x.door)) →
      NoticeByAct m t q a n (Some x) (Some (notice_at (notice.Entered (tid t)) x))
  -- Entered to Over, at a Return of the thread that entered it, that is not refused
  returns :
      (x : Notice) (bytes : List ℕ) (pass : List Pass) → q ≡ Some (request.Return bytes pass) →
      first_refusal (return_tests m t (process_of m t) bytes pass) ≡ None → x.stage ≡ notice.Entered (tid t) →
      NoticeByAct m t q a n (Some x) (Some (notice_at notice.Over x))
  -- Waiting to Dropped, where its door becomes invalid
  drops :
      (x : Notice) → x.stage ≡ notice.Waiting → is_valid m x.door ≡ true → is_valid n x.door ≡ false →
      NoticeByAct m t q a n (Some x) (Some (notice_at notice.Dropped x))
  -- to Over, where the thread ends that it was given to or that has entered it
  ends :
      (x : Notice) (u : ℕ) → (x.stage ≡ notice.Given (tid u)) ⊎ (x.stage ≡ notice.Entered (tid u)) → EndsNow m n u →
      NoticeByAct m t q a n (Some x) (Some (notice_at notice.Over x))

-- by the giving that follows
pub data NoticeByGiving : Option Notice → Option Notice → Type 0 where
  stays : {o : Option Notice} → NoticeByGiving o o
  gives : (x : Notice) (u : ℕ) → x.stage ≡ notice.Waiting → NoticeByGiving (Some x) (Some (notice_at (notice.Given (tid u)) x))

pub record NoticeArrow (m : State) (t : ℕ) (q : Option Request) (a : Answer) (n : State) (before after : Option Notice) : Type 0 where
  pub between : Option Notice
  pub act : NoticeByAct m t q a n before between
  pub giving : NoticeByGiving between after

-- one event may take two: a new call is Queued and then Given
pub record Arrow (m : State) (t : ℕ) (q : Option Request) (a : Answer) (n : State) (before after : Option Call) : Type 0 where
  pub between : Option Call
  pub act : ByAct m t q a n before between
  pub giving : ByGiving between after
