-- What every event does: it keeps the invariant; the record of each call and of each notice takes arrows of its table, and the
-- invocation of each thread one of its own; a door that is due has just one notice more; what its answer tells is so; doors are
-- made and kept; a refused entry changes nothing; and only an entry of leaving, or the end of a wait of a thread that is bound to
-- a door that is not valid, leaves a thread idle that is so bound.
use Rattle.std.specs.Prelude.{ℕ, ◌≡◌, ◌+◌, ◌⊎◌, Option, List, Some, None, Bool, false, true}
use Rattle.spec_kernel.specs.Types.{Answer, Call, Door, Errno, Fd, Inv, Item, Notice, Pass, Request, ThreadState}
use Rattle.dk_base.specs.declared.error.Errno.TheVariants.{EMFILE}
use Rattle.dk_base.specs.declared.object.Item.TheVariants as item
use Rattle.dk_base.specs.declared.request.Request.TheVariants as request
use Rattle.dk_base.specs.declared.answer.Answer.TheVariants as answer
use Rattle.spec_records.specs.declared.record.ThreadState.TheVariants as is
use Rattle.spec_records.specs.declared.record.CallStage.TheVariants as stage
use Rattle.spec_records.specs.Words.{cancelled_invocation, first_refusal, is_given_as, is_given_notice_as, is_to_collect_as, new_invocation, no_cancel_of, tid}
use Rattle.spec_kernel.specs.Words.{State, act, can_end_getting, door_of, falls_to_one, find_call, find_notice, has_invalid_door, has_lost_door, invocation_of, may_have_notice, name_of, process_of, refusal_of, return_answer, return_tests, state_of, step, with_event_counted}
use Rattle.law_states.specs.Records.{notice_of, record_of, stage_of}
use Rattle.law_states.specs.Coherent.{is_fit_wait}
use Rattle.law_states.specs.Invariant.{Invariant}
use Rattle.law_states.specs.Arrows.{Arrow, EndsNow, Interrupts, NoticeArrow}

-- the answer says that an invocation of this item begins
abbrev pub Begins : Answer → Item → Type 0
Begins (answer.Entered c entry cookie bytes fds) i = i ≡ item.Call c
Begins (answer.EnteredNotice n entry cookie) i = i ≡ item.Notice n
Begins a i = ⊥

-- the caller of a call leaves it by the event: it is interrupted, or ends
pub data IsLeft (m : State) (t : ℕ) (q : Option Request) (n : State) (r : Call) : Type 0 where
  interrupted : Interrupts m t q r.caller.0 → IsLeft m t q n r
  caller_ends : EndsNow m n r.caller.0 → IsLeft m t q n r

-- thread u has entered this call, whose door does not bar cancels, and whose caller leaves it by the event of thread t
pub record IsCancelled (m : State) (t : ℕ) (q : Option Request) (n : State) (u : ℕ) (v : Inv) : Type 0 where
  pub call : Call
  pub item : v.item ≡ item.Call call.number
  pub there : record_of m call.number ≡ Some call
  pub entered : call.stage ≡ stage.Entered (tid u)
  pub may_cancel : no_cancel_of (door_of m call.door) ≡ false
  pub is_left : IsLeft m t q n call

-- The invocation of thread u, by an event of thread t: it stays, begins at an accept of its own, has its flag set where its client
-- leaves, ends at a Return of its own that is not refused, or leaves with its thread.
pub data InvocationArrow (m : State) (t : ℕ) (q : Option Request) (a : Answer) (n : State) (u : ℕ) : Option Inv → Option Inv → Type 0 where
  stays : {v : Option Inv} → InvocationArrow m t q a n u v v
  begins :
      (i : Item) → u ≡ t → q ≡ None → state_of m t ≡ is.Given i → Begins a i →
      InvocationArrow m t q a n u None (Some (new_invocation i))
  cancels : (v : Inv) → IsCancelled m t q n u v → InvocationArrow m t q a n u (Some v) (Some (cancelled_invocation v))
  ends :
      (v : Inv) (bytes : List ℕ) (pass : List Pass) → u ≡ t → q ≡ Some (request.Return bytes pass) →
      first_refusal (return_tests m t (process_of m t) bytes pass) ≡ None → a ≡ return_answer m t →
      InvocationArrow m t q a n u (Some v) None
  leaves : (v : Inv) → state_of n u ≡ is.Done → InvocationArrow m t q a n u (Some v) None

-- A door, by an event of thread t: it stays, or it is new, made by a Create of this thread with these attributes, and
-- belongs to the thread's process. What a door keeps is its number, owner, procedure, cookie and attributes.
pub record IsSameDoor (d e : Door) : Type 0 where
  pub number : e.number ≡ d.number
  pub owner : e.owner ≡ d.owner
  pub entry : e.entry ≡ d.entry
  pub cookie : e.cookie ≡ d.cookie
  pub attrs : e.attrs ≡ d.attrs

pub record IsCreated (m : State) (t : ℕ) (q : Option Request) (d : Door) : Type 0 where
  pub request : q ≡ Some (request.Create d.entry d.cookie d.attrs)
  pub owner : d.owner.0 ≡ process_of m t

pub data DoorArrow (m : State) (t : ℕ) (q : Option Request) : Option Door → Option Door → Type 0 where
  none : DoorArrow m t q None None
  kept : (d e : Door) → IsSameDoor d e → DoorArrow m t q (Some d) (Some e)
  created : (d : Door) → IsCreated m t q d → DoorArrow m t q None (Some d)

-- a Call of thread t made call c
pub record IsCallOf (q : Option Request) (c made : ℕ) : Type 0 where
  pub fd : Fd
  pub bytes : List ℕ
  pub pass : List Pass
  pub rsize : ℕ
  pub request : q ≡ Some (request.Call fd bytes pass rsize)
  pub next : c ≡ made + 1

-- thread t waits for the answer of a call
pub record IsCaller (m : State) (t : ℕ) : Type 0 where
  pub call : ℕ
  pub calling : state_of m t ≡ is.Calling call

-- of which act an answer tells
abbrev pub IsToldBy : State → ℕ → Option Request → Answer → Type 0
IsToldBy m t q (answer.WaitCall c) = IsCallOf q c m.call_tree.made
IsToldBy m t q (answer.Entered c entry cookie bytes fds) = (q ≡ None) × (state_of m t ≡ is.Given (item.Call c))
IsToldBy m t q (answer.EnterFailed c) = (q ≡ None) × (state_of m t ≡ is.Given (item.Call c))
IsToldBy m t q (answer.EnteredNotice n entry cookie) = (q ≡ None) × (state_of m t ≡ is.Given (item.Notice n))
IsToldBy m t q (answer.Results bytes fds grown) = (q ≡ None) × IsCaller m t
IsToldBy m t q a = Unit {0}

-- there is a record
pub record IsMade {X : Type 0} (o : Option X) : Type 0 where
  pub made : X
  pub there : o ≡ Some made

-- a call that a thread was given is entered by it, or ends since too few descriptors are free for its objects
abbrev pub IsAcceptedNow : State → ℕ → ℕ → Type 0
IsAcceptedNow n t c = (stage_of n c ≡ Some (stage.Entered (tid t))) ⊎ (stage_of n c ≡ Some (stage.Ended EMFILE))

-- the call is answered, at this event
abbrev pub IsAnsweredNow : State → State → ℕ → Type 0
IsAnsweredNow m n c = stage_of n c ≡ Some (stage.Answered (m.events + 1))

-- what a thread waits for is there, and nothing else ends a wait
abbrev pub IsReadyEnd : State → ℕ → ThreadState → Type 0
IsReadyEnd m t (is.Given (item.Call c)) = IsMade (find_call m (is_given_as c t))
IsReadyEnd m t (is.Given (item.Notice c)) = IsMade (find_notice m (is_given_notice_as c t))
IsReadyEnd m t (is.Calling c) = IsMade (find_call m (is_to_collect_as c))
IsReadyEnd m t (is.Getting port max nget one marked) =
    (can_end_getting m port nget marked ≡ true) × (is_fit_wait max nget one ≡ true)
IsReadyEnd m t (is.Awaiting path) = IsMade (name_of m path)
IsReadyEnd m t (is.Working op input) = Unit {0}
IsReadyEnd m t is.FailedReturn = Unit {0}
IsReadyEnd m t s = ⊥

-- where a turn ends a wait
abbrev pub IsReadyTurn : State → ℕ → Option Request → Type 0
IsReadyTurn m t (Some r) = Unit {0}
IsReadyTurn m t None = IsReadyEnd m t (state_of m t)

-- an entry by which callers, threads or doors leave
abbrev pub is_leaving : Request → Bool
is_leaving (request.Revoke fd) = true
is_leaving (request.Interrupt thread) = true
is_leaving (request.Kill process) = true
is_leaving request.Exit = true
is_leaving (request.Fork child) = true
is_leaving _ = false

-- a turn whose act can leave a thread idle that is bound to a door that is not valid: an entry of leaving, and the end of a wait of
-- a thread that is so bound already
abbrev pub may_lose_door : State → ℕ → Option Request → Bool
may_lose_door m t (Some r) = is_leaving r
may_lose_door m t None = has_invalid_door m t

-- an event made a notice of a door, and just one
pub record IsNoticed (m n : State) (d : ℕ) : Type 0 where
  pub number : ℕ
  pub notice : Notice
  pub none_before : notice_of m number ≡ None
  pub there : notice_of n number ≡ Some notice
  pub door : notice.door ≡ d
  pub only : (c : ℕ) (x : Notice) → notice_of m c ≡ None → notice_of n c ≡ Some x → x.door ≡ d → c ≡ number

pub record Keeps (m : State) (t : ℕ) (q : Option Request) : Type 0 where
  pub invariant : Invariant (step m t q).state
  pub arrows :
      (c : ℕ) → Arrow m t q (step m t q).answer (step m t q).state (record_of m c) (record_of (step m t q).state c)
  pub invocations :
      (u : ℕ) → InvocationArrow m t q (step m t q).answer (step m t q).state u (invocation_of m u) (invocation_of (step m t q).state u)
  pub notices :
      (c : ℕ) → NoticeArrow m t q (step m t q).answer (step m t q).state (notice_of m c) (notice_of (step m t q).state c)
  -- a door that is due has just one notice more
  pub noticed :
      (d : ℕ) (x : Door) → door_of (step m t q).state d ≡ Some x → may_have_notice m d x ≡ true →
      falls_to_one m (step m t q).state d ≡ true → IsNoticed m (step m t q).state d
  pub doors : (d : ℕ) → DoorArrow m t q (door_of m d) (door_of (step m t q).state d)
  pub told : IsToldBy m t q (step m t q).answer
  -- accept, collect and a new call do so
  pub called : (c : ℕ) → (step m t q).answer ≡ answer.WaitCall c → IsMade (record_of (step m t q).state c)
  pub accepted :
      (c : ℕ) → q ≡ None → state_of m t ≡ is.Given (item.Call c) → IsAcceptedNow (step m t q).state t c
  pub collected : (c : ℕ) → q ≡ None → state_of m t ≡ is.Calling c → IsAnsweredNow m (step m t q).state c
  -- an entry that is refused changes nothing but the number of events
  pub refused :
      (r : Request) (e : Errno) → q ≡ Some r → refusal_of m t (process_of m t) r ≡ Some e → (step m t q).state ≡ with_event_counted m
  -- no other act leaves a thread idle that is bound to a door that is not valid
  pub none_lost : may_lose_door m t q ≡ false → (u : ℕ) → has_lost_door (act m t q).state u ≡ false
  -- the end of a wait has what its thread waits for
  pub is_ready : IsReadyTurn m t q
