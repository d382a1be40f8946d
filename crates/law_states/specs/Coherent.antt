-- What holds of threads, calls, notices, doors and processes at each time, in parts by what they read.
use Rattle.std.specs.Prelude.{ℕ, ◌≡◌, ◌<◌, ◌≤◌, ◌==◌, ◌&&◌, ◌||◌, [], Option, Bool, if◌then◌else◌, not, true, false, Some, None, is_some, nat_le, nat_lt}
use Rattle.spec_kernel.specs.Types.{Call, Door, Inv, NoticeStage, Process, ThreadState}
use Rattle.dk_base.specs.declared.object.Item.TheVariants as item
use Rattle.spec_records.specs.declared.record.ThreadState.TheVariants as is
use Rattle.spec_records.specs.declared.record.CallStage.TheVariants as stage
use Rattle.spec_records.specs.declared.record.NoticeStage.TheVariants as notice
use Rattle.spec_records.specs.declared.pool.TheConstants.{LOST_DOOR}
use Rattle.spec_records.specs.Words.{is_live_in, is_private_in, is_unborn_in, is_valid_in, no_cancel_of, tid}
use Rattle.law_states.specs.Core.{Core, caller_number, door_in, abandoned_in, live_in, underway_in, has_arguments, is_outside, ended_in, owner_at}
use Rattle.law_states.specs.Records.{owner_in, stage_in, item_in}

-- the waits of threads for calls
pub record AreWaits (role : ℕ → ThreadState) (call : ℕ → Option Call) : Type 0 where
  -- a call is Given u exactly where u is Given that call
  pub given : (c u : ℕ) → stage_in (call c) ≡ Some (stage.Given (tid u)) → role u ≡ is.Given (item.Call c)
  pub given_back : (c u : ℕ) → role u ≡ is.Given (item.Call c) → stage_in (call c) ≡ Some (stage.Given (tid u))
  -- a thread is Calling c exactly where it is c's caller and c is neither answered nor left
  pub caller : (c t : ℕ) → role t ≡ is.Calling c → caller_number (call c) ≡ t
  pub live : (c t : ℕ) → role t ≡ is.Calling c → live_in (call c) ≡ true
  pub calling : (c : ℕ) → live_in (call c) ≡ true → role (caller_number (call c)) ≡ is.Calling c

-- invocations of calls
pub record AreInvocations (serves : ℕ → Option Inv) (call : ℕ → Option Call) : Type 0 where
  -- a call is Entered u exactly where u has it as its invocation and it is not abandoned
  pub entered : (c u : ℕ) → stage_in (call c) ≡ Some (stage.Entered (tid u)) → item_in (serves u) ≡ Some (item.Call c)
  pub entered_back :
      (c u : ℕ) → item_in (serves u) ≡ Some (item.Call c) → abandoned_in (call c) ≡ false →
      stage_in (call c) ≡ Some (stage.Entered (tid u))
  -- a call is abandoned only once it has left its server
  pub kept : (c : ℕ) → underway_in (call c) ≡ true → abandoned_in (call c) ≡ false

-- notices that are given to threads
pub record AreNoticesGiven (role : ℕ → ThreadState) (notices : ℕ → Option NoticeStage) : Type 0 where
  pub notice_given : (n u : ℕ) → notices n ≡ Some (notice.Given (tid u)) → role u ≡ is.Given (item.Notice n)
  pub notice_given_back : (n u : ℕ) → role u ≡ is.Given (item.Notice n) → notices n ≡ Some (notice.Given (tid u))

-- invocations of notices
pub record AreNoticesEntered (serves : ℕ → Option Inv) (notices : ℕ → Option NoticeStage) : Type 0 where
  pub notice_entered : (n u : ℕ) → notices n ≡ Some (notice.Entered (tid u)) → item_in (serves u) ≡ Some (item.Notice n)
  pub notice_entered_back : (n u : ℕ) → item_in (serves u) ≡ Some (item.Notice n) → notices n ≡ Some (notice.Entered (tid u))

-- to which door a thread is bound that serves door d
abbrev pub bound_for : ℕ → Option Door → Option ℕ
bound_for d o = if is_private_in o then Some d else None

-- the doors of notices
pub record AreNoticesAtDoors
    (notices : ℕ → Option NoticeStage) (noticed_door : ℕ → ℕ) (door : ℕ → Option Door) (process : ℕ → ℕ) (bound : ℕ → Option ℕ) : Type 0
  where
    pub notice_door : (n : ℕ) → is_some (notices n) ≡ true → is_some (door (noticed_door n)) ≡ true
    -- doors of waiting notices are valid
    pub notice_valid : (n : ℕ) → notices n ≡ Some notice.Waiting → is_valid_in (door (noticed_door n)) ≡ true
    -- a notice is given to, and entered by, a thread of the process that made its door
    pub notice_given_owner : (n u : ℕ) → notices n ≡ Some (notice.Given (tid u)) → owner_in (door (noticed_door n)) ≡ Some (process u)
    pub notice_entered_owner : (n u : ℕ) → notices n ≡ Some (notice.Entered (tid u)) → owner_in (door (noticed_door n)) ≡ Some (process u)
    -- and one that it is given to is bound to its door, where that is private, and else to none
    pub notice_given_bound :
        (n u : ℕ) → notices n ≡ Some (notice.Given (tid u)) → bound u ≡ bound_for (noticed_door n) (door (noticed_door n))

-- threads, with what they serve
pub record AreServers (role : ℕ → ThreadState) (serves : ℕ → Option Inv) (made : ℕ) : Type 0 where
  -- threads that are Dormant, Idle, Given, FailedReturn or Done have no invocation
  pub outside : (t : ℕ) → is_outside (role t) ≡ true → serves t ≡ None
  -- a thread that serves c and is Calling d has c below d
  pub below : (c d t : ℕ) → item_in (serves t) ≡ Some (item.Call c) → role t ≡ is.Calling d → c < d
  pub served_made : (c t : ℕ) → item_in (serves t) ≡ Some (item.Call c) → c ≤ made

-- calls by themselves
pub record AreCalls (call : ℕ → Option Call) (made : ℕ) : Type 0 where
  -- only calls that are Queued or Given have arguments
  pub arguments : (c : ℕ) (r : Call) → call c ≡ Some r → has_arguments r.stage ≡ false → (r.bytes ≡ []) × (r.objects ≡ [])
  pub call_number : (c : ℕ) (r : Call) → call c ≡ Some r → r.number ≡ c
  pub unmade : (c : ℕ) → made < c → call c ≡ None

-- the doors of calls
pub record AreAtDoors (call : ℕ → Option Call) (door : ℕ → Option Door) (process : ℕ → ℕ) (bound : ℕ → Option ℕ) : Type 0 where
  -- a call is of a door that is there, and has the door's attribute on cancels
  pub door_there : (c : ℕ) (r : Call) → call c ≡ Some r → is_some (door r.door) ≡ true
  pub no_cancel : (c : ℕ) (r : Call) → call c ≡ Some r → r.no_cancel ≡ no_cancel_of (door r.door)
  -- doors of waiting calls are valid
  pub waiting_valid : (c : ℕ) → stage_in (call c) ≡ Some stage.Queued → is_valid_in (door (door_in (call c))) ≡ true
  -- a call is given to, and entered by, a thread of the process that made its door
  pub given_owner :
      (c u : ℕ) → stage_in (call c) ≡ Some (stage.Given (tid u)) → owner_at call door c ≡ Some (process u)
  pub entered_owner :
      (c u : ℕ) → stage_in (call c) ≡ Some (stage.Entered (tid u)) → owner_at call door c ≡ Some (process u)
  -- and one that it is given to is bound to its door, where that is private, and else to none
  pub given_bound :
      (c u : ℕ) → stage_in (call c) ≡ Some (stage.Given (tid u)) → bound u ≡ bound_for (door_in (call c)) (door (door_in (call c)))

-- doors by themselves
pub record AreDoors (door : ℕ → Option Door) (proc : ℕ → Option Process) : Type 0 where
  -- no door has the number of the lost one
  pub none_lost : door LOST_DOOR ≡ None
  pub door_number : (d : ℕ) (x : Door) → door d ≡ Some x → x.number ≡ d
  -- a door says whether the process that made it has ended
  pub owner_ended : (d : ℕ) (x : Door) → door d ≡ Some x → x.owner_ended ≡ not (is_live_in (proc x.owner.0))
  -- a process that has not begun made none
  pub owner_begun : (d : ℕ) (x : Door) → door d ≡ Some x → is_unborn_in (proc x.owner.0) ≡ false

-- a thread is bound only to a private door of its own process, or to the one that is lost, and no Idle thread is bound to that
pub record AreBindings (role : ℕ → ThreadState) (bound : ℕ → Option ℕ) (door : ℕ → Option Door) (process : ℕ → ℕ) : Type 0 where
  pub bound_own : (t d : ℕ) → bound t ≡ Some d → (d == LOST_DOOR) ≡ false → owner_in (door d) ≡ Some (process t)
  pub bound_private : (t d : ℕ) → bound t ≡ Some d → (d == LOST_DOOR) ≡ false → is_private_in (door d) ≡ true
  pub idle_not_lost : (t since : ℕ) → role t ≡ is.Idle since → bound t ≡ Some LOST_DOOR → ⊥

-- an ended process has only Done threads, and one that has not begun only Dormant ones
pub record AreProcesses (role : ℕ → ThreadState) (process : ℕ → ℕ) (proc : ℕ → Option Process) : Type 0 where
  pub ended_done : (t : ℕ) → ended_in (proc (process t)) ≡ true → role t ≡ is.Done
  pub unborn_dormant : (t : ℕ) → is_unborn_in (proc (process t)) ≡ true → role t ≡ is.Dormant

-- threads by themselves
pub record AreThreads (process : ℕ → ℕ) (number : ℕ → Option ℕ) (proc : ℕ → Option Process) : Type 0 where
  -- a thread's record has the number that it is found under
  pub thread_number : (t n : ℕ) → number t ≡ Some n → n ≡ t
  -- the process of a thread is declared
  pub process_there : (t n : ℕ) → number t ≡ Some n → is_some (proc (process t)) ≡ true

-- a wait at a port takes at least one event, and asks for no more than it takes; that of port_get(3C) takes and asks for one
abbrev pub is_fit_wait : ℕ → ℕ → Bool → Bool
is_fit_wait max nget one = nat_lt 0 max && (nat_le nget max && (not one || ((max == 1) && (nget == 1))))

-- what no event makes of a thread
abbrev pub is_unfit : ThreadState → Bool
is_unfit (is.Getting port max nget one marked) = not (is_fit_wait max nget one)
is_unfit _ = false

-- A change of a core keeps by itself the parts that read nothing of what it changes.
pub record IsCoherent (k : Core) : Type 0 where
  pub waits : AreWaits k.role k.call
  pub invocations : AreInvocations k.serves k.call
  pub notices_given : AreNoticesGiven k.role k.notice
  pub notices_entered : AreNoticesEntered k.serves k.notice
  pub notices_at_doors : AreNoticesAtDoors k.notice k.noticed_door k.door k.process k.bound
  pub servers : AreServers k.role k.serves k.made
  pub calls : AreCalls k.call k.made
  pub at_doors : AreAtDoors k.call k.door k.process k.bound
  pub doors : AreDoors k.door k.proc
  pub bindings : AreBindings k.role k.bound k.door k.process
  pub processes : AreProcesses k.role k.process k.proc
  pub threads : AreThreads k.process k.number k.proc
  pub has_fit_state : (t : ℕ) → is_unfit (k.role t) ≡ false
