-- What the invariant and the laws see of a state: functions of the numbers of threads, doors, processes and calls.
use Rattle.std.specs.Prelude.{ℕ, Option, Bool, true, false, Some, None}
use Rattle.spec_kernel.specs.Types.{Call, CallStage, Door, Inv, Notice, NoticeStage, Process, ProcessStage, Thread, ThreadState}
use Rattle.spec_records.specs.declared.record.ProcessStage.TheVariants.{Unborn, Live, Ended}
use Rattle.spec_records.specs.declared.record.ThreadState.TheVariants as is
use Rattle.spec_records.specs.declared.record.CallStage.TheVariants as stage
use Rattle.dk_base.specs.ByNumber.{at_number}
use Rattle.spec_records.specs.Words.{is_live}
use Rattle.spec_kernel.specs.Words.{State, bound_of, door_of, invocation_of, process_of, state_of, thread_of}
use Rattle.law_states.specs.Records.{notice_of, owner_in, record_of}

pub record Core : Type 0 where
  -- of a thread: its state, its invocation, its process, the number in its record, and the door that it is bound to
  pub role : ℕ → ThreadState
  pub serves : ℕ → Option Inv
  pub process : ℕ → ℕ
  pub number : ℕ → Option ℕ
  pub bound : ℕ → Option ℕ
  pub door : ℕ → Option Door
  pub proc : ℕ → Option Process
  pub call : ℕ → Option Call
  -- how many calls were made
  pub made : ℕ
  pub notice : ℕ → Option NoticeStage
  -- the door of a notice, 0 for none
  pub noticed_door : ℕ → ℕ

abbrev pub number_in : Option Thread → Option ℕ
number_in None = None
number_in (Some x) = Some x.number

abbrev pub notice_in : Option Notice → Option NoticeStage
notice_in None = None
notice_in (Some n) = Some n.stage

abbrev pub noticed_door_in : Option Notice → ℕ
noticed_door_in None = 0
noticed_door_in (Some n) = n.door

abbrev pub core : State → Core
core m =
    record {
      role = λ t. state_of m t;
      serves = λ t. invocation_of m t;
      process = λ t. process_of m t;
      number = λ t. number_in (thread_of m t);
      bound = λ t. bound_of m t;
      door = λ d. door_of m d;
      proc = λ p. at_number m.process_table.processes p;
      call = λ c. record_of m c;
      made = m.call_tree.made;
      notice = λ n. notice_in (notice_of m n);
      noticed_door = λ n. noticed_door_in (notice_of m n);
    }

-- of a call's record, if there is one

abbrev pub caller_number : Option Call → ℕ
caller_number None = 0
caller_number (Some r) = r.caller.0

abbrev pub door_in : Option Call → ℕ
door_in None = 0
door_in (Some r) = r.door

abbrev pub abandoned_in : Option Call → Bool
abandoned_in None = false
abandoned_in (Some r) = r.abandoned

-- neither answered nor left by a caller that ended
abbrev pub live_in : Option Call → Bool
live_in None = false
live_in (Some r) = is_live r.stage

-- the stages before a call is returned or ends
abbrev pub is_underway : CallStage → Bool
is_underway stage.Queued = true
is_underway (stage.Given u) = true
is_underway (stage.Entered u) = true
is_underway _ = false

abbrev pub underway_in : Option Call → Bool
underway_in None = false
underway_in (Some r) = is_underway r.stage

-- the stages in which a call has its arguments
abbrev pub has_arguments : CallStage → Bool
has_arguments stage.Queued = true
has_arguments (stage.Given u) = true
has_arguments _ = false

-- the states of a thread that has no invocation
abbrev pub is_outside : ThreadState → Bool
is_outside is.Dormant = true
is_outside (is.Idle since) = true
is_outside (is.Given item) = true
is_outside is.FailedReturn = true
is_outside is.Done = true
is_outside _ = false

-- of a process
abbrev pub is_ended_stage : ProcessStage → Bool
is_ended_stage Unborn = false
is_ended_stage Live = false
is_ended_stage Ended = true

abbrev pub ended_in : Option Process → Bool
ended_in None = false
ended_in (Some p) = is_ended_stage p.stage

-- the process that made the door of a call
abbrev pub owner_at : (ℕ → Option Call) → (ℕ → Option Door) → ℕ → Option ℕ
owner_at call door c = owner_in (door (door_in (call c)))
