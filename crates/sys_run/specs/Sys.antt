-- A script with the journal of its events so far.
use Rattle.std.specs.Prelude.{ℕ, ◌≡◌, ◌-◌, ◌∷◌, ◌++◌, [], List, Option, None, Bool, if◌then◌else◌, is_some, nat_lt, slice_get, suc, length}
use Rattle.spec_kernel.specs.Types.{Event, Tid}
use Rattle.spec_kernel.specs.Words.{StandsFor, State, least_runnable, state_of, step}
use Rattle.spec_events.specs.Words.{output_at, AskedLine}
use Rattle.spec_records.specs.declared.record.ThreadState.TheVariants as is
use Rattle.ncd_app.specs.Words.{NcdValue}
use Rattle.work_ops.specs.Words.{TaskValue}
use Rattle.law_runs.specs.Words.{Laws}
use Rattle.script_lang.specs.Words.{ScriptValue}
use Rattle.spec_requests.specs.Words.{IsSound, frame_of}
use Rattle.spec_scripts.specs.Words.{History, IsAllowed, event_at_turn, least_runnable_turns, opening_of, request_at_turn, run, threads_of_events, turns_of}
use Rattle.thread_machine.specs.declared.machine.Machine.{Machine}
use Rattle.thread_machine.specs.Words.{IsMachine, Stands}
use Rattle.sys_run.specs.NameTables.{HasTables}

-- The value of a `Sys`: clauses see each `Sys` as this record.
pub record SysValue : Type 0 where
  pub script : ScriptValue
  pub journal : List Event

abbrev pub with_journal : ScriptValue → List Event → SysValue
with_journal script journal = record { script = script; journal = journal }

-- the history that a journal tells: the run of its script in which its threads take turns
unfoldable pub history : SysValue → History
history p = run p.script (threads_of_events p.journal)

abbrev pub state_of_run : SysValue → State
state_of_run p = (history p).state

-- the lines that the processes of the run asked their tables, in order
abbrev pub asked_in : SysValue → List AskedLine
asked_in p = (history p).asked

-- thread t is at a task
abbrev pub is_working : State → ℕ → Bool
is_working m t = is_some (output_at (state_of m t))

-- thread t of the run is at this task
abbrev pub WorksOn : SysValue → ℕ → TaskValue → Type 0
WorksOn p t x = state_of (state_of_run p) t ≡ is.Working x.op x.input

-- the laws of the journal's run
abbrev pub LawsOf : SysValue → Type 0
LawsOf p = Laws (opening_of p.script) (turns_of p.script (threads_of_events p.journal))

-- the machine of thread t stands where the journal leads
pub record MachineStands (script : ScriptValue) (events : List Event) (t : ℕ) (x : Machine) : Type 0 where
  pub machine : IsMachine script x
  pub stands : Stands script x (frame_of script t events)

-- the machines of the threads from t on
abbrev pub AllStandFrom : ScriptValue → List Event → ℕ → List Machine → Type 0
AllStandFrom script events t [] = Unit {0}
AllStandFrom script events t (x ∷ xs) = MachineStands script events t x × AllStandFrom script events (suc t) xs

-- the journal is a run of its script from the opening state
pub record IsJournal (p : SysValue) : Type 0 where
  pub script : IsSound p.script
  pub events : p.journal ≡ (history p).events
  pub allowed : IsAllowed p.script (threads_of_events p.journal)

-- the journal with the event of a turn of t
abbrev pub with_turn : SysValue → ℕ → SysValue
with_turn p t = with_journal p.script (p.journal ++ event_at_turn p.script (history p) t ∷ [])

abbrev pub with_turns : SysValue → List ℕ → SysValue
with_turns p [] = p
with_turns p (t ∷ ts) = with_turns (with_turn p t) ts

-- the threads that a turn of t wakes
abbrev pub threads_woken_by : SysValue → ℕ → List Tid
threads_woken_by p t = (step (history p).state t (request_at_turn p.script (history p) t)).woken

-- the thread that `finish` lets take the next turn, if the run is not over
abbrev pub next_turn : SysValue → Option ℕ
next_turn p = if nat_lt (length p.journal) p.script.budget then least_runnable (state_of_run p) else None

-- the turns that are left: the least runnable thread, until the run is over
abbrev pub turns_left : SysValue → List ℕ
turns_left p = least_runnable_turns p.script (p.script.budget - length p.journal) (history p)

-- the schedule's turn after those of the journal, where the budget reaches it
abbrev pub scheduled_turn : SysValue → Option Tid
scheduled_turn p = if nat_lt (length p.journal) p.script.budget then slice_get p.script.schedule (length p.journal) else None

-- kernel, machines and name tables stand after the journal's run
pub record IsSys (script : ScriptValue) (journal : List Event) (kernel : State) (machines : List Machine) (tables : List NcdValue) : Type 0 where
  pub journal_is_run : IsJournal (with_journal script journal)
  pub kernel_stands : StandsFor kernel (state_of_run (with_journal script journal))
  pub machines_stand : AllStandFrom script journal 1 machines
  pub machines_there : length machines ≡ length script.threads
  pub tables_stand : HasTables script (asked_in (with_journal script journal)) tables
