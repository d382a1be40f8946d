-- What a thread asks for at its turn, by the state and by its frame, and what the table of its process replies.
use Rattle.std.specs.Prelude.{ℕ, ◌≡◌, ◌<◌, ◌≤◌, List, Option, Some, None, if◌then◌else◌, length}
use Rattle.dk_base.specs.ByNumber.{at_number}
use Rattle.std.specs.Option.{option_map}
use Rattle.ncd_app.specs.Words.{NcdValue}
use Rattle.spec_kernel.specs.Types.{Request}
use Rattle.spec_kernel.specs.Words.{MayTurn, StandsFor, State, is_running}
use Rattle.spec_events.specs.Words.{AskedLine, asked_with, line_in, reply_after}
use Rattle.script_lang.specs.Words.{ScriptValue}
use Rattle.spec_requests.specs.Types.{ScriptThread}
use Rattle.spec_requests.specs.Words.{Frame, IsThread, request_of}
use Rattle.sys_run.specs.NameTables.{AllTablesStandFrom, HasTables}
use Rattle.thread_machine.specs.declared.machine.Machine.{Machine}
use Rattle.thread_machine.specs.Words.{Stands}

abbrev pub request_if_running : State → ℕ → Frame → Option Request
request_if_running m t f = if is_running m t then Some (request_of f) else None

-- a kernel and the machine of thread t stand where the thread may take its turn
pub record MayTake (script : ScriptValue) (kept : State) (x : Machine) (t : ℕ) : Type 0 where
  pub state : State
  pub frame : Frame
  pub kernel_stands : StandsFor kept state
  pub machine_stands : Stands script x frame
  pub may : MayTurn state t (request_if_running state t frame)

abbrev pub process_number : ScriptThread → ℕ
process_number x = x.process.0

-- thread t is declared in process p
abbrev pub IsDeclaredIn : ScriptValue → ℕ → ℕ → Type 0
IsDeclaredIn script t p = option_map process_number (at_number script.threads t) ≡ Some p

-- the tables can reply to one line more, which thread t asks
pub record MayReply (script : ScriptValue) (tables : List NcdValue) (t : ℕ) : Type 0 where
  pub asked : List AskedLine
  pub tables_stand : HasTables script asked tables
  pub few : length asked < 4000000000
  pub thread : IsThread script t
  -- its process has one
  pub process : (p : ℕ) → IsDeclaredIn script t p → (1 ≤ p) × (p ≤ length tables)

-- the table of its process replied to a request of thread t, where this asks it a line, and the tables stand for that line too
pub record RepliedTo (script : ScriptValue) (t : ℕ) (r : Request) (old : List NcdValue) (reply : Option (List ℕ)) (new : List NcdValue) : Type 0 where
  pub process : ℕ
  pub declared : IsDeclaredIn script t process
  pub replied : (asked : List AskedLine) → AllTablesStandFrom asked 1 old → reply ≡ reply_after asked process (line_in (Some r))
  pub stand :
      (asked : List AskedLine) → AllTablesStandFrom asked 1 old → AllTablesStandFrom (asked_with asked process (line_in (Some r))) 1 new
  pub there : length new ≡ length old

-- a thread whose wait ends asks nothing
abbrev pub HasReplied : ScriptValue → ℕ → Option Request → List NcdValue → Option (List ℕ) → List NcdValue → Type 0
HasReplied script t None old reply new = (reply ≡ None) × (new ≡ old)
HasReplied script t (Some r) old reply new = RepliedTo script t r old reply new
