-- With which processes a history begins, as C declares them.
use Rattle.std.specs.Prelude.{ℕ, ◌≡◌, ◌≤◌, ◌==◌, List, map, Option, None, Some, length, if◌then◌else◌}
use Rattle.spec_records.specs.Words.{pid}
use Rattle.spec_kernel.specs.Types.{Pid}
use Rattle.spec_histories.specs.Histories.{begun}
use Rattle.spec_histories.specs.Openings.{opening_of}
use Rattle.kernel_handle.specs.Openings.{IsNoOpening}
use Rattle.kernel_handle.specs.Shapes.{processes_of, threads_of}
use Rattle.kernel_handle.specs.declared.opening.NotOpening.{NotOpening}
use Rattle.kernel_handle.specs.declared.opening.NotOpening.TheVariants as fault
use Rattle.kernel_handle.specs.declared.opening.NotOpening.TheVariants.{NoMemory}
use Rattle.kernel_handle.specs.declared.shape.ProcessShape.{ProcessShape}
use Rattle.history_text.specs.DefaultNames.{default_names}
use Rattle.history_text.specs.HeadText.{head_text}
use Rattle.history_text.specs.Words.{Names}
use Rattle.kernel_chronicle.specs.declared.asked.Declared.{Declared}
use Rattle.kernel_chronicle.specs.declared.refusal.Unopened.{Unopened}
use Rattle.kernel_chronicle.specs.declared.refusal.Unopened.TheVariants as why
use Rattle.kernel_chronicle.specs.declared.rooms.TheConstants.{TEXT_ROOM}
use Rattle.kernel_chronicle.specs.Written.{Written}

-- 0 is nobody
abbrev pub parent_declared : ℕ → Option Pid
parent_declared n = if n == 0 then None else Some (pid n)

abbrev pub shape_of : Declared → ProcessShape
shape_of p = record { limit = p.limit; parent = parent_declared p.parent; threads = p.threads; spares = p.spares }

abbrev pub shapes_of : List Declared → List ProcessShape
shapes_of ps = map shape_of ps

abbrev pub names_of : List ProcessShape → Names
names_of shapes = default_names (processes_of shapes) (threads_of shapes)

-- the history of a kernel with these processes, which has made no event, and their names
abbrev pub opened : List ProcessShape → Written
opened shapes = record { history = begun (opening_of (processes_of shapes) (threads_of shapes)); names = names_of shapes }

-- no history begins with these
pub record IsNoStart (shapes : List ProcessShape) : Type 0 where
  pub fault : NotOpening
  pub is : IsNoOpening (processes_of shapes) (threads_of shapes) fault
  pub cause : fault ≡ NoMemory → ⊥

-- the buffer is smaller than the room for a text, or than the head
abbrev pub HasNoHeadRoom : List ProcessShape → ℕ → Type 0
HasNoHeadRoom shapes room = TEXT_ROOM ≤ room → length (head_text (names_of shapes)) ≤ room → ⊥

-- why there is no kernel; want of memory has no cause
abbrev pub IsCauseOfUnopened : List ProcessShape → ℕ → Unopened → Type 0
IsCauseOfUnopened shapes room why.NoOpening = IsNoStart shapes
IsCauseOfUnopened shapes room why.NoMemory = Unit {0}
IsCauseOfUnopened shapes room why.NoRoom = HasNoHeadRoom shapes room

abbrev pub unopened_for : NotOpening → Unopened
unopened_for fault.ManyProcesses = why.NoOpening
unopened_for fault.ManyThreads = why.NoOpening
unopened_for fault.Limit = why.NoOpening
unopened_for fault.Parent = why.NoOpening
unopened_for fault.Process = why.NoOpening
unopened_for fault.NoMemory = why.NoMemory
