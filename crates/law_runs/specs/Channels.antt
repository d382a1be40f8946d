-- Pipes and ports by their numbers, and what is told of what a port has; the step's own readers of ports are not used.
use Rattle.std.specs.Prelude.{ℕ, ◌≡◌, ◌≤◌, List, [], ◌∷◌, Option, Bool, false, true, Some, None, length}
use Rattle.spec_kernel.specs.Types.{EventRec, Fd, Obj, ThreadState}
use Rattle.dk_base.specs.declared.object.Src.TheVariants as src
use Rattle.dk_base.specs.ByNumber.{at_number}
use Rattle.spec_records.specs.declared.port.Alert.{Alert}
use Rattle.spec_records.specs.declared.record.ThreadState.TheVariants as is
use Rattle.spec_records.specs.Words.{Pipe, Port}
use Rattle.spec_kernel.specs.Words.{State, Turn, object_at, state_at}
use Rattle.law_places.specs.Places.{process_at}

-- the pipe and the port of a number, if there is one

abbrev pub pipe_under : State → ℕ → Option Pipe
pipe_under m n = at_number m.channels.pipes n

abbrev pub port_under : State → ℕ → Option Port
port_under m q = at_number m.channels.ports q

-- a descriptor of the process of the thread of place i names this object before its turn
abbrev pub Names : State → List Turn → ℕ → Turn → Fd → Obj → Type 0
Names m xs i x fd o = object_at (state_at m xs i) (process_at m xs i x.thread) fd ≡ Some o

-- an alert, as it is told
abbrev pub told_alert : Alert → EventRec
told_alert a = record { source = src.Alert; object = 0; events = a.events; user = a.user }

-- the alert of a port
abbrev pub alert_in : Option Port → Option Alert
alert_in None = None
alert_in (Some x) = x.alert

abbrev pub alert_under : State → ℕ → Option Alert
alert_under m q = alert_in (port_under m q)

-- a thread that waits at a port
abbrev pub is_at_port : ThreadState → Bool
is_at_port (is.Getting q max nget one interrupted) = true
is_at_port _ = false

-- What the end of a wait for so many events of a port tells, of which at most so many are taken: its alert alone, while it has one, and
-- else no fewer than were asked for.
pub data AreEnough (m : State) (q max nget : ℕ) : List EventRec → Type 0 where
  alert : (a : Alert) → alert_under m q ≡ Some a → AreEnough m q max nget (told_alert a ∷ [])
  events : (rs : List EventRec) → alert_under m q ≡ None → nget ≤ length rs → length rs ≤ max → AreEnough m q max nget rs
