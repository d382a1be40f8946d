-- What holds of pipes, of ports, of associations and of timers between two events, and that whatever refers to an object refers to one that
-- was made.
use Rattle.std.specs.Prelude.{ℕ, ◌≡◌, ◌≤◌, ◌&&◌, ◌*◌, List, Option, Some, is_none, length, All}
use Rattle.dk_base.specs.declared.limits.TheConstants.{ADVANCE_MAX, ANSWER_ITEMS_MAX, PIPE_MAX, USER_EVENTS_MAX}
use Rattle.dk_base.specs.declared.object.Obj.TheVariants as obj
use Rattle.spec_records.specs.declared.record.ThreadState.TheVariants as is
use Rattle.spec_records.specs.Words.{IsCounted, Pipe, Port, is_user_event, object_named, table_in, user_events}
use Rattle.spec_kernel.specs.Types.{Call, Fd, Name, Obj, Thread, ThreadState}
use Rattle.spec_kernel.specs.Words.{State, objects_collected}
use Rattle.law_channels.specs.Associations.{AreAssociations}
use Rattle.law_channels.specs.Timers.{AreTimers}

abbrev pub pipe_number : Pipe → ℕ
pipe_number x = x.number

-- pipes have the numbers from 1 on, and none holds more bytes than a pipe may hold
pub record ArePipes (pipes : List Pipe) : Type 0 where
  pub in_order : IsCounted pipe_number 0 pipes
  pub bounded : All (λ x. length x.bytes ≤ PIPE_MAX) pipes

abbrev pub port_number : Port → ℕ
port_number x = x.number

-- at a port are no more user events queued than it takes, and all else that is queued is of associations and of timers
pub record IsBounded (x : Port) : Type 0 where
  pub few : user_events x.queue ≤ USER_EVENTS_MAX
  pub sent : All (λ q. is_user_event q ≡ (is_none q.assoc && is_none q.timer)) x.queue

-- ports have the numbers from 1 on, and are bounded
pub record ArePorts (ports : List Port) : Type 0 where
  pub in_order : IsCounted port_number 0 ports
  pub bounded : All IsBounded ports

-- how many doors, ports and pipes were made
pub record Made : Type 0 where
  pub doors : ℕ
  pub ports : ℕ
  pub pipes : ℕ

abbrev pub made_in : State → Made
made_in m = record { doors = length m.doors; ports = length m.channels.ports; pipes = length m.channels.pipes }

-- a number of one of so many
abbrev pub IsAmong : ℕ → ℕ → Type 0
IsAmong made n = (1 ≤ n) × (n ≤ made)

abbrev pub IsMadeObject : Made → Obj → Type 0
IsMadeObject made (obj.Door d) = IsAmong made.doors d
IsMadeObject made (obj.Port q) = IsAmong made.ports q
IsMadeObject made (obj.PipeIn n) = IsAmong made.pipes n
IsMadeObject made (obj.PipeOut n) = IsAmong made.pipes n

-- what a call takes along, and what it brings back
pub record AreMadeIn (made : Made) (r : Call) : Type 0 where
  pub objects : All (IsMadeObject made) r.objects
  pub results : All (IsMadeObject made) (objects_collected r.stage)

-- a thread waits at a port that was made, for no more events than an answer has
abbrev pub WaitsAtMade : Made → ThreadState → Type 0
WaitsAtMade made (is.Getting q max nget one marked) = IsAmong made.ports q × (max ≤ ANSWER_ITEMS_MAX)
WaitsAtMade made s = Unit {0}

-- descriptors, names and calls are of objects that were made, and so is what threads wait at
pub record ReferToMade (made : Made) (tables : List (List (Option Obj))) (attached : List Name) (tree : List Call) (threads : List Thread) : Type 0
  where
    pub rows : (p : ℕ) (fd : Fd) (o : Obj) → object_named (table_in tables p) fd ≡ Some o → IsMadeObject made o
    pub names : All (λ n. IsAmong made.doors n.door) attached
    pub calls : All (AreMadeIn made) tree
    pub waits : All (λ x. WaitsAtMade made x.state) threads

pub record AreChannels (m : State) : Type 0 where
  pub pipes : ArePipes m.channels.pipes
  pub ports : ArePorts m.channels.ports
  pub associations : AreAssociations m.channels.ports m.channels.associations
  pub timers : AreTimers m.channels.ports m.channels.timers
  pub refers : ReferToMade (made_in m) m.tables m.names m.call_tree.calls m.process_table.threads
  -- one event makes at most one of each
  pub few_pipes : length m.channels.pipes ≤ m.events
  pub few_ports : length m.channels.ports ≤ m.events
  pub few_associations : m.channels.associations.made ≤ m.events
  pub few_timers : m.channels.timers.made ≤ m.events
  -- and moves the clock by so much at most
  pub early : m.channels.timers.clock ≤ ADVANCE_MAX * m.events
