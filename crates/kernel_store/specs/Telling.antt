-- What ports are told once all else that follows an act is done.
use Rattle.std.specs.Prelude.{◌≡◌, ℕ, ◌+◌, ◌≤◌, ◌==◌, ◌&&◌, ◌||◌, Bool, List, [], ◌∷◌, length, Option, None, Some, All, true, false, filter, is_none}
use Rattle.std.specs.List.{list_any}
use Rattle.law_channels.specs.Changed.{IsAfterAct, OnlyLiveHaveRows, UnbornHaveNoRows, is_gone, readied}
use Rattle.law_channels.specs.Closed.{Closing, closed_rows}
use Rattle.law_channels.specs.Ended.{process_ended, rows_ended}
use Rattle.law_channels.specs.Ends.{is_end}
use Rattle.kernel_ports.specs.Words.{AssociatedPortsValue, HasRoomToEnd}
use Rattle.law_states.specs.Told.{AreTold}
use Rattle.spec_records.specs.Words.{Pipe, is_object, is_to_fire, object_named, table_in}
use Rattle.kernel_store.specs.declared.told.ClosedRows.{ClosedRows}
use Rattle.kernel_store.specs.declared.told.ClosedRows.TheVariants as closed
use Rattle.kernel_store.specs.declared.told.TellingRooms.{TellingRooms}
use Rattle.kernel_ports.specs.declared.changed.Ends.{Ends}
use Rattle.kernel_ports.specs.Words.{HasAllReferences, is_end_in, is_end_of, other_end}
use Rattle.unref_notice.specs.Words.{ObjectCounts, count_of}
use Rattle.unref_notice.specs.declared.counts.TheConstants.{STEP_MAX}
use Rattle.spec_kernel.specs.Types.{Fd, Obj, Request}
use Rattle.spec_kernel.specs.Words.{Channels, State, associations_in, ready_at, references_of}

-- rows that an act closes

abbrev pub is_nothing : ClosedRows → Bool
is_nothing closed.Nothing = true
is_nothing _ = false

abbrev pub closing_of : ClosedRows → Closing
closing_of closed.Nothing = Closing.nothing
closing_of (closed.Row p fd) = Closing.rows p.0 (fd ∷ [])
closing_of (closed.Rows p fds) = Closing.rows p.0 fds.items
closing_of (closed.Process p) = Closing.process p.0

abbrev pub is_empty_in : List (List (Option Obj)) → ℕ → Fd → Bool
is_empty_in tables p fd = is_none (object_named (table_in tables p) fd)

-- associations that end by them, where pipes are these

abbrev pub channels_in : List Pipe → AssociatedPortsValue → Channels
channels_in pipes v = record { pipes = pipes; ports = v.ports.ports; associations = v.assocs.list; timers = v.timers.list }

abbrev pub ended_in : List (List (Option Obj)) → Channels → ClosedRows → Channels
ended_in tables c closed.Nothing = c
ended_in tables c (closed.Row p fd) = rows_ended c p.0 (filter (is_empty_in tables p.0) (fd ∷ []))
ended_in tables c (closed.Rows p fds) = rows_ended c p.0 (filter (is_empty_in tables p.0) fds.items)
ended_in tables c (closed.Process p) = process_ended c p.0

-- these are the ends of pipes that had references in the state m, and have none now
abbrev pub AreGone : State → State → List Obj → Type 0
AreGone m n gone = (o : Obj) → list_any (is_object o) gone ≡ (is_end o && is_gone m n o)

-- the step of an event began in the state m
abbrev pub HasOpened : ObjectCounts → State → Type 0
HasOpened opening m = (o : Obj) → count_of opening o ≡ references_of m o

-- an object is an end of this pipe, or the other end of it is among these

abbrev pub is_of_pipe : Option ℕ → Obj → Bool
is_of_pipe None o = false
is_of_pipe (Some p) o = is_end_of p o

abbrev pub is_named : Option ℕ → List Obj → Obj → Bool
is_named pipe gone o = is_of_pipe pipe o || list_any (is_object (other_end o)) gone

-- a pipe with the references of its ends
pub record IsOfPipe (m : State) (pipe : Option ℕ) (found : Option Ends) : Type 0 where
  pub references : HasAllReferences (references_of m) found
  pub ends : (o : Obj) → is_end_in found o ≡ is_of_pipe pipe o

-- whatever is to fire watches an end of this pipe, or one whose other end is among these, which have no references
pub record AreNamed (m : State) (pipe : Option ℕ) (gone : List Obj) : Type 0 where
  pub none_left : (o : Obj) → list_any (is_object o) gone ≡ true → references_of m o ≡ 0
  pub fires : All (λ a. is_to_fire (ready_at m) a ≡ true → is_named pipe gone a.object ≡ true) (associations_in m)

-- memory for what any event can change, where there are so many associations and timers
pub record HasRoomToTell (rooms : TellingRooms) (n k : ℕ) : Type 0 where
  pub gone : STEP_MAX ≤ length rooms.gone.items + rooms.gone.spare
  pub changed : STEP_MAX + 2 ≤ rooms.changed.spare
  pub ending : HasRoomToEnd rooms.ending n k

-- nothing is listed in that memory
pub record TellsNothing (rooms : TellingRooms) : Type 0 where
  pub gone : rooms.gone.items ≡ []
  pub changed : rooms.changed.items ≡ []
  pub ports : rooms.ending.ports.items ≡ []
  pub ids : rooms.ending.ids.items ≡ []
  pub tags : rooms.ending.tags.items ≡ []

-- an object that a turn readies, if it is the end of a pipe, is one of this pipe
abbrev pub ReadiesAtMost : State → ℕ → Option Request → Option ℕ → Type 0
ReadiesAtMost m t q pipe = (o : Obj) → readied m t q ≡ Some o → is_end o ≡ true → is_of_pipe pipe o ≡ true

-- Ports were told in the state m, in which only processes that live have rows. Of a turn in it all is done but that they are told
-- again, which has led to the state n. These are the rows that its request closes, the pipe of what it readies, and the ends of pipes
-- that have gone.
pub record IsLeftToTell (m : State) (t : ℕ) (q : Option Request) (closed : ClosedRows) (pipe : Option ℕ) (lost : List Obj) (n : State) : Type 0 where
  pub told : AreTold m
  pub unborn : UnbornHaveNoRows m
  pub live : OnlyLiveHaveRows m
  pub after : IsAfterAct m t q n
  pub rows : closing_of closed ≡ closed_rows m t q
  pub readied : ReadiesAtMost m t q pipe
  pub gone : AreGone m n lost
