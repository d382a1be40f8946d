-- Rows: at every event each descriptor of each process names what it named, except where the event's answer gives it to a thread of
-- that process, a request of such a thread closes it, or the process begins or ends.
use Rattle.std.specs.Prelude.{ℕ, ◌≡◌, ◌+◌, ◌≤◌, List, Option, true, Some, None, length, slice_get}
use Rattle.std.specs.List.{list_any}
use Rattle.spec_kernel.specs.Types.{Attrs, Fd, Name, Obj, Pass, PathId, Pid}
use Rattle.dk_base.specs.declared.object.Obj.TheVariants as obj
use Rattle.dk_base.specs.declared.request.Request.TheVariants as request
use Rattle.dk_base.specs.declared.answer.Answer.TheVariants as answer
use Rattle.dk_base.specs.ByNumber.{at_number}
use Rattle.spec_kernel.specs.Words.{State, Turn, door_of, name_of, object_at, state_at}
use Rattle.law_states.specs.Events.{IsMade}
use Rattle.law_places.specs.Counts.{descriptors, free_below, limit_of}
use Rattle.law_places.specs.Places.{answer_at, process_at}
use Rattle.law_runs.specs.NoLoss.{Brings, Passes, is_descriptor, is_release_of}
use Rattle.law_runs.specs.Ends.{EndsProcess}

-- the turn of place i is a request for a descriptor of this object: of the door or the port that it makes, of what another descriptor of the
-- thread's process names, or of the door at a path
pub data AsksFor (m : State) (xs : List Turn) (i : ℕ) (x : Turn) : Obj → Type 0 where
  makes :
      (d entry cookie : ℕ) (attrs : Attrs) → x.request ≡ Some (request.Create entry cookie attrs) →
      door_of (state_at m xs i) d ≡ None → IsMade (door_of (state_at m xs (i + 1)) d) → AsksFor m xs i x (obj.Door d)
  copies :
      (old : Fd) (o : Obj) → x.request ≡ Some (request.Dup old) →
      object_at (state_at m xs i) (process_at m xs i x.thread) old ≡ Some o → AsksFor m xs i x o
  makes_port :
      (q : ℕ) → x.request ≡ Some request.PortCreate → at_number (state_at m xs i).channels.ports q ≡ None →
      IsMade (at_number (state_at m xs (i + 1)).channels.ports q) → AsksFor m xs i x (obj.Port q)
  opens :
      (path : PathId) (name : Name) → x.request ≡ Some (request.Open path) → name_of (state_at m xs i) path ≡ Some name →
      AsksFor m xs i x (obj.Door name.door)

-- the turn of place i is a request for a pipe, and makes the one of this number
pub record MakesPipe (m : State) (xs : List Turn) (i : ℕ) (x : Turn) (n : ℕ) : Type 0 where
  pub asked : x.request ≡ Some request.Pipe
  pub none_before : at_number (state_at m xs i).channels.pipes n ≡ None
  pub made : IsMade (at_number (state_at m xs (i + 1)).channels.pipes n)

-- the turn of place i closes this descriptor of its thread's process: it is a Close or a Revoke of it that answers Done, or a
-- Call or a Return, not refused, that passes it with release
pub data Closes (m : State) (xs : List Turn) (i : ℕ) (x : Turn) (fd : Fd) : Type 0 where
  by_close : x.request ≡ Some (request.Close fd) → answer_at m xs i x ≡ answer.Done → Closes m xs i x fd
  by_revoke : x.request ≡ Some (request.Revoke fd) → answer_at m xs i x ≡ answer.Done → Closes m xs i x fd
  by_release : (pass : List Pass) → Passes m xs i x pass → list_any (is_release_of fd) pass ≡ true → Closes m xs i x fd

-- the turn of place i is a Fork that begins this process
pub record Forks (m : State) (xs : List Turn) (i : ℕ) (x : Turn) (child : Pid) : Type 0 where
  pub asked : x.request ≡ Some (request.Fork child)
  pub answered : answer_at m xs i x ≡ answer.Child child

-- What descriptor fd of process p names before and after the turn of place i. No descriptor is closed and given
-- out again at one event.
pub data RowChange (m : State) (xs : List Turn) (i : ℕ) (x : Turn) (p : ℕ) (fd : Fd) : Option Obj → Option Obj → Type 0 where
  stays : {o : Option Obj} → RowChange m xs i x p fd o o
  -- the answer tells it
  told :
      (o : Obj) → p ≡ process_at m xs i x.thread → answer_at m xs i x ≡ answer.NewFd fd → AsksFor m xs i x o →
      RowChange m xs i x p fd None (Some o)
  -- the answer tells the two ends of the pipe that is made
  reading :
      (n : ℕ) (writing : Fd) → p ≡ process_at m xs i x.thread → answer_at m xs i x ≡ answer.TwoFds fd writing → MakesPipe m xs i x n →
      RowChange m xs i x p fd None (Some (obj.PipeIn n))
  writing :
      (n : ℕ) (reading : Fd) → p ≡ process_at m xs i x.thread → answer_at m xs i x ≡ answer.TwoFds reading fd → MakesPipe m xs i x n →
      RowChange m xs i x p fd None (Some (obj.PipeOut n))
  -- the answer tells it among those that come with a call, or with its results
  brought :
      (o : Obj) (c : ℕ) (fds : List Fd) → p ≡ process_at m xs i x.thread → Brings m xs i x c fds →
      list_any (is_descriptor fd) fds ≡ true → RowChange m xs i x p fd None (Some o)
  -- the process begins, with what its parent's descriptors name
  forked :
      (o : Obj) (child : Pid) → Forks m xs i x child → p ≡ child.0 → object_at (state_at m xs i) (process_at m xs i x.thread) fd ≡ Some o →
      RowChange m xs i x p fd None (Some o)
  closed : (o : Obj) → p ≡ process_at m xs i x.thread → Closes m xs i x fd → RowChange m xs i x p fd (Some o) None
  ended : (o : Obj) → EndsProcess m xs i x p → RowChange m xs i x p fd (Some o) None

-- the number that the turn of place i tells was the lowest that named nothing before it, and names after it the object that was
-- asked for
pub record IsAnswered (m : State) (xs : List Turn) (i : ℕ) (x : Turn) (fd : Fd) : Type 0 where
  pub object : Obj
  pub asked : AsksFor m xs i x object
  pub was_free : object_at (state_at m xs i) (process_at m xs i x.thread) fd ≡ None
  pub lowest : free_below (state_at m xs i) (process_at m xs i x.thread) fd ≡ 0
  pub names : object_at (state_at m xs (i + 1)) (process_at m xs i x.thread) fd ≡ Some object

-- the two numbers that the turn of place i tells were the lowest two that named nothing before it, and name after it the ends of a pipe
-- that it made
pub record ArePipeEnds (m : State) (xs : List Turn) (i : ℕ) (x : Turn) (reading writing : Fd) : Type 0 where
  pub number : ℕ
  pub makes : MakesPipe m xs i x number
  pub reading_was_free : object_at (state_at m xs i) (process_at m xs i x.thread) reading ≡ None
  pub writing_was_free : object_at (state_at m xs i) (process_at m xs i x.thread) writing ≡ None
  pub lowest : free_below (state_at m xs i) (process_at m xs i x.thread) reading ≡ 0
  pub next : free_below (state_at m xs i) (process_at m xs i x.thread) writing ≡ 1
  pub names_reading : object_at (state_at m xs (i + 1)) (process_at m xs i x.thread) reading ≡ Some (obj.PipeIn number)
  pub names_writing : object_at (state_at m xs (i + 1)) (process_at m xs i x.thread) writing ≡ Some (obj.PipeOut number)

pub record Rows (m : State) (xs : List Turn) : Type 0 where
  pub each :
      (i p : ℕ) (x : Turn) (fd : Fd) → slice_get xs i ≡ Some x →
      RowChange m xs i x p fd (object_at (state_at m xs i) p fd) (object_at (state_at m xs (i + 1)) p fd)
  -- what is told comes, and what is closed goes; of descriptors that come with a message the law of what is in transit says so, of
  -- those of a process that ends the law of ends
  pub answered : (i : ℕ) (x : Turn) (fd : Fd) → slice_get xs i ≡ Some x → answer_at m xs i x ≡ answer.NewFd fd → IsAnswered m xs i x fd
  pub piped :
      (i : ℕ) (x : Turn) (reading writing : Fd) → slice_get xs i ≡ Some x → answer_at m xs i x ≡ answer.TwoFds reading writing →
      ArePipeEnds m xs i x reading writing
  pub closes :
      (i : ℕ) (x : Turn) (fd : Fd) → slice_get xs i ≡ Some x → Closes m xs i x fd →
      object_at (state_at m xs (i + 1)) (process_at m xs i x.thread) fd ≡ None
  pub forks :
      (i : ℕ) (x : Turn) (child : Pid) (fd : Fd) → slice_get xs i ≡ Some x → Forks m xs i x child →
      object_at (state_at m xs (i + 1)) child.0 fd ≡ object_at (state_at m xs i) (process_at m xs i x.thread) fd
  -- a process has as many descriptors as it was declared with, always
  pub size : (i p : ℕ) → i ≤ length xs → descriptors (state_at m xs i) p ≡ limit_of m p
