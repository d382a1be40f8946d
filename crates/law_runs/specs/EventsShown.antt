-- Events: what a trace shows of a place is the event of its turn, with its number, from 1 on, the thread, the thread's root in the
-- state before, what the thread did, and what was answered; at the end of a task what the task computes, and of a line what the name
-- table of the thread's process replies to it.
use Rattle.std.specs.Prelude.{ℕ, ◌≡◌, ◌+◌, ◌==◌, List, [], ◌∷◌, Option, None, Some, if◌then◌else◌, length, slice_get, take}
use Rattle.spec_kernel.specs.Types.{Answer, Event, Request, ThreadState, What}
use Rattle.dk_base.specs.declared.answer.Answer.TheVariants as answer
use Rattle.ncd_app.specs.Words.{reply}
use Rattle.work_ops.specs.Words.{output_of}
use Rattle.dk_base.specs.declared.event.What.TheVariants as what
use Rattle.dk_base.specs.declared.request.Request.TheVariants as request
use Rattle.spec_records.specs.declared.record.ThreadState.TheVariants as is
use Rattle.spec_kernel.specs.Words.{State, Turn, process_of, root, state_at, state_of}
use Rattle.spec_events.specs.Words.{events_with_replies}
use Rattle.law_places.specs.Places.{answer_at}

-- by what the thread asked for
abbrev pub what_asked : Request → What
what_asked (request.Create entry cookie attrs) = what.Create
what_asked (request.Call fd bytes pass rsize) = what.Call
what_asked (request.Return bytes pass) = what.Return
what_asked (request.Revoke fd) = what.Revoke
what_asked (request.Bind fd) = what.Bind
what_asked request.Unbind = what.Unbind
what_asked (request.Info fd) = what.Info
what_asked request.InfoQuery = what.Info
what_asked (request.GetParam fd param) = what.GetParam
what_asked (request.SetParam fd param value) = what.SetParam
what_asked request.Cred = what.Cred
what_asked request.TestCancel = what.TestCancel
what_asked (request.Close fd) = what.Close
what_asked (request.Dup fd) = what.Dup
what_asked (request.Attach fd path) = what.Attach
what_asked (request.Detach path) = what.Detach
what_asked (request.Open path) = what.Open
what_asked (request.Await path) = what.Await
what_asked request.Pipe = what.Pipe
what_asked (request.Write fd bytes) = what.Write
what_asked (request.Read fd max) = what.Read
what_asked request.PortCreate = what.PortCreate
what_asked (request.Associate port object events user) = what.Associate
what_asked (request.Dissociate port object) = what.Dissociate
what_asked (request.Get port wait) = what.Get
what_asked (request.GetN port max nget wait) = what.GetN
what_asked (request.Send port events user) = what.Send
what_asked (request.SendN ports events user) = what.SendN
what_asked (request.Alert port mode events user) = what.Alert
what_asked (request.TimerCreate port user) = what.TimerCreate
what_asked (request.TimerSet timer first interval) = what.TimerSet
what_asked (request.TimerDelete timer) = what.TimerDelete
what_asked (request.Advance by) = what.Advance
what_asked (request.Interrupt thread) = what.Interrupt
what_asked (request.Kill process) = what.Kill
what_asked request.Exit = what.Exit
what_asked (request.Fork child) = what.Fork
what_asked (request.Work op bytes) = what.Work
what_asked (request.Ncd line) = what.Ncd

-- or by what it waited in; of the states that are not named here, FailedReturn alone is one in which a wait ends
abbrev pub what_ended : ThreadState → What
what_ended (is.Given item) = what.Accept
what_ended (is.Calling c) = what.Collect
what_ended (is.Getting port max nget one interrupted) = what.Got
what_ended (is.Awaiting path) = what.Found
what_ended (is.Working op input) = what.Done
what_ended _ = what.Woken

abbrev pub what_done : Option Request → ThreadState → What
what_done (Some r) s = what_asked r
what_done None s = what_ended s

-- what its event shows of the answer: the end of a task shows what the task computes
abbrev pub answer_shown : ThreadState → Answer → Answer
answer_shown (is.Working op input) a = answer.Data (output_of op input)
answer_shown _ a = a

-- What a thread asks the name table of its process: a line, which its request has.

abbrev pub line_asked_by : Option Request → Option (List ℕ)
line_asked_by (Some (request.Ncd line)) = Some line
line_asked_by q = None

abbrev pub with_line : Option (List ℕ) → List (List ℕ) → List (List ℕ)
with_line None lines = lines
with_line (Some line) lines = line ∷ lines

-- the lines that threads of process p ask in these turns, in order; a thread is of one process in all states
abbrev pub lines_asked : State → ℕ → List Turn → List (List ℕ)
lines_asked m p [] = []
lines_asked m p (x ∷ xs) = with_line (if process_of m x.thread == p then line_asked_by x.request else None) (lines_asked m p xs)

-- a line shows what is replied to it after these
abbrev pub reply_shown : List (List ℕ) → Option Request → Answer → Answer
reply_shown before (Some (request.Ncd line)) a = answer.Data (reply before line)
reply_shown before q a = a

-- an event that is shown at place i, of a turn
pub record ShowsTurn (m : State) (xs : List Turn) (i : ℕ) (x : Turn) (e : Event) : Type 0 where
  pub number : e.number ≡ i + 1
  pub thread : e.thread.0 ≡ x.thread
  pub root : e.root.0 ≡ root (state_at m xs i) x.thread
  pub what : e.what ≡ what_done x.request (state_of (state_at m xs i) x.thread)
  pub answer :
      e.answer
      ≡ reply_shown (lines_asked m (process_of m x.thread) (take i xs)) x.request
      (answer_shown (state_of (state_at m xs i) x.thread) (answer_at m xs i x))

pub record EventsShown (m : State) (xs : List Turn) : Type 0 where
  pub one_each : length (events_with_replies m [] xs) ≡ length xs
  pub each :
      (i : ℕ) (x : Turn) (e : Event) → slice_get xs i ≡ Some x → slice_get (events_with_replies m [] xs) i ≡ Some e → ShowsTurn m xs i x e
