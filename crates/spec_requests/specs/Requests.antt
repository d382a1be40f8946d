-- Which request a thread makes next: a function of its events so far. A frame is what is left of a body, with the
-- variables that were set in it.
use Rattle.std.specs.Prelude.{ℕ, ◌==◌, List, [], ◌∷◌, Option, Some, None, Bool, true, false, if◌then◌else◌, bytes_eq, codes, decimal, map, slice_get}
use Rattle.dk_base.specs.Words.{errno_name}
use Rattle.spec_requests.specs.Types.{Answer, Errno, Event, Procedure, Request, ScriptThread}
use Rattle.dk_base.specs.declared.answer.Answer.TheVariants as answer
use Rattle.dk_base.specs.declared.request.Request.TheVariants as request
use Rattle.dk_base.specs.ByNumber.{at_number}
use Rattle.script_lang.specs.Types.{Cond, Line}
use Rattle.line_forms.specs.declared.line.Cond.TheVariants.{Good, Yes, Unref, Errno as Failed}
use Rattle.line_forms.specs.declared.line.Line.TheVariants as line
use Rattle.script_lang.specs.Words.{ScriptValue}
use Rattle.spec_requests.specs.Steps.{BodyStep, steps_of_body, next_steps}
use Rattle.spec_requests.specs.Steps.BodyStep.{Do}
use Rattle.spec_requests.specs.Variables.{Value, Variables, empty_value, with_bytes, with_both, no_variables, set_variable, set_each, vars_of, values_of, fd_of, pass_of, data_of}

pub record Frame : Type 0 where
  -- what is ahead, from the command on that the thread is at
  pub steps : List BodyStep
  pub variables : Variables
  -- the last answer
  pub last : Answer
  -- whether a notice began it
  pub notice : Bool
  -- whether it is a procedure's
  pub procedure : Bool

-- what a test says of the last answer, and of what began the frame

abbrev pub is_good : Answer → Bool
is_good (answer.Failure errno) = false
is_good last = true

abbrev pub is_yes : Answer → Bool
is_yes (answer.Cancel cancelled) = cancelled
is_yes last = false

-- an errno is known by its name
abbrev pub is_failure : Errno → Answer → Bool
is_failure errno (answer.Failure other) = bytes_eq (errno_name other) (errno_name errno)
is_failure errno last = false

abbrev pub is_met : Answer → Bool → Cond → Bool
is_met last notice Good = is_good last
is_met last notice Yes = is_yes last
is_met last notice Unref = notice
is_met last notice (Failed errno) = is_failure errno last

-- what a frame asks

-- A `repeat`, an `if` and an `end` are no commands and stand in no step; they have a request so that each line has one.
abbrev pub request_at : Variables → Line → Request
request_at variables (line.Create var entry cookie attrs) = request.Create entry cookie attrs
request_at variables (line.Call var fd bytes pass rsize) =
    request.Call (fd_of variables fd) (data_of variables bytes) (map (pass_of variables) pass) rsize
request_at variables (line.Return bytes pass) = request.Return (data_of variables bytes) (map (pass_of variables) pass)
request_at variables line.Serve = request.Return [] []
request_at variables (line.Revoke fd) = request.Revoke (fd_of variables fd)
request_at variables (line.Bind fd) = request.Bind (fd_of variables fd)
request_at variables line.Unbind = request.Unbind
request_at variables (line.Info fd) = request.Info (fd_of variables fd)
request_at variables line.InfoQuery = request.InfoQuery
request_at variables (line.GetParam fd param) = request.GetParam (fd_of variables fd) param
request_at variables (line.SetParam fd param value) = request.SetParam (fd_of variables fd) param value
request_at variables line.Cred = request.Cred
request_at variables line.TestCancel = request.TestCancel
request_at variables (line.Close fd) = request.Close (fd_of variables fd)
request_at variables (line.Dup var fd) = request.Dup (fd_of variables fd)
request_at variables (line.Attach fd path) = request.Attach (fd_of variables fd) path
request_at variables (line.Detach path) = request.Detach path
request_at variables (line.Open var path) = request.Open path
request_at variables (line.Await path) = request.Await path
request_at variables (line.Pipe reading writing) = request.Pipe
request_at variables (line.Write fd bytes) = request.Write (fd_of variables fd) (data_of variables bytes)
request_at variables (line.Read var fd most) = request.Read (fd_of variables fd) most
request_at variables (line.PortCreate var) = request.PortCreate
request_at variables (line.Associate port object events user) =
    request.Associate (fd_of variables port) (fd_of variables object) events user
request_at variables (line.Dissociate port object) = request.Dissociate (fd_of variables port) (fd_of variables object)
request_at variables (line.Get port wait) = request.Get (fd_of variables port) wait
request_at variables (line.GetN port most least wait) = request.GetN (fd_of variables port) most least wait
request_at variables (line.Send port events user) = request.Send (fd_of variables port) events user
request_at variables (line.SendN events user ports) = request.SendN (map (fd_of variables) ports) events user
request_at variables (line.Alert port mode events user) = request.Alert (fd_of variables port) mode events user
request_at variables (line.TimerCreate port user) = request.TimerCreate (fd_of variables port) user
request_at variables (line.TimerSet timer first interval) = request.TimerSet timer first interval
request_at variables (line.TimerDelete timer) = request.TimerDelete timer
request_at variables (line.Advance by) = request.Advance by
request_at variables (line.Interrupt thread) = request.Interrupt thread
request_at variables (line.Kill process) = request.Kill process
request_at variables line.Exit = request.Exit
request_at variables (line.Fork child) = request.Fork child
request_at variables (line.Work var op bytes) = request.Work op (data_of variables bytes)
request_at variables (line.Ncd var bytes) = request.Ncd (data_of variables bytes)
request_at variables (line.Repeat times) = request.Exit
request_at variables (line.If cond) = request.Exit
request_at variables line.End = request.Exit

-- at a procedure's end the request is Return with nothing, each time; at the end of a thread's body it is Exit
abbrev pub request_at_end : Bool → Request
request_at_end true = request.Return [] []
request_at_end false = request.Exit

abbrev pub request_ahead : Frame → List BodyStep → Request
request_ahead f (Do line ∷ steps) = request_at f.variables line
request_ahead f steps = request_at_end f.procedure

abbrev pub request_of : Frame → Request
request_of f = request_ahead f f.steps

-- what an answer makes of a frame

-- A frame begins before its body's first command. The last answer is `ok` there.
abbrev pub new_frame : Bool → Bool → Variables → List Line → Frame
new_frame procedure notice variables body =
    record {
      steps = next_steps (is_met answer.Done notice) 0 (steps_of_body body);
      variables = variables;
      last = answer.Done;
      notice = notice;
      procedure = procedure;
    }

-- a spare begins as an empty procedure
abbrev pub first_body : ScriptThread → List Line
first_body thread = if thread.spare then [] else thread.body

abbrev pub first_frame_or_empty : Option ScriptThread → Frame
first_frame_or_empty None = new_frame false false no_variables []
first_frame_or_empty (Some thread) = new_frame thread.spare false no_variables (first_body thread)

-- a thread's frame begins with its body
abbrev pub first_frame : ScriptValue → ℕ → Frame
first_frame script t = first_frame_or_empty (at_number script.threads t)

abbrev pub body_or_empty : Option Procedure → List Line
body_or_empty None = []
body_or_empty (Some procedure) = procedure.body

-- the lines of a procedure
abbrev pub procedure_body : ScriptValue → ℕ → List Line
procedure_body script entry = body_or_empty (slice_get script.procedures entry)

-- the variables in which a procedure begins: the argument, and the decimal text of the door's cookie
abbrev pub arguments : Value → ℕ → Variables
arguments argument cookie =
    set_variable (set_variable no_variables (codes "arg") argument) (codes "cookie") (with_bytes (decimal cookie))

abbrev pub procedure_frame : ScriptValue → ℕ → Bool → Variables → Frame
procedure_frame script entry notice variables = new_frame true notice variables (procedure_body script entry)

-- the steps after the command that a frame is at
abbrev pub steps_after : List BodyStep → List BodyStep
steps_after [] = []
steps_after (step ∷ steps) = steps

-- the variables that the command sets
abbrev pub vars_ahead : List BodyStep → List (List ℕ)
vars_ahead (Do line ∷ steps) = vars_of line
vars_ahead steps = []

-- an answer ends the command that it answers
abbrev pub frame_after_command : Frame → Answer → Frame
frame_after_command f a =
    record f {
      steps = next_steps (is_met a f.notice) 0 (steps_after f.steps);
      variables = set_each f.variables (vars_ahead f.steps) (values_of a);
      last = a;
    }

-- an accept that enters replaces the frame; what says that a thread waits, or that an accept failed, leaves it; any
-- other answer ends the command that made the request
abbrev pub frame_after_answer : ScriptValue → Frame → Answer → Frame
frame_after_answer script f (answer.Entered call entry cookie bytes fds) =
    procedure_frame script entry false (arguments (with_both bytes fds) cookie)
frame_after_answer script f (answer.EnteredNotice notice entry cookie) = procedure_frame script entry true (arguments empty_value cookie)
frame_after_answer script f answer.Wait = f
frame_after_answer script f (answer.WaitCall call) = f
frame_after_answer script f (answer.EnterFailed call) = f
frame_after_answer script f a = frame_after_command f a

-- a thread's frame after one event more
abbrev pub frame_after : ScriptValue → ℕ → Frame → Event → Frame
frame_after script t f e = if e.thread.0 == t then frame_after_answer script f e.answer else f

abbrev pub frame_from : ScriptValue → ℕ → Frame → List Event → Frame
frame_from script t f [] = f
frame_from script t f (e ∷ es) = frame_from script t (frame_after script t f e) es

-- a thread's frame after these events
abbrev pub frame_of : ScriptValue → ℕ → List Event → Frame
frame_of script t events = frame_from script t (first_frame script t) events

-- a thread's next request after these events
abbrev pub request_after : ScriptValue → ℕ → List Event → Request
request_after script t events = request_of (frame_of script t events)
