-- Where a machine stands in its script.
use Rattle.std.specs.Prelude.{ℕ, ◌≡◌, ◌<◌, ◌≤◌, Bool, true, false, List, [], length, drop, Option, Some, None}
use Rattle.line_text.specs.Types.{Answer}
use Rattle.dk_base.specs.declared.answer.Answer.TheVariants as answer
use Rattle.script_lang.specs.Types.{Line}
use Rattle.spec_requests.specs.Types.{ScriptThread}
use Rattle.script_lang.specs.Words.{ScriptValue}
use Rattle.dk_base.specs.ByNumber.{at_number}
use Rattle.spec_requests.specs.Words.{BodyStep, Frame, Variables, arguments, empty_value, first_body, next_steps, procedure_body, with_both}
use Rattle.thread_machine.specs.declared.machine.Machine.{Machine}
use Rattle.thread_machine.specs.declared.machine.AnswerEffect.{AnswerEffect}
use Rattle.thread_machine.specs.declared.machine.AnswerEffect.TheVariants.{BeginsFrame, KeepsFrame, EndsCommand}
use Rattle.thread_machine.specs.declared.known.LastAnswer.TheVariants.{Good}
use Rattle.thread_machine.specs.LastAnswers.{last_answer, is_met_in}
use Rattle.thread_machine.specs.Places.{StandsAt, AtCommand, steps_from, first_place}
use Rattle.thread_machine.specs.Slots.{Holds}

abbrev pub body_of_thread : Option ScriptThread → List Line
body_of_thread None = []
body_of_thread (Some thread) = first_body thread

abbrev pub is_spare_thread : Option ScriptThread → Bool
is_spare_thread None = false
is_spare_thread (Some thread) = thread.spare

-- the lines in which a machine stands: those of its thread, or of a procedure
abbrev pub body_of : ScriptValue → ℕ → Option ℕ → List Line
body_of script t None = body_of_thread (at_number script.threads t)
body_of script t (Some entry) = procedure_body script entry

-- whether its frame is a procedure's, as a spare's is
abbrev pub is_in_procedure : ScriptValue → ℕ → Option ℕ → Bool
is_in_procedure script t None = is_spare_thread (at_number script.threads t)
is_in_procedure script t (Some entry) = true

abbrev pub IsEntryOrNone : ScriptValue → Option ℕ → Type 0
IsEntryOrNone script None = Unit {0}
IsEntryOrNone script (Some entry) = entry < length script.procedures

abbrev pub machine_lines : ScriptValue → Machine → List Line
machine_lines script machine = body_of script machine.thread.0 machine.entry

-- a machine of the script: its thread and its procedure are declared, and it stands in its lines
pub record IsPlaced (script : ScriptValue) (machine : Machine) : Type 0 where
  pub first : 1 ≤ machine.thread.0
  pub declared : machine.thread.0 ≤ length script.threads
  pub entry : IsEntryOrNone script machine.entry
  pub stands : StandsAt (machine_lines script machine) machine.place

-- and before a command, or at the end of its lines
pub record IsMachine (script : ScriptValue) (machine : Machine) : Type 0 where
  pub placed : IsPlaced script machine
  pub command : AtCommand (drop machine.place.position (machine_lines script machine))

-- the machine stands where the frame does
pub record Stands (script : ScriptValue) (machine : Machine) (f : Frame) : Type 0 where
  pub steps : f.steps ≡ steps_from (machine_lines script machine) machine.place
  pub variables : Holds machine.variables.set f.variables
  pub last : machine.known.last ≡ last_answer f.last
  pub notice : machine.known.notice ≡ f.notice
  pub procedure : is_in_procedure script machine.thread.0 machine.entry ≡ f.procedure

-- the procedure of an answer that enters is declared
abbrev pub HasDeclaredEntry : ScriptValue → Answer → Type 0
HasDeclaredEntry script (answer.Entered call entry cookie bytes fds) = entry < length script.procedures
HasDeclaredEntry script (answer.EnteredNotice notice entry cookie) = entry < length script.procedures
HasDeclaredEntry script a = Unit {0}

-- The effect of an answer: it begins a frame, says that the thread waits or that an accept failed, or ends a command.
abbrev pub effect_of : Answer → AnswerEffect
effect_of (answer.Entered call entry cookie bytes fds) = BeginsFrame
effect_of (answer.EnteredNotice notice entry cookie) = BeginsFrame
effect_of answer.Wait = KeepsFrame
effect_of (answer.WaitCall call) = KeepsFrame
effect_of (answer.EnterFailed call) = KeepsFrame
effect_of a = EndsCommand

-- on to the next command
pub record Settles (script : ScriptValue) (old new : Machine) : Type 0 where
  pub thread : new.thread ≡ old.thread
  pub entry : new.entry ≡ old.entry
  pub known : new.known ≡ old.known
  pub variables : new.variables ≡ old.variables
  pub stands : StandsAt (machine_lines script old) new.place
  pub command : AtCommand (drop new.place.position (machine_lines script old))
  pub ahead : next_steps (is_met_in old.known) 0 (steps_from (machine_lines script old) old.place) ≡ steps_from (machine_lines script old) new.place

-- where a frame is before its tests are passed
pub record Precedes (script : ScriptValue) (machine : Machine) (before : List BodyStep) (values : Variables) (a : Answer) (by_notice in_procedure : Bool) : Type 0 where
  pub steps : before ≡ steps_from (machine_lines script machine) machine.place
  pub variables : Holds machine.variables.set values
  pub last : machine.known.last ≡ last_answer a
  pub notice : machine.known.notice ≡ by_notice
  pub procedure : is_in_procedure script machine.thread.0 machine.entry ≡ in_procedure

-- before the first line of a procedure
pub record Begins (old : Machine) (of : ℕ) (by_notice : Bool) (new : Machine) : Type 0 where
  pub thread : new.thread ≡ old.thread
  pub entry : new.entry ≡ Some of
  pub place : new.place ≡ first_place
  pub last : new.known.last ≡ Good
  pub notice : new.known.notice ≡ by_notice
  pub none : new.variables.set ≡ []
  pub spare : old.variables.spare ≤ new.variables.spare

-- the variables are set, and nothing else is
pub record SetsArguments (old : Machine) (values : Variables) (new : Machine) : Type 0 where
  pub thread : new.thread ≡ old.thread
  pub entry : new.entry ≡ old.entry
  pub place : new.place ≡ old.place
  pub known : new.known ≡ old.known
  pub variables : Holds new.variables.set values

-- at the start of the frame that an accept begins
pub record StartsFrame (of : ℕ) (by_notice : Bool) (values : Variables) (new : Machine) : Type 0 where
  pub entry : new.entry ≡ Some of
  pub place : new.place ≡ first_place
  pub last : new.known.last ≡ Good
  pub notice : new.known.notice ≡ by_notice
  pub variables : Holds new.variables.set values

abbrev pub StartsFrameOf : Answer → Machine → Type 0
StartsFrameOf (answer.Entered call entry cookie bytes fds) new = StartsFrame entry false (arguments (with_both bytes fds) cookie) new
StartsFrameOf (answer.EnteredNotice notice entry cookie) new = StartsFrame entry true (arguments empty_value cookie) new
StartsFrameOf a new = Unit {0}

-- there is room for what an answer may set
abbrev pub HasRoomForAnswer : Machine → Type 0
HasRoomForAnswer machine = 2 ≤ machine.variables.spare
