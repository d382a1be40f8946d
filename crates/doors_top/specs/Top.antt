-- What the top call promises.
use Rattle.std.specs.Prelude.{ℕ, ◌≡◌, ◌≤◌, ◌⊎◌, ⊤, true, false, List, length, Option, Some, None, Result, Ok, Err, IfSome, IfOk}
use Rattle.std.specs.Io.KnownBytes.{Appends}
use Rattle.doors_top.specs.declared.status.Status.{Status}
use Rattle.doors_top.specs.declared.status.Status.TheVariants as status
use Rattle.doors_top.specs.declared.status.Status.TheVariants.{Complete, Illegal}
use Rattle.dk_base.specs.declared.reading.ReadText.{ReadText}
use Rattle.dk_base.specs.declared.reading.ReadText.TheVariants.{Whole, TooLong}
use Rattle.doors_top.specs.declared.reply.Reply.{Reply}
use Rattle.doors_top.specs.declared.script_in.TheConstants.{CHECK_LIMIT, SCRIPT_LIMIT}
use Rattle.doors_top.specs.Outcomes.{IsLoad, IsNoCommand, Outcome, is_check, is_play, is_reader, is_run, is_show, outcome_of_bad, outcome_of_check, outcome_of_load, outcome_of_play, outcome_of_run, outcome_of_show, outcome_with, script_of_input, script_of_part, usage}
use Rattle.dk_base.specs.Input.{text_within_limit, IsWithinLimit, LeavesNone, LeavesRest}
use Rattle.dk_base.specs.Output.{AppendsFront}
use Rattle.dk_base.specs.Words.{Rose}
use Rattle.law_runs.specs.Words.{Laws}
use Rattle.load_gen.specs.Words.{load_script, load_text}
use Rattle.script_lang.specs.Words.{IsDecided, ScriptValue, parse_result, spells}
use Rattle.spec_requests.specs.Types.{Bad}
use Rattle.spec_traces.specs.declared.verdict.Verdict.TheVariants.{Differs, Legal}
use Rattle.spec_traces.specs.Words.{AreParts, HasNoTrace, IsFirstDifference, IsFrontOf, IsFrontOfRun, IsLegal, script_part, trace_part, turns_in, verdict, verdict_text}
use Rattle.spec_scripts.specs.Words.{IsAllowed, IsRefusedPlay, IsWholePlay, Refusal, is_over, opening_of, refusal, run, turns_before, turns_of, turns_of_play}

-- a status that says what was asked, and not that memory, a read or a write failed
abbrev pub IsAnswer : Status → Type 0
IsAnswer status.Memory = ⊥
IsAnswer status.ReadFault = ⊥
IsAnswer status.WriteFault = ⊥
IsAnswer _ = ⊤

-- a status that comes with a text or with a front of one: memory did not lack, and no read failed
abbrev pub HasText : Status → Type 0
HasText status.Memory = ⊥
HasText status.ReadFault = ⊥
HasText _ = ⊤

-- what was read is all that the source had, where it tells, or more than the limit
pub record IsRead (limit : ℕ) (old new : Option (List ℕ)) (read : ReadText) : Type 0 where
  pub told : IfSome old (λ bytes. read ≡ text_within_limit bytes limit)
  pub within : IsWithinLimit limit read
  pub ended : IfSome old (λ _. LeavesNone read new)

-- the bytes spell just the script that is shown, or none, and then the line is their first bad one
abbrev pub IsDecidedText : ReadText → Type 0
IsDecidedText (Whole bytes) = IsDecided bytes (parse_result bytes)
IsDecidedText TooLong = ⊤

-- the laws of the run of these turns
abbrev pub LawsOfTurns : ScriptValue → List ℕ → Type 0
LawsOfTurns script ts = Laws (opening_of script) (turns_of script ts)

-- the laws of the run that `play` makes of a script, up to the turn where it is refused
abbrev pub LawsOfScript : ScriptValue → Option Refusal → Type 0
LawsOfScript script None = LawsOfTurns script (turns_of_play script)
LawsOfScript script (Some refused) = LawsOfTurns script (turns_before script refused)

-- `play` plays a whole run of a script, or the turns before the one that is refused
abbrev pub TurnsOfScript : ScriptValue → Option Refusal → Type 0
TurnsOfScript script None = IsWholePlay script (turns_of_play script)
TurnsOfScript script (Some refused) = IsRefusedPlay script refused

abbrev pub TurnsOfPlay : ReadText → Type 0
TurnsOfPlay read = IfOk (script_of_input read) (λ script. TurnsOfScript script (refusal script))

abbrev pub LawsOfPlay : ReadText → Type 0
LawsOfPlay read = IfOk (script_of_input read) (λ script. LawsOfScript script (refusal script))

-- Commands. What is said of the outcome that a command made for what was read.

-- `play` made this of what was read
pub record IsPlayed (read : ReadText) (made : Outcome) : Type 0 where
  pub outcome : made ≡ outcome_of_play read
  pub spelled : IsDecidedText read
  pub turns : TurnsOfPlay read
  pub laws : LawsOfPlay read

-- what was answered and written is of a run of the script that is over, whatever order its turns have
pub record IsOfSomeRun (script : ScriptValue) (made : Outcome) : Type 0 where
  -- the turns are those of the lines that were written
  pub turns : List ℕ
  pub written : turns_in script made.text ≡ turns
  -- each thread is runnable at its turn, and the budget is not exceeded
  pub allowed : IsAllowed script turns
  -- no thread is runnable at the end, or the budget is used up
  pub over : is_over script (run script turns) ≡ true
  -- the number of the line `tail N`; whose turns it counts is not said
  pub tail : ℕ
  pub small : tail ≤ length turns
  -- the status is that of the run's end, and the text is the run's with that line
  pub of_turns : made ≡ outcome_of_run script turns tail
  pub laws : LawsOfTurns script turns
  -- the verdict of `check` on the text
  pub legal : verdict script made.text ≡ Legal (length turns)
  -- Where a write failed, a prefix of the text was written, told by the turns of its whole event lines: they are allowed, the lines of
  -- their run stand there, and then a prefix of its end line and a line `tail N` where it is over, or of the line of an event that may follow.
  pub fronts : (written : List ℕ) → IsFrontOf written made.text → IsFrontOfRun script written

abbrev pub RunsParsed : Result ScriptValue Bad → Outcome → Type 0
RunsParsed (Ok script) made = IsOfSomeRun script made
RunsParsed (Err bad) made = made ≡ outcome_of_bad bad

-- `run` made this of what was read
pub record IsRan (read : ReadText) (made : Outcome) : Type 0 where
  pub spelled : IsDecidedText read
  pub outcome : RunsParsed (script_of_input read) made

-- `show` made this of what was read
pub record IsShown (read : ReadText) (made : Outcome) : Type 0 where
  pub outcome : made ≡ outcome_of_show read
  pub spelled : IsDecidedText read

-- a script that is accepted, with the line `trace` and a trace after it
pub record HasTrace (read : ReadText) : Type 0 where
  pub input : List ℕ
  pub whole : read ≡ Whole input
  pub script : ScriptValue
  pub spelled : script_of_part (script_part input) ≡ Ok script
  pub trace : List ℕ
  pub follows : trace_part input ≡ Some trace

-- the trace is that of a legal run, of which the laws of every run hold, and the text tells how many events it has
pub record IsFoundLegal (script : ScriptValue) (trace text : List ℕ) : Type 0 where
  pub events : ℕ
  pub legal : IsLegal script trace events
  pub laws : LawsOfTurns script legal.turns
  pub told : text ≡ verdict_text (Legal events)

-- the text tells the first line at which the trace leaves the traces of all legal runs, and what is wanted there
pub record IsFoundIllegal (script : ScriptValue) (trace text : List ℕ) : Type 0 where
  pub line : ℕ
  pub want : List ℕ
  pub have : List ℕ
  pub first : IsFirstDifference script trace line want have
  pub told : text ≡ verdict_text (Differs line want have)

-- the parts of an input have the first line `trace` between them, or there is none
abbrev pub HasParts : List ℕ → Option (List ℕ) → Type 0
HasParts input None = HasNoTrace input
HasParts input (Some trace) = AreParts input (script_part input) trace

abbrev pub InputHasParts : ReadText → Type 0
InputHasParts (Whole input) = HasParts input (trace_part input)
InputHasParts TooLong = ⊤

-- the script part spells just one script, or none, and then the line is its first bad one
abbrev pub IsDecidedPart : ReadText → Type 0
IsDecidedPart (Whole input) = IsDecidedText (text_within_limit (script_part input) SCRIPT_LIMIT)
IsDecidedPart TooLong = ⊤

-- `check` made this of what was read: the outcome, and what is said of it with no walk over the lines of a trace
pub record IsChecked (read : ReadText) (made : Outcome) : Type 0 where
  pub outcome : made ≡ outcome_of_check read
  pub parts : InputHasParts read
  pub spelled : IsDecidedPart read
  -- where a trace follows an accepted script, it is judged
  pub judged : HasTrace read → (made.status ≡ Complete) ⊎ (made.status ≡ Illegal)
  -- Complete exactly where that is the trace of a legal run
  pub legal : made.status ≡ Complete → (has : HasTrace read) × IsFoundLegal has.script has.trace made.text
  pub legal_exact : (has : HasTrace read) (events : ℕ) → IsLegal has.script has.trace events → (made.status ≡ Complete) × (made.text ≡ verdict_text (Legal events))
  -- Illegal exactly where it leaves the traces of all legal runs
  pub illegal : made.status ≡ Illegal → (has : HasTrace read) × IsFoundIllegal has.script has.trace made.text
  pub illegal_exact : (has : HasTrace read) (line : ℕ) (want have : List ℕ) → IsFirstDifference has.script has.trace line want have →
      (made.status ≡ Illegal) × (made.text ≡ verdict_text (Differs line want have))

-- The script that `load` runs, and its run. Nothing is read.
pub record IsLoaded (n : ℕ) : Type 0 where
  -- the text of the load spells it
  pub spelled : spells (load_text n) (load_script n)
  -- it has no schedule, so no turn of it is refused
  pub unscheduled : refusal (load_script n) ≡ None
  pub turns : IsWholePlay (load_script n) (turns_of_play (load_script n))
  pub laws : LawsOfTurns (load_script n) (turns_of_play (load_script n))

-- The frame of all commands: what was read, the outcome that was made, and what was written of it.

-- of an outcome all was written, or a front of its text where a write failed
pub record IsWritten (made : Outcome) (held_old held_new : Option (List ℕ)) (answer : Status) : Type 0 where
  -- the whole answer: the outcome's status, and all of its text
  pub whole : IsAnswer answer → (answer ≡ made.status) × Appends held_old held_new made.text
  -- a write failed, and a front of the text was written
  pub front : answer ≡ status.WriteFault → AppendsFront held_old held_new made.text

-- the same of the reply that was made, where memory did not lack for it
abbrev pub IsWrittenOf : {E : Type 0} → Result Reply E → Option (List ℕ) → Option (List ℕ) → Status → Type 0
IsWrittenOf (Ok reply) held_old held_new answer = IsWritten (outcome_with reply.status reply.text) held_old held_new answer
IsWrittenOf (Err fault) held_old held_new answer = ⊥

-- A command made an outcome of what was read, up to a limit, and it was written. `Makes` has what is said of the outcome.
pub record Answered
    (limit : ℕ) (Makes : ReadText → Outcome → Type 0) (left_old left_new held_old held_new : Option (List ℕ)) (answer : Status) : Type 0 where
  pub read : ReadText
  pub is_read : IsRead limit left_old left_new read
  pub made : Outcome
  pub said : Makes read made
  pub written : IsWritten made held_old held_new answer

-- `load` made its outcome, and it was written
pub record AnsweredLoad (n : ℕ) (held_old held_new : Option (List ℕ)) (answer : Status) : Type 0 where
  pub loaded : IsLoaded n
  pub written : IsWritten (outcome_of_load n) held_old held_new answer

-- how any words leave the input
pub record LeavesInput
    {Input : Type 0} (left : Input → Option (List ℕ)) (faults : Input → ℕ) (old new : Input) (answer : Status) : Type 0 where
  -- what is left is the end of what was left
  pub rest : LeavesRest (left old) (left new)
  -- ReadFault only where a read failed
  pub read_fault : answer ≡ status.ReadFault → Rose (faults old) (faults new)

-- how any words leave the output
pub record LeavesOutput
    {Output : Type 0} (faults : Output → ℕ) (old new : Output) (answer : Status) : Type 0 where
  -- WriteFault only where a write failed
  pub write_fault : answer ≡ status.WriteFault → Rose (faults old) (faults new)
  -- nothing is written where a read failed
  pub read_fault_writes_nothing : answer ≡ status.ReadFault → new ≡ old
  -- nothing is written for want of memory
  pub want_writes_nothing : answer ≡ status.Memory → new ≡ old

-- what the top call promises of its words, its input, its output, and the status that it answers
pub record AnswersWords
    {Input Output : Type 0} (left : Input → Option (List ℕ)) (read_faults : Input → ℕ) (held : Output → Option (List ℕ)) (write_faults : Output → ℕ)
    (words : List (List ℕ)) (input_old input_new : Input) (output_old output_new : Output) (answer : Status) : Type 0 where
  -- the word is `play`
  pub play : is_play words ≡ true → HasText answer → Answered SCRIPT_LIMIT IsPlayed (left input_old) (left input_new) (held output_old) (held output_new) answer
  -- the word is `run`
  pub run : is_run words ≡ true → HasText answer → Answered SCRIPT_LIMIT IsRan (left input_old) (left input_new) (held output_old) (held output_new) answer
  -- the word is `show`
  pub show : is_show words ≡ true → HasText answer → Answered SCRIPT_LIMIT IsShown (left input_old) (left input_new) (held output_old) (held output_new) answer
  -- the word is `check`
  pub check : is_check words ≡ true → HasText answer → Answered CHECK_LIMIT IsChecked (left input_old) (left input_new) (held output_old) (held output_new) answer
  -- the words are `load` and a number
  pub load : (n : ℕ) → IsLoad words n → HasText answer → AnsweredLoad n (held output_old) (held output_new) answer
  -- the words are no command
  pub usage : IsNoCommand words → HasText answer → IsWritten usage (held output_old) (held output_new) answer
  -- `load`, or words that are no command: nothing is read
  pub nothing_read : is_reader words ≡ false → input_new ≡ input_old
  -- whatever the words are
  pub input : LeavesInput left read_faults input_old input_new answer
  pub output : LeavesOutput write_faults output_old output_new answer
