-- What a machine keeps of the last answer, and what its tests say by it.
use Rattle.std.specs.Prelude.{Bool, true, false, if◌then◌else◌, bytes_eq}
use Rattle.dk_base.specs.Words.{errno_name}
use Rattle.line_text.specs.Types.{Answer, Errno}
use Rattle.dk_base.specs.declared.answer.Answer.TheVariants as answer
use Rattle.script_lang.specs.Types.{Cond}
use Rattle.line_forms.specs.declared.line.Cond.TheVariants as cond
use Rattle.thread_machine.specs.declared.known.TestContext.{TestContext}
use Rattle.thread_machine.specs.declared.known.LastAnswer.{LastAnswer}
use Rattle.thread_machine.specs.declared.known.LastAnswer.TheVariants.{Good, Yes, Failed}

abbrev pub last_if : Bool → LastAnswer
last_if cancelled = if cancelled then Yes else Good

abbrev pub last_answer : Answer → LastAnswer
last_answer (answer.Failure errno) = Failed errno
last_answer (answer.Cancel cancelled) = last_if cancelled
last_answer last = Good

abbrev pub is_last_good : LastAnswer → Bool
is_last_good (Failed errno) = false
is_last_good last = true

abbrev pub is_last_yes : LastAnswer → Bool
is_last_yes Yes = true
is_last_yes last = false

abbrev pub is_last_failure : Errno → LastAnswer → Bool
is_last_failure errno (Failed other) = bytes_eq (errno_name other) (errno_name errno)
is_last_failure errno last = false

-- whether a test holds
abbrev pub is_met_in : TestContext → Cond → Bool
is_met_in known cond.Good = is_last_good known.last
is_met_in known cond.Yes = is_last_yes known.last
is_met_in known cond.Unref = known.notice
is_met_in known (cond.Errno errno) = is_last_failure errno known.last
