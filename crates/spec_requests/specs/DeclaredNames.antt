-- Which threads, processes and entries a script declares, and which events name only such.
use Rattle.std.specs.Prelude.{ℕ, ◌≤◌, ◌<◌, length, Option, Some, None}
use Rattle.spec_requests.specs.Types.{Answer, Event, Pid, Tid}
use Rattle.dk_base.specs.declared.answer.Answer.TheVariants.{Info, Client, Child, Entered, EnteredNotice}
use Rattle.script_lang.specs.Words.{ScriptValue}

-- a number of one of so many, which are counted from 1
abbrev pub IsNumberOf : ℕ → ℕ → Type 0
IsNumberOf count n = (1 ≤ n) × (n ≤ count)

abbrev pub IsThread : ScriptValue → ℕ → Type 0
IsThread script t = IsNumberOf (length script.threads) t

abbrev pub IsProcess : ScriptValue → ℕ → Type 0
IsProcess script p = IsNumberOf (length script.processes) p

abbrev pub IsEntry : ScriptValue → ℕ → Type 0
IsEntry script entry = entry < length script.procedures

-- the process that a door's owner is shown as, if it is shown
abbrev pub IsTarget : ScriptValue → Option Pid → Type 0
IsTarget script None = Unit {0}
IsTarget script (Some process) = IsProcess script process.0

abbrev pub IsDeclaredAnswer : ScriptValue → Answer → Type 0
IsDeclaredAnswer script (Info info) = IsTarget script info.target × IsEntry script info.entry
IsDeclaredAnswer script (Client process) = IsProcess script process.0
IsDeclaredAnswer script (Child process) = IsProcess script process.0
IsDeclaredAnswer script (Entered call entry cookie bytes fds) = IsEntry script entry
IsDeclaredAnswer script (EnteredNotice notice entry cookie) = IsEntry script entry
IsDeclaredAnswer script answer = Unit {0}

-- the threads, the process and the entry that an event names
pub record IsDeclaredEvent (script : ScriptValue) (e : Event) : Type 0 where
  pub thread : IsThread script e.thread.0
  pub root : IsThread script e.root.0
  pub answer : IsDeclaredAnswer script e.answer

abbrev pub IsDeclaredThread : ScriptValue → Tid → Type 0
IsDeclaredThread script t = IsThread script t.0
