-- What every script that a text spells keeps, so that its requests are ones that a kernel takes.
use Rattle.std.specs.Prelude.{ℕ, ◌≡◌, ◌<◌, ◌≤◌, Some, length, slice_get, All}
use Rattle.dk_base.specs.ByNumber.{at_number}
use Rattle.script_lang.specs.Types.{Line}
use Rattle.line_forms.specs.declared.line.Line.TheVariants.{Create, Read, GetN, TimerSet, Advance, Interrupt, Kill, Fork}
use Rattle.spec_requests.specs.Types.{Pid, Procedure, ScriptProcess, ScriptThread}
use Rattle.script_lang.specs.Words.{ScriptValue, limit_at}
use Rattle.spec_requests.specs.DeclaredNames.{IsThread, IsProcess, IsDeclaredThread}
use Rattle.spec_requests.specs.Trees.{IsClosed}
use Rattle.dk_base.specs.declared.limits.TheConstants.{ADVANCE_MAX, DATA_MAX, DELAY_MAX, DESCRIPTORS_MAX, ANSWER_ITEMS_MAX, PROCESSES_MAX, THREADS_MAX, BUDGET_MAX}

-- an entry is that of a procedure of this process
pub record IsEntryOf (script : ScriptValue) (process entry : ℕ) : Type 0 where
  pub procedure : Procedure
  pub there : slice_get script.procedures entry ≡ Some procedure
  pub same_process : procedure.process.0 ≡ process

-- a process of the script is a child of this one
pub record IsChildOf (script : ScriptValue) (parent child : ℕ) : Type 0 where
  pub process : ScriptProcess
  pub there : at_number script.processes child ≡ Some process
  pub of : process.parent ≡ Some (record { 0 = parent })

-- What a line in a body of this process names is declared, and its counts are in range. A door is made of a procedure of
-- the process itself, since others may have procedures of the same name.
abbrev pub IsFitLine : ScriptValue → ℕ → Line → Type 0
IsFitLine script of (Create var entry cookie attrs) = IsEntryOf script of entry
IsFitLine script of (Read var fd most) = (1 ≤ most) × (most ≤ DATA_MAX)
IsFitLine script of (GetN port most least wait) = most ≤ ANSWER_ITEMS_MAX
IsFitLine script of (TimerSet timer first interval) = (first ≤ DELAY_MAX) × (interval ≤ DELAY_MAX)
IsFitLine script of (Advance by) = (1 ≤ by) × (by ≤ ADVANCE_MAX)
IsFitLine script of (Interrupt thread) = IsThread script thread.0
IsFitLine script of (Kill process) = IsProcess script process.0
-- a process forks its own children
IsFitLine script of (Fork child) = IsChildOf script of child.0
IsFitLine script of line = Unit {0}

pub record IsSoundThread (script : ScriptValue) (x : ScriptThread) : Type 0 where
  pub process : IsProcess script x.process.0
  pub body : All (IsFitLine script x.process.0) x.body
  -- each of its blocks is closed in it
  pub closed : IsClosed x.body

pub record IsSoundProcedure (script : ScriptValue) (x : Procedure) : Type 0 where
  pub process : IsProcess script x.process.0
  pub body : All (IsFitLine script x.process.0) x.body
  -- each of its blocks is closed in it
  pub closed : IsClosed x.body

-- a process may have no more descriptors than a process can
abbrev pub IsNarrow : ScriptProcess → Type 0
IsNarrow x = x.limit ≤ DESCRIPTORS_MAX

-- a child stands after its parent, and may have as many descriptors
pub record IsSoundChild (script : ScriptValue) (child : ℕ) (process : ScriptProcess) (parent : Pid) : Type 0 where
  pub first : 1 ≤ parent.0
  pub after : parent.0 < child
  pub limit : limit_at script.processes parent ≡ process.limit

pub record IsSound (script : ScriptValue) : Type 0 where
  pub few_processes : length script.processes ≤ PROCESSES_MAX
  pub few_threads : length script.threads ≤ THREADS_MAX
  pub small_budget : script.budget ≤ BUDGET_MAX
  pub narrow : All IsNarrow script.processes
  pub children :
      (child : ℕ) (process : ScriptProcess) (parent : Pid) → at_number script.processes child ≡ Some process →
      process.parent ≡ Some parent → IsSoundChild script child process parent
  pub threads : All (IsSoundThread script) script.threads
  pub procedures : All (IsSoundProcedure script) script.procedures
  pub schedule : All (IsDeclaredThread script) script.schedule
