-- Which runs name only what their script declares.
use Rattle.std.specs.Prelude.{All}
use Rattle.script_lang.specs.Words.{ScriptValue}
use Rattle.spec_kernel.specs.Words.{waiting_threads}
use Rattle.spec_kernel.specs.Types.{Door}
use Rattle.spec_requests.specs.Words.{IsDeclaredEvent, IsDeclaredThread, IsEntryOf, IsProcess}
use Rattle.spec_scripts.specs.ScriptRuns.{History}

-- the process and the entry that a door names: a procedure of that process
pub record IsDeclaredDoor (script : ScriptValue) (d : Door) : Type 0 where
  pub owner : IsProcess script d.owner.0
  pub entry : IsEntryOf script d.owner.0 d.entry

-- whatever a history names is declared
pub record IsDeclared (script : ScriptValue) (h : History) : Type 0 where
  pub events : All (IsDeclaredEvent script) h.events
  pub doors : All (IsDeclaredDoor script) h.state.doors
  pub waiting : All (IsDeclaredThread script) (waiting_threads h.state)
