-- One turn of a thread after the events so far.
use Rattle.std.specs.Prelude.{ℕ, ◌≡◌, ◌<◌, ◌∷◌, ◌++◌, [], List, Option, length, true}
use Rattle.spec_kernel.specs.Types.{Event}
use Rattle.spec_kernel.specs.Words.{StandsFor, State, is_runnable, state_of}
use Rattle.spec_events.specs.Words.{output_at}
use Rattle.script_lang.specs.Words.{ScriptValue}
use Rattle.thread_machine.specs.declared.machine.Machine.{Machine}
use Rattle.sys_run.specs.declared.turn.Turned.{Turned}
use Rattle.ncd_app.specs.Words.{NcdValue}
use Rattle.sys_run.specs.NameTables.{HasTables}
use Rattle.sys_run.specs.Sys.{IsJournal, MachineStands, asked_in, state_of_run, threads_woken_by, with_journal, with_turn}

-- after these events thread t may take its turn, and kernel, machine and tables stand there; `output` are the bytes of its task, where it
-- ends one
pub record CanTurn (script : ScriptValue) (es : List Event) (kernel : State) (x : Machine) (tables : List NcdValue) (t : ℕ) (output : Option (List ℕ)) : Type 0 where
  pub run : IsJournal (with_journal script es)
  pub kernel_stands : StandsFor kernel (state_of_run (with_journal script es))
  pub machine_stands : MachineStands script es t x
  pub tables_stand : HasTables script (asked_in (with_journal script es)) tables
  pub can : is_runnable (state_of_run (with_journal script es)) t ≡ true
  pub left : length es < script.budget
  pub is_output : output ≡ output_at (state_of (state_of_run (with_journal script es)) t)

-- kernel, machine and tables stand after its event, of which this is told
pub record HasTurned (script : ScriptValue) (es : List Event) (t : ℕ) (turned : Turned) (kernel : State) (x : Machine) (tables : List NcdValue) : Type 0 where
  pub journal : with_journal script (es ++ turned.event ∷ []) ≡ with_turn (with_journal script es) t
  pub kernel_stands : StandsFor kernel (state_of_run (with_turn (with_journal script es) t))
  pub machine_stands : MachineStands script (es ++ turned.event ∷ []) t x
  pub tables_stand : HasTables script (asked_in (with_turn (with_journal script es) t)) tables
  pub woken : turned.woken ≡ threads_woken_by (with_journal script es) t
