-- What the lines of a history have declared so far.
use Rattle.std.specs.Prelude.{ℕ, List, [], Option, unwrap_or}
use Rattle.history_text.specs.Types.{NamedProcedure, NamedProcess, NamedThread}

-- Processes, and threads with spares, are numbered from 1 in the order of their lines; procedures and paths from 0.
pub record Names : Type 0 where
  pub processes : List NamedProcess
  pub threads : List NamedThread
  pub procedures : List NamedProcedure
  pub paths : List (List ℕ)
  -- of each path, in the same order, what programs call it
  pub texts : List (List ℕ)

abbrev pub no_names : Names
no_names = record { processes = []; threads = []; procedures = []; paths = []; texts = [] }

-- what a process or a thread is called now
abbrev pub name_now : List ℕ → Option (List ℕ) → List ℕ
name_now declared given = unwrap_or given declared

abbrev pub process_name : NamedProcess → List ℕ
process_name process = name_now process.declared process.given

abbrev pub thread_name : NamedThread → List ℕ
thread_name thread = name_now thread.declared thread.given
