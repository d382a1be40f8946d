-- The names of a script with their numbers.
use Rattle.std.specs.Prelude.{ℕ, Bool, false, ◌+◌, ◌==◌, ◌&&◌, List, Option, None, Some, option_map, bytes_eq, position, unwrap_or, if◌then◌else◌}
use Rattle.std.specs.List.{position_or_len}
use Rattle.dk_base.specs.ByNumber.{at_number}
use Rattle.line_text.specs.Types.{Pid}

-- a procedure's name, and the number of its process
pub record ProcedureName : Type 0 where
  pub process : ℕ
  pub name : List ℕ

-- Processes, and threads with spares, are numbered from 1 in the order of their lines, procedures from 0 over the whole
-- script in the order of their lines, and paths from 0 in the order of their first uses.
pub record Tables : Type 0 where
  pub processes : List (List ℕ)
  -- of each process that which it is a child of, if it is one
  pub parents : List (Option Pid)
  pub threads : List (List ℕ)
  pub procedures : List ProcedureName
  pub paths : List (List ℕ)

abbrev pub is_same : List ℕ → List ℕ → Bool
is_same name other = bytes_eq other name

abbrev pub is_procedure : ℕ → List ℕ → ProcedureName → Bool
is_procedure process name other = (other.process == process) && bytes_eq other.name name

-- a number counted from 1
abbrev pub from_one : Option ℕ → Option ℕ
from_one place = option_map (λ n. n + 1) place

abbrev pub process_number : Tables → List ℕ → Option ℕ
process_number tables name = from_one (position (is_same name) tables.processes)

-- that of a process that stands before, where these do
abbrev pub earlier_number : List (List ℕ) → List ℕ → Option ℕ
earlier_number names name = from_one (position (is_same name) names)

-- the number of a parent, 0 where none is declared that has the name
abbrev pub parent_named : List (List ℕ) → List ℕ → Pid
parent_named names name = record { 0 = unwrap_or (earlier_number names name) 0 }

abbrev pub parent_at : Tables → ℕ → Option Pid
parent_at tables n = unwrap_or (at_number tables.parents n) None

abbrev pub is_parent : ℕ → Option Pid → Bool
is_parent process None = false
is_parent process (Some p) = p.0 == process

-- a process is a child of this one
abbrev pub is_child : Tables → ℕ → ℕ → Bool
is_child tables process n = is_parent process (parent_at tables n)

abbrev pub only_child : Tables → ℕ → Option ℕ → Option ℕ
only_child tables process None = None
only_child tables process (Some n) = if is_child tables process n then Some n else None

-- the number of this process's child of this name
abbrev pub child_number : Tables → ℕ → List ℕ → Option ℕ
child_number tables process name = only_child tables process (process_number tables name)

abbrev pub thread_number : Tables → List ℕ → Option ℕ
thread_number tables name = from_one (position (is_same name) tables.threads)

-- the number of this process's procedure of this name
abbrev pub entry_number : Tables → ℕ → List ℕ → Option ℕ
entry_number tables process name = position (is_procedure process name) tables.procedures

-- each path of a text has a number
abbrev pub path_number : Tables → List ℕ → ℕ
path_number tables name = position_or_len (is_same name) tables.paths
