-- The head of a history: its first line, and a line for each process with its members, each with its line feed.
use Rattle.std.specs.Prelude.{ℕ, ◌+◌, ◌==◌, Bool, true, false, List, [], ◌∷◌, ◌++◌, Option, None, Some, codes, decimal, flat_map, if◌then◌else◌}
use Rattle.history_text.specs.Types.{NamedProcess, NamedThread, Pid}
use Rattle.history_text.specs.Names.{Names, process_name, thread_name}
use Rattle.history_text.specs.Lookups.{process_word}

abbrev pub kind_text : Bool → List ℕ
kind_text true = codes " spare "
kind_text false = codes " thread "

-- a thread or a spare, where it is of this process
abbrev pub member_text : ℕ → NamedThread → List ℕ
member_text process thread = if thread.process == process then kind_text thread.spare ++ thread_name thread else []

-- what a process is: there from the start, or a child
abbrev pub process_text : Names → NamedProcess → Option Pid → List ℕ
process_text names process None = codes "process " ++ process_name process ++ codes " limit " ++ decimal process.limit
process_text names process (Some parent) = codes "child " ++ process_name process ++ codes " of " ++ process_word names parent

-- the line of a process of this number
abbrev pub head_line : Names → ℕ → NamedProcess → List ℕ
head_line names n process = process_text names process process.parent ++ flat_map (member_text n) names.threads ++ 10 ∷ []

-- of these processes, where so many stand before them
abbrev pub head_lines : Names → ℕ → List NamedProcess → List ℕ
head_lines names before [] = []
head_lines names before (process ∷ processes) = head_line names (before + 1) process ++ head_lines names (before + 1) processes

abbrev pub head_text : Names → List ℕ
head_text names = codes "doors history 1" ++ 10 ∷ [] ++ head_lines names 0 names.processes
