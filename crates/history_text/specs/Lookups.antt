-- Names by numbers, and numbers by names.
use Rattle.std.specs.Prelude.{ℕ, Bool, true, false, ◌==◌, ◌&&◌, ◌||◌, List, [], Option, Some, None, option_map, option_and_then, bytes_eq, filter, length, map, position, slice_get, unwrap_or, if◌then◌else◌}
use Rattle.std.specs.List.{list_any}
use Rattle.dk_base.specs.ByNumber.{at_number}
use Rattle.line_forms.specs.Words.{from_one, is_same}
use Rattle.history_text.specs.Types.{NamedProcedure, NamedProcess, NamedThread, PathId, Pid, Tid}
use Rattle.history_text.specs.Names.{Names, process_name, thread_name}

-- names by numbers; a number of nothing has the empty name

abbrev pub process_word : Names → Pid → List ℕ
process_word names process = unwrap_or (option_map process_name (at_number names.processes process.0)) []

abbrev pub thread_word : Names → Tid → List ℕ
thread_word names thread = unwrap_or (option_map thread_name (at_number names.threads thread.0)) []

abbrev pub procedure_word : Names → ℕ → List ℕ
procedure_word names entry = unwrap_or (option_map (λ procedure. procedure.name) (slice_get names.procedures entry)) []

abbrev pub path_word : Names → PathId → List ℕ
path_word names path = unwrap_or (slice_get names.paths path.0) []

-- numbers by names, as processes and threads are called now

abbrev pub is_process_called : List ℕ → NamedProcess → Bool
is_process_called name process = bytes_eq (process_name process) name

abbrev pub process_number : Names → List ℕ → Option ℕ
process_number names name = from_one (position (is_process_called name) names.processes)

abbrev pub is_thread_called : List ℕ → NamedThread → Bool
is_thread_called name thread = bytes_eq (thread_name thread) name

abbrev pub thread_number : Names → List ℕ → Option ℕ
thread_number names name = from_one (position (is_thread_called name) names.threads)

abbrev pub is_procedure_called : ℕ → List ℕ → NamedProcedure → Bool
is_procedure_called process name procedure = (procedure.process == process) && bytes_eq procedure.name name

-- the number of this process's procedure of this name
abbrev pub procedure_number : Names → ℕ → List ℕ → Option ℕ
procedure_number names process name = position (is_procedure_called process name) names.procedures

abbrev pub path_number : Names → List ℕ → Option ℕ
path_number names name = position (is_same name) names.paths

-- processes and their members

-- the process of a thread, 0 of a number that is no thread's
abbrev pub process_of : Names → Tid → ℕ
process_of names thread = unwrap_or (option_map (λ found. found.process) (at_number names.threads thread.0)) 0

abbrev pub parent_of : Names → ℕ → Option Pid
parent_of names process = option_and_then (λ found. found.parent) (at_number names.processes process)

abbrev pub is_mentioned : Names → ℕ → Bool
is_mentioned names process = unwrap_or (option_map (λ found. found.mentioned) (at_number names.processes process)) false

abbrev pub limit_of : Names → Pid → ℕ
limit_of names process = unwrap_or (option_map (λ found. found.limit) (at_number names.processes process.0)) 0

abbrev pub is_member : ℕ → NamedThread → Bool
is_member process thread = thread.process == process

-- how many threads and spares a process has
abbrev pub member_count : Names → ℕ → ℕ
member_count names process = length (filter (is_member process) names.threads)

abbrev pub is_of_process : ℕ → NamedProcedure → Bool
is_of_process process procedure = procedure.process == process

abbrev pub procedure_count : Names → ℕ → ℕ
procedure_count names process = length (filter (is_of_process process) names.procedures)

-- the number, where it is that of a child of this process
abbrev pub if_child_of : Names → ℕ → ℕ → Option ℕ
if_child_of names process n = option_and_then (λ parent. if parent.0 == process then Some n else None) (parent_of names n)

-- the number of this process's child of this name
abbrev pub child_number : Names → ℕ → List ℕ → Option ℕ
child_number names process name = option_and_then (if_child_of names process) (process_number names name)

-- names that were used: a name that was replaced by another is not free again

abbrev pub is_name_of : List ℕ → List ℕ → Option (List ℕ) → Bool
is_name_of name declared None = bytes_eq declared name
is_name_of name declared (Some given) = bytes_eq declared name || bytes_eq given name

abbrev pub was_process_called : List ℕ → NamedProcess → Bool
was_process_called name process = is_name_of name process.declared process.given

abbrev pub was_thread_called : List ℕ → NamedThread → Bool
was_thread_called name thread = is_name_of name thread.declared thread.given

-- the number of the process that has this name, or had it
abbrev pub used_process_number : Names → List ℕ → Option ℕ
used_process_number names name = from_one (position (was_process_called name) names.processes)

abbrev pub is_process_name_used : Names → List ℕ → Bool
is_process_name_used names name = list_any (was_process_called name) names.processes

abbrev pub is_thread_name_used : Names → List ℕ → Bool
is_thread_name_used names name = list_any (was_thread_called name) names.threads
