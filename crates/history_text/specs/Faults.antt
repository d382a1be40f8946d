-- The faults of a line whose words are well formed and whose numbers are in their ranges.
use Rattle.std.specs.Prelude.{ℕ, Bool, true, false, ◌+◌, ◌&&◌, ◌||◌, not, nat_le, nat_lt, List, [], ◌∷◌, Option, Some, None, bytes_eq, is_some, length, option_and_then}
use Rattle.std.specs.List.{list_any}
use Rattle.dk_base.specs.ByNumber.{at_number}
use Rattle.dk_base.specs.declared.limits.TheConstants.{PROCEDURES_MAX, PROCESSES_MAX, THREADS_MAX}
use Rattle.line_text.specs.Words.{are_distinct, has_name}
use Rattle.history_text.specs.declared.limits.TheConstants.{PATHS_MAX}
use Rattle.history_text.specs.declared.line.Line.TheVariants.{Process, Child, Name, Procedure, Path, Event}
use Rattle.history_text.specs.Types.{Line, Member, Pid, Place}
use Rattle.history_text.specs.Names.{Names}
use Rattle.history_text.specs.Lookups.{is_mentioned, is_process_name_used, is_thread_name_used, procedure_count, procedure_number}

-- twice

-- of these names of threads one was used before, or two are the same
abbrev pub are_thread_names_used : Names → List (List ℕ) → Bool
are_thread_names_used names called = list_any (is_thread_name_used names) called || not (are_distinct bytes_eq called)

abbrev pub is_member_used : Names → Member → Bool
is_member_used names member = is_thread_name_used names member.name

abbrev pub have_same_name : Member → Member → Bool
have_same_name member other = bytes_eq member.name other.name

-- the same of members
abbrev pub are_members_used : Names → List Member → Bool
are_members_used names members = list_any (is_member_used names) members || not (are_distinct have_same_name members)

-- a line `name` gave a process its name
abbrev pub has_given_name : Names → ℕ → Bool
has_given_name names process = is_some (option_and_then (λ found. found.given) (at_number names.processes process))

-- a child is named once at most, before anything mentions it
abbrev pub is_name_too_late : Names → Pid → Bool
is_name_too_late names child = has_given_name names child.0 || is_mentioned names child.0

-- something is declared again
abbrev pub is_twice : Names → Line → Bool
is_twice names (Process name limit members) = is_process_name_used names name || are_members_used names members
is_twice names (Child name parent members) = is_process_name_used names name || are_members_used names members
is_twice names (Name child name members) = is_name_too_late names child || is_process_name_used names name || are_thread_names_used names members
is_twice names (Procedure name process) = is_some (procedure_number names process.0 name)
is_twice names (Path name text) = has_name names.paths name || has_name names.texts text
is_twice names line = false

-- many

abbrev pub are_processes_many : Names → List Member → Bool
are_processes_many names members = nat_le PROCESSES_MAX (length names.processes) || nat_lt THREADS_MAX (length names.threads + length members)

-- a limit on a count is exceeded
abbrev pub is_many : Names → Place → Line → Bool
is_many names place (Process name limit members) = are_processes_many names members
is_many names place (Child name parent members) = are_processes_many names members
is_many names place (Procedure name process) = nat_le PROCEDURES_MAX (procedure_count names process.0)
is_many names place (Path name text) = nat_le PATHS_MAX (length names.paths)
is_many names place (Event number thread root asked answer) = place.full
is_many names place line = false
