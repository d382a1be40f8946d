-- What a line declares, and what it mentions.
use Rattle.std.specs.Prelude.{ℕ, Bool, true, false, ◌+◌, List, [], ◌∷◌, ◌++◌, Option, Some, None, length, map, option_map, unwrap_or, if◌then◌else◌}
use Rattle.dk_base.specs.ByNumber.{at_number, with_at_number}
use Rattle.dk_base.specs.declared.request.Request.TheVariants.{Interrupt, Kill, Fork}
use Rattle.history_text.specs.declared.line.Asked.TheVariants.{Enter, GoOn}
use Rattle.history_text.specs.declared.line.Line.TheVariants.{Process, Child, Name, Procedure, Path, Event, End}
use Rattle.history_text.specs.Types.{Asked, Line, Member, NamedProcess, NamedThread, Pid, Request, Tid}
use Rattle.history_text.specs.Names.{Names}
use Rattle.history_text.specs.Lookups.{is_member, limit_of, process_of}

-- the list with the item of a number changed, where there is one
abbrev pub changed_at : {X : Type 0} → List X → ℕ → (X → X) → List X
changed_at xs n change = unwrap_or (option_map (λ x. with_at_number xs n (change x)) (at_number xs n)) xs

-- processes and children, with their members

abbrev pub new_process : List ℕ → ℕ → Option Pid → NamedProcess
new_process name limit parent = record { declared = name; given = None; limit = limit; parent = parent; mentioned = false }

abbrev pub new_thread : ℕ → Member → NamedThread
new_thread process member = record { declared = member.name; given = None; process = process; spare = member.spare }

abbrev pub with_process : Names → NamedProcess → List Member → Names
with_process names process members = record names {
  processes = names.processes ++ process ∷ [];
  threads = names.threads ++ map (new_thread (length names.processes + 1)) members;
}

-- new names

abbrev pub called_process : List ℕ → NamedProcess → NamedProcess
called_process name process = record process { given = Some name }

abbrev pub called_thread : List ℕ → NamedThread → NamedThread
called_thread name thread = record thread { given = Some name }

-- the threads, of which the members of this process have these names in their order
abbrev pub with_member_names : ℕ → List (List ℕ) → List NamedThread → List NamedThread
with_member_names process names [] = []
with_member_names process [] (thread ∷ threads) = thread ∷ threads
with_member_names process (name ∷ names) (thread ∷ threads) =
    if is_member process thread
    then called_thread name thread ∷ with_member_names process names threads
    else thread ∷ with_member_names process (name ∷ names) threads

abbrev pub with_names : Names → ℕ → List ℕ → List (List ℕ) → Names
with_names names child name members = record names {
  processes = changed_at names.processes child (called_process name);
  threads = with_member_names child members names.threads;
}

-- procedures and paths

abbrev pub with_procedure : Names → ℕ → List ℕ → Names
with_procedure names process name = record names { procedures = names.procedures ++ record { process = process; name = name } ∷ [] }

abbrev pub with_path : Names → List ℕ → List ℕ → Names
with_path names name text = record names { paths = names.paths ++ name ∷ []; texts = names.texts ++ text ∷ [] }

-- processes that are mentioned, by their own names or by those of their members

abbrev pub mentioned_process : NamedProcess → NamedProcess
mentioned_process process = record process { mentioned = true }

abbrev pub with_mention : Names → ℕ → Names
with_mention names process = record names { processes = changed_at names.processes process mentioned_process }

abbrev pub with_request_mention : Names → Request → Names
with_request_mention names (Interrupt thread) = with_mention names (process_of names thread)
with_request_mention names (Kill process) = with_mention names process.0
with_request_mention names (Fork child) = with_mention names child.0
with_request_mention names _ = names

abbrev pub with_asked_mention : Names → Asked → Names
with_asked_mention names (Enter request) = with_request_mention names request
with_asked_mention names (GoOn what) = names

-- what is declared after a line
abbrev pub with_line : Names → Line → Names
with_line names (Process name limit members) = with_process names (new_process name limit None) members
with_line names (Child name parent members) = with_process names (new_process name (limit_of names parent) (Some parent)) members
with_line names (Name child name members) = with_names names child.0 name members
with_line names (Procedure name process) = with_mention (with_procedure names process.0 name) process.0
with_line names (Path name text) = with_path names name text
with_line names (Event number thread root asked answer) =
    with_asked_mention (with_mention (with_mention names (process_of names thread)) (process_of names root)) asked
with_line names (End ending number threads) = names

-- the process that a request mentions, or 0, which is none's number
abbrev pub mentioned_by : Names → Request → ℕ
mentioned_by names (Interrupt thread) = process_of names thread
mentioned_by names (Kill process) = process.0
mentioned_by names (Fork child) = child.0
mentioned_by names _ = 0

-- the thread of a number is a spare
abbrev pub is_spare : Names → Tid → Bool
is_spare names thread = unwrap_or (option_map (λ found. found.spare) (at_number names.threads thread.0)) false
