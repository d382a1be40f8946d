-- The names that a text declares and the paths that it uses, by the first words of its lines. In a text in which no line
-- has a reason they are those of its script.
use Rattle.std.specs.Prelude.{ℕ, ◌+◌, ◌++◌, List, [], ◌∷◌, Option, Some, None, map, filter_map, option_map, take, bytes_eq, codes, if◌then◌else◌}
use Rattle.std.specs.Option.{option_or}
use Rattle.line_text.specs.Words.{first_uses, words_of}
use Rattle.line_text.specs.Types.{Pid}
use Rattle.line_forms.specs.Words.{ProcedureName, Tables, parent_named, qualified_name}
use Rattle.dk_base.specs.declared.limits.TheConstants.{ALL_PROCEDURES_MAX, PROCESSES_MAX, THREADS_MAX}

-- the second word of a line whose first is this
abbrev pub second_of : List ℕ → List (List ℕ) → Option (List ℕ)
second_of keyword [] = None
second_of keyword (word ∷ []) = None
second_of keyword (word ∷ second ∷ words) = if bytes_eq word keyword then Some second else None

-- the third
abbrev pub third_of : List ℕ → List (List ℕ) → Option (List ℕ)
third_of keyword [] = None
third_of keyword (word ∷ []) = None
third_of keyword (word ∷ second ∷ []) = None
third_of keyword (word ∷ second ∷ third ∷ words) = if bytes_eq word keyword then Some third else None

-- the fourth
abbrev pub fourth_of : List ℕ → List (List ℕ) → Option (List ℕ)
fourth_of keyword [] = None
fourth_of keyword (word ∷ []) = None
fourth_of keyword (word ∷ second ∷ []) = None
fourth_of keyword (word ∷ second ∷ third ∷ []) = None
fourth_of keyword (word ∷ second ∷ third ∷ fourth ∷ words) = if bytes_eq word keyword then Some fourth else None

-- A text of version 1 with a line `child` has a reason there, so these names count for none.
abbrev pub process_of_words : List (List ℕ) → Option (List ℕ)
process_of_words words = option_or (second_of (codes "process") words) (second_of (codes "child") words)

-- the process that the one of a line is a child of, where these stand before
abbrev pub parent_of_words : List (List ℕ) → List (List ℕ) → Option Pid
parent_of_words names words = option_map (parent_named names) (fourth_of (codes "child") words)

abbrev pub thread_of_words : List (List ℕ) → Option (List ℕ)
thread_of_words words = option_or (second_of (codes "spare") words) (second_of (codes "thread") words)

abbrev pub procedure_of_words : List (List ℕ) → Option (List ℕ)
procedure_of_words words = second_of (codes "proc") words

abbrev pub path_of_words : List (List ℕ) → Option (List ℕ)
path_of_words words =
    option_or (third_of (codes "attach") words) (
    option_or (second_of (codes "detach") words) (
    option_or (third_of (codes "open") words) (second_of (codes "await") words)))

abbrev pub process_after : ℕ → Option (List ℕ) → ℕ
process_after process None = process
process_after process (Some name) = process + 1

abbrev pub procedure_names_with : ℕ → Option (List ℕ) → List ProcedureName → List ProcedureName
procedure_names_with process None others = others
procedure_names_with process (Some name) others = qualified_name process name ∷ others

-- the procedures of these lines, where so many processes stand before
abbrev pub procedure_names_from : ℕ → List (List (List ℕ)) → List ProcedureName
procedure_names_from process [] = []
procedure_names_from process (words ∷ lines) = procedure_names_with process (procedure_of_words words) (procedure_names_from (process_after process (process_of_words words)) lines)

abbrev pub names_after : List (List ℕ) → Option (List ℕ) → List (List ℕ)
names_after names None = names
names_after names (Some name) = names ++ name ∷ []

abbrev pub parents_with : Option (List ℕ) → Option Pid → List (Option Pid) → List (Option Pid)
parents_with None parent others = others
parents_with (Some name) parent others = parent ∷ others

-- the parents of the processes of these lines, where the processes of these names stand before
abbrev pub parents_from : List (List ℕ) → List (List (List ℕ)) → List (Option Pid)
parents_from names [] = []
parents_from names (words ∷ lines) =
    parents_with (process_of_words words) (parent_of_words names words) (parents_from (names_after names (process_of_words words)) lines)

-- Of processes, threads and procedures only so many count as a script may have: in a text with more, a line has a reason.
abbrev pub tables_of_words : List (List (List ℕ)) → Tables
tables_of_words lines =
    record {
      processes = take PROCESSES_MAX (filter_map process_of_words lines);
      parents = take PROCESSES_MAX (parents_from [] lines);
      threads = take THREADS_MAX (filter_map thread_of_words lines);
      procedures = take ALL_PROCEDURES_MAX (procedure_names_from 0 lines);
      paths = first_uses (filter_map path_of_words lines);
    }

unfoldable pub tables_of_lines : List (List ℕ) → Tables
tables_of_lines lines = tables_of_words (map words_of lines)
