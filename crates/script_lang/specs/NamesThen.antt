-- What the reader's own contracts say of the names in a text.
use Rattle.std.specs.Prelude.{ℕ, List, [], ◌∷◌, ◌++◌, ◌+◌, Option, Some, None, map, filter_map, take, length, nat_lt, if◌then◌else◌}
use Rattle.line_text.specs.Types.{Pid}
use Rattle.line_text.specs.Words.{with_distinct_name, with_distinct_names, words_of}
use Rattle.line_forms.specs.Words.{Tables, qualified_name}
use Rattle.script_lang.specs.declared.names.Names.{Names}
use Rattle.script_lang.specs.TextTables.{parent_of_words, parents_from, process_of_words, thread_of_words, procedure_of_words, path_of_words, procedure_names_from}
use Rattle.dk_base.specs.declared.limits.TheConstants.{ALL_PROCEDURES_MAX, PROCESSES_MAX, THREADS_MAX}

-- a list with one more at its end, unless it has so many
abbrev pub with_room : {X : Type 0} → ℕ → List X → X → List X
with_room limit xs x = if nat_lt (length xs) limit then xs ++ x ∷ [] else xs

-- the names of these lines after those
abbrev pub names_then : Names → List (List (List ℕ)) → Tables
names_then names lines =
    record {
      processes = take PROCESSES_MAX (names.tables.processes ++ filter_map process_of_words lines);
      parents = take PROCESSES_MAX (names.tables.parents ++ parents_from names.tables.processes lines);
      threads = take THREADS_MAX (names.tables.threads ++ filter_map thread_of_words lines);
      procedures = take ALL_PROCEDURES_MAX (names.tables.procedures ++ procedure_names_from names.process lines);
      paths = with_distinct_names names.tables.paths (filter_map path_of_words lines);
    }

abbrev pub names_with : Names → List (List ℕ) → Tables
names_with names lines = names_then names (map words_of lines)

-- the names with those of a line of these words

abbrev pub names_with_process : Names → Option Pid → Option (List ℕ) → Names
names_with_process names parent None = names
names_with_process names parent (Some name) =
    record {
      tables =
          record names.tables {
            processes = with_room PROCESSES_MAX names.tables.processes name;
            parents = with_room PROCESSES_MAX names.tables.parents parent;
          };
      process = names.process + 1;
    }

abbrev pub names_with_thread : Names → Option (List ℕ) → Names
names_with_thread names None = names
names_with_thread names (Some name) = record names { tables = record names.tables { threads = with_room THREADS_MAX names.tables.threads name } }

abbrev pub names_with_procedure : Names → Option (List ℕ) → Names
names_with_procedure names None = names
names_with_procedure names (Some name) = record names { tables = record names.tables { procedures = with_room ALL_PROCEDURES_MAX names.tables.procedures (qualified_name names.process name) } }

abbrev pub names_with_path : Names → Option (List ℕ) → Names
names_with_path names None = names
names_with_path names (Some path) = record names { tables = record names.tables { paths = with_distinct_name names.tables.paths path } }

abbrev pub names_of_line : Names → List (List ℕ) → Names
names_of_line names words =
    names_with_path
    (names_with_process
    (names_with_thread (names_with_procedure names (procedure_of_words words)) (thread_of_words words))
    (parent_of_words names.tables.processes words)
    (process_of_words words))
    (path_of_words words)
