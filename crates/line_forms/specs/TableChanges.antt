-- Tables as they are made.
use Rattle.std.specs.Prelude.{ℕ, List, [], ◌∷◌, ◌++◌, Option}
use Rattle.line_text.specs.Types.{Pid}
use Rattle.line_text.specs.Words.{with_distinct_name}
use Rattle.line_forms.specs.Tables.{Tables}

abbrev pub no_names : Tables
no_names = record { processes = []; parents = []; threads = []; procedures = []; paths = [] }

-- with a process, which may be a child
abbrev pub tables_with_process : Tables → List ℕ → Option Pid → Tables
tables_with_process tables name parent =
    record { processes = tables.processes ++ name ∷ []; parents = tables.parents ++ parent ∷ []; threads = tables.threads; procedures = tables.procedures; paths = tables.paths }

abbrev pub tables_with_thread : Tables → List ℕ → Tables
tables_with_thread tables name = record { processes = tables.processes; parents = tables.parents; threads = tables.threads ++ name ∷ []; procedures = tables.procedures; paths = tables.paths }

abbrev pub tables_with_procedure : Tables → ℕ → List ℕ → Tables
tables_with_procedure tables process name =
    record { processes = tables.processes; parents = tables.parents; threads = tables.threads; procedures = tables.procedures ++ record { process = process; name = name } ∷ []; paths = tables.paths }

abbrev pub tables_with_path : Tables → List ℕ → Tables
tables_with_path tables name = record { processes = tables.processes; parents = tables.parents; threads = tables.threads; procedures = tables.procedures; paths = with_distinct_name tables.paths name }
