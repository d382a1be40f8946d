-- Tables in which no name stands twice.
use Rattle.std.specs.Prelude.{◌≡◌, Bool, true, bytes_eq}
use Rattle.line_text.specs.Words.{are_distinct}
use Rattle.line_forms.specs.Tables.{Tables, ProcedureName, is_procedure}

abbrev pub is_same_procedure : ProcedureName → ProcedureName → Bool
is_same_procedure one other = is_procedure other.process other.name one

-- names of processes, those of threads with spares, those of the procedures of each process, and paths
pub record AreDistinct (tables : Tables) : Type 0 where
  pub processes : are_distinct bytes_eq tables.processes ≡ true
  pub threads : are_distinct bytes_eq tables.threads ≡ true
  pub procedures : are_distinct is_same_procedure tables.procedures ≡ true
  pub paths : are_distinct bytes_eq tables.paths ≡ true
