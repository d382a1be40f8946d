-- How many associations there are of each descriptor of a process.
use Rattle.std.specs.Prelude.{◌==◌, ℕ, Bool, List, not, unwrap_or}
use Rattle.std.specs.Map.{lookup}
use Rattle.spec_records.specs.declared.association.Association.{Association}
use Rattle.spec_records.specs.Words.{descriptor, is_of_row}
use Rattle.port_assoc.specs.declared.key.Row.{Row}
use Rattle.port_assoc.specs.Keys.{same_row}

-- of each that has some
abbrev pub RowCounts : Type 0
RowCounts = List (Row × ℕ)

-- the counts, and how many more descriptors take no memory
pub record RowsValue : Type 0 where
  pub counts : RowCounts
  pub spare : ℕ

-- a descriptor that is not there has none
abbrev pub count_at : RowCounts → Row → ℕ
count_at counts r = unwrap_or (lookup (same_row r) counts) 0

abbrev pub is_row_of_other_process : ℕ → Row → Bool
is_row_of_other_process process r = not (r.process == process)

-- whether an association watches by this descriptor of a process
abbrev pub is_in_row : Row → Association → Bool
is_in_row r a = is_of_row r.process (descriptor r.fd) a
