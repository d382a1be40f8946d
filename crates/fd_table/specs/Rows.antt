-- The lowest free row of a table as its code keeps it.
use Rattle.std.specs.Prelude.{ℕ, List, Option, is_none}
use Rattle.std.specs.List.{position_or_len}
use Rattle.dk_base.specs.declared.object.Obj.{Obj}

-- the most rows of a table, which is the greatest 32-bit number
abbrev pub ROWS_MAX : ℕ
ROWS_MAX = 4294967295

-- the lowest free row, or the number of rows where none is free
abbrev pub lowest_row : List (Option Obj) → ℕ
lowest_row table = position_or_len is_none table
