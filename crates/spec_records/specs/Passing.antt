-- Descriptors that a call or a return passes (door_call(3C), door_return(3C)): what its sender's table must have, the objects that
-- go, and the rows that are closed.
use Rattle.std.specs.Prelude.{List, [], ◌∷◌, Option, Bool, false, ◌==◌, ◌||◌, ◌&&◌, if◌then◌else◌, filter_map, is_none}
use Rattle.std.specs.List.{list_any}
use Rattle.dk_base.specs.declared.object.Obj.{Obj}
use Rattle.dk_base.specs.declared.object.Pass.{Pass}
use Rattle.spec_records.specs.Tables.{close_row, object_named}

-- what a passed descriptor names
abbrev pub object_passed : List (Option Obj) → Pass → Option Obj
object_passed table x = object_named table x.fd

abbrev pub is_not_open : List (Option Obj) → Pass → Bool
is_not_open table x = is_none (object_passed table x)

-- one number twice, of which either is released
abbrev pub is_double : Pass → Pass → Bool
is_double x y = (x.fd.0 == y.fd.0) && (x.release || y.release)

abbrev pub has_double_release : List Pass → Bool
has_double_release [] = false
has_double_release (x ∷ xs) = list_any (is_double x) xs || has_double_release xs

-- what is refused with EINVAL
abbrev pub is_bad_pass : List (Option Obj) → List Pass → Bool
is_bad_pass table pass = list_any (is_not_open table) pass || has_double_release pass

-- what they name, in order
abbrev pub objects_passed : List (Option Obj) → List Pass → List Obj
objects_passed table pass = filter_map (object_passed table) pass

-- the table after one is passed: its row is closed where it is released
abbrev pub release_row : List (Option Obj) → Pass → List (Option Obj)
release_row table x = if x.release then close_row table x.fd.0 else table

-- the same for several, one after the other
abbrev pub release_rows : List (Option Obj) → List Pass → List (Option Obj)
release_rows table [] = table
release_rows table (x ∷ xs) = release_rows (release_row table x) xs
