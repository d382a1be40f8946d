-- The doors attached to paths.
use Rattle.std.specs.Prelude.{ℕ, ◌==◌, ◌++◌, [], ◌∷◌, List, Option, Bool, None, Some, filter, find, not}
use Rattle.dk_base.specs.declared.number.PathId.{PathId}
use Rattle.spec_records.specs.declared.record.Name.{Name}

abbrev pub has_path : PathId → Name → Bool
has_path path n = n.path.0 == path.0

abbrev pub name_in : List Name → PathId → Option Name
name_in names path = find (has_path path) names

abbrev pub with_name : List Name → PathId → ℕ → List Name
with_name names path d = names ++ record { path = path; door = d } ∷ []

-- the number of the door that is attached, 0 for none
abbrev pub door_attached : Option Name → ℕ
door_attached None = 0
door_attached (Some n) = n.door

abbrev pub has_other_path : PathId → Name → Bool
has_other_path path n = not (has_path path n)

-- without the name of a path
abbrev pub without_name : List Name → PathId → List Name
without_name names path = filter (has_other_path path) names
