-- The names that are attached, with the room for more, and what is told of them.
use Rattle.std.specs.Prelude.{◌<◌, ℕ, List, Option, map, nat_eq, option_map}
use Rattle.std.specs.List.{IsDistinct}
use Rattle.dk_base.specs.declared.number.PathId.{PathId}
use Rattle.spec_records.specs.declared.record.Name.{Name}
use Rattle.spec_records.specs.Words.{name_in}

-- the names in the order in which they were attached, and how many more take no memory
pub record NameTable : Type 0 where
  pub names : List Name
  pub spare : ℕ

-- another name takes no memory
abbrev pub HasRoomForName : NameTable → Type 0
HasRoomForName table = 0 < table.spare

abbrev pub door_of_name : Name → ℕ
door_of_name n = n.door

-- the number of the door attached to a path, if there is one
abbrev pub attached_door : List Name → PathId → Option ℕ
attached_door names path = option_map door_of_name (name_in names path)

abbrev pub path_number : Name → ℕ
path_number n = n.path.0

-- no path stands twice
abbrev pub HaveDistinctPaths : List Name → Type 0
HaveDistinctPaths names = IsDistinct nat_eq (map path_number names)

-- a path's number with a door's, as a name
abbrev pub name_of_entry : ℕ × ℕ → Name
name_of_entry e = record { path = record { 0 = e.0 }; door = e.1 }

abbrev pub names_in : List (ℕ × ℕ) → List Name
names_in es = map name_of_entry es
