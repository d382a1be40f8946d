-- The words of this crate's specs, from one place, for the crates above.
pub use Rattle.name_space.specs.NameTable.{HasRoomForName, HaveDistinctPaths, NameTable, attached_door, door_of_name, path_number}
