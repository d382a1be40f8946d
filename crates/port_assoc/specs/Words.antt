-- The words of this crate's specs, from one place, for the crates above.
pub use Rattle.port_assoc.specs.Value.{AssocsValue, HasRoomFor, IsAlone, KeepsRoom}
