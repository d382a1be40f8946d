-- The words of this crate's specs, from one place, for the crates above.
pub use Rattle.thread_machine.specs.Machines.{HasDeclaredEntry, HasRoomForAnswer, IsMachine, Stands}
