-- The words of this crate's specs, from one place, for the crates above.
pub use Rattle.event_port.specs.Answers.{AnswersOrWants, answer_of}
pub use Rattle.event_port.specs.Counts.{count_in, timer_count}
pub use Rattle.event_port.specs.Room.{HasPlacesAt, HasRoomAt, KeepsPlaces, KeepsRoom, KeepsRoomAtOthers, KeepsRoomButNamed, KeepsRoomButOne, PortValue, PortsValue, port_with, room_with, times_named, without_oldest}
