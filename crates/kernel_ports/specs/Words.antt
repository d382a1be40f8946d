-- The words of this crate's specs, from one place, for the crates above.
pub use Rattle.kernel_ports.specs.Ended.{HasRoomToEnd}
pub use Rattle.kernel_ports.specs.Firing.{AreAllChanged, HasRoomForArmed, IsSaid, KeepsRoomBeside, is_watched_among, is_watched_by}
pub use Rattle.kernel_ports.specs.Named.{AreAllNamed, HasAllReferences, HasReferences, is_changed, is_end_in, is_end_of}
pub use Rattle.kernel_ports.specs.Ready.{other_end}
pub use Rattle.kernel_ports.specs.Told.{port_told}
pub use Rattle.kernel_ports.specs.Value.{AssociatedPortsValue, HasRoomForEvents, HasRoomForTimer, HasRoomToAssociate, HasRoomToFire, IsTimely, idle_at, is_idle, is_queued, is_timer_at, timers_at}
