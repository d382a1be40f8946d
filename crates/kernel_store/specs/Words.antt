-- The words of this crate's specs, from one place, for the crates above.
pub use Rattle.kernel_store.specs.Channels.{HasRoomForEvents, HasRoomForPipe, HasRoomForPort, HasRoomForTimer, HasRoomToAssociate, KeepsRoomForEvents, KeepsRoomForEventsButOne}
pub use Rattle.kernel_store.specs.Frames.{AllIsGivenOut, AreIn, CanAct, CanLeave, CanSettle, FillsNoPool, FillsNoQueue, FillsOnePool, IsActive, IsAtRest, IsDeclared, IsGivenOutToOthers, IsInEvent, IsRoomFor, KeepsForNotices, KeepsPools, LoseDoorsIn, NothingAfter, ParksAgain, serves_any}
pub use Rattle.kernel_store.specs.Forking.{AreDormant, MayBegin}
pub use Rattle.kernel_store.specs.Held.{AreHeld, AreHeldIn, held_as, held_at}
pub use Rattle.kernel_store.specs.Stored.{ArePlaced, AreThere, CanHold, CanMake, HasBegun, HasRoom, HasRoomForDoor, HasRoomForNotices, HasRoomForReferences, HasRoomToAttach, HasWholeStep, IsAgreed, ReferToDoors, StoreValue, WaitAtValidDoors, count_served, has_fallen_since, may_have_notice_in, stored_state}
pub use Rattle.kernel_store.specs.Noticing.{HasItemRoom, HaveItemRoomBut, is_listed, items_for}
pub use Rattle.kernel_holdings.specs.Words.{TRANSIT_MAX, results_in}
pub use Rattle.kernel_store.specs.Turning.{can_turn, can_turn_at}
pub use Rattle.kernel_store.specs.Telling.{AreGone, HasOpened, HasRoomToTell, IsLeftToTell, ReadiesAtMost, closing_of, is_of_pipe}
