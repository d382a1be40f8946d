-- The words of this crate's specs, from one place, for the crates above.
pub use Rattle.kernel_holdings.specs.Held.{AreNarrow, CanEnd, CarryFew, ChangesOnly, HasRoomToHold, HoldFew, HoldingsValue, IsCountOf, TRANSIT_MAX, has_fallen_to_one, has_lost_all, is_released, references_in, references_of, references_to, results_in, takes}
