-- The words of this crate's specs, from one place, for the crates above.
pub use Rattle.exit_paths.specs.Pools.{CanParkAgain, HasNoLessRoom, HaveLeft, HoldsSame, KeepsItems, kept_where, own_pool_in, places_in}
pub use Rattle.exit_paths.specs.Fates.{deserted_as, deserted_at_stage, deserted_in_call, fated, is_given_in, parked_of, parks_again, serves_given, with_deserted, with_interrupted, woken_of}
pub use Rattle.exit_paths.specs.Exits.{AreLost, CanExit, DropsTransit, HasExited, IsAsBefore, IsUntaken, Kept, TellsUntaken, became_idle, became_ready, has_ready, is_idle_at, parks_in, threads_where, transit}
pub use Rattle.exit_paths.specs.Queues.{Dropped, dropped_items, is_at_door, is_at_lost, is_call_of, is_call_of_any, is_call_where, is_queued_at, none_gone, pool_of_number, waiting_total}
pub use Rattle.exit_paths.specs.Calls.{AreRefused, AreTold, HaveEnded, all_left, in_transit, is_thread_of, refused_caller, refused_item}
pub use Rattle.exit_paths.specs.Together.{AreTogether, call_of, forgotten, or_forgotten, role_of, serves_in}
