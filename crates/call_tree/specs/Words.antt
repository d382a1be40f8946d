-- The words of this crate's specs, from one place, for the crates above.
pub use Rattle.call_tree.specs.Calls.{IsThread, abandon_call, cancelled_at, cancelled_by, dropped_at, dropped_objects, is_called_by, is_given, is_given_call, is_ready_of, is_waiting, is_waiting_as, leaving_for, lose_server, outcome_at, outcome_in, parked_at, parked_thread, queued_call, refuse_call, transit_at}
pub use Rattle.call_tree.specs.Chains.{CanLink, Cut, IsEmpty, Linked, LinksValue, Sets, at, walk, walk_to}
pub use Rattle.call_tree.specs.Kept.{HasKey, IsFound, RecordsValue, call_in, calls_in, has_key, is_call, look, with_call, without_key}
pub use Rattle.call_tree.specs.LiveCalls.{AreLive, CallsValue, HasRoomForCall}
pub use Rattle.call_tree.specs.Parting.{LeftSoFar, PartsOfLeaving, and_one, broken_so_far, call_so_far, calls_so_far, nothing_left}
pub use Rattle.call_tree.specs.Sound.{AreSound}
pub use Rattle.call_tree.specs.Transit.{DropsInTransit, transit_count, transit_in}
pub use Rattle.call_tree.specs.Walks.{argument_objects, arguments_at, caller_among, caller_in, door_in, is_served_for, lead_in, root_in, server_among, server_at, server_in, walk_down, walk_up}
