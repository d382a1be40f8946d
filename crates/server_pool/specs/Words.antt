-- The words of this crate's specs, from one place, for the crates above.
pub use Rattle.server_pool.specs.Ordered.{IsAscending, IsBelow, IsOrderedBy, change_at_number, change_item}
pub use Rattle.server_pool.specs.Pool.{PoolValue, count_calls, drop_door_in, drop_threads_in, empty_pool, enqueue_in, first_match, is_call, is_call_too_many, is_item, is_waiting_as, is_waiting_at, is_waiting_call, is_waiting_elsewhere, is_waiting_otherwise, item_of, items_at, items_waiting_at, match_in, match_of, next_of, park_in, pool_size, unpark_in, with_parked, with_room, with_waiting, withdraw_in, without_door, without_item}
pub use Rattle.server_pool.specs.Pools.{AllBelow, PoolsValue, change_pool, change_spares, is_another_spare, item_room_in, lowest_spare, may_bind, may_bind_to, no_pools, pool_at, pool_or_empty, queue_in, size_in, spares_of, spares_or_none, stack_in, thread_room_in, unbind_each, with_spare, without_highest, without_lowest, without_spare}
pub use Rattle.server_pool.specs.Stack.{AllParkedBefore, IsStack, ParkedBefore, is_another_thread, is_thread, pick_of, thread_of, without_thread}
