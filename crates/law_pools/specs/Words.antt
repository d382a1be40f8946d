-- The words of this crate's specs, from one place, for the crates above.
pub use Rattle.law_pools.specs.Agreement.{Agrees, AreDated, AreKept, HasPlaces, IsListed, IsParkedIn, IsQueue, IsQueueOf, IsStackOf, WaitsBefore, date_of_call, date_of_notice, is_notice_waiting, is_waiting_notice_in, notices_waiting_in, spare_at, spare_in, spares_among, waiting_in, waits_before}
pub use Rattle.law_pools.specs.Touched.{IsGivenOut, IsGivenOutBut, IsGivenOutIn, first_common_of, is_this, makes_first_common, own_pool, pool_by, pool_of_request}
pub use Rattle.law_pools.specs.Leaving.{AgreesSomehow, leaves_queue, notice_leaves_queue}
