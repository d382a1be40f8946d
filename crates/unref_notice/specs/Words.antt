-- The words of this crate's specs, from one place, for the crates above.
pub use Rattle.unref_notice.specs.Counted.{CountsValue, has_fallen, has_gone, how_many, was_referred_to, was_shared}
pub use Rattle.unref_notice.specs.Counting.{ObjectCounts, count_of, is_pipe_end}
pub use Rattle.unref_notice.specs.Left.{AreAllLeft, ExitPath, IsAllEntered, is_among, is_notice_item, takes_many_in}
pub use Rattle.unref_notice.specs.Value.{NoticesValue}
