-- The words of this crate's specs, from one place, for the crates above.
pub use Rattle.spec_events.specs.Events.{event_of, events_of, output_at, shown_answer, with_output}
pub use Rattle.spec_events.specs.CacheReplies.{AskedLine, asked_with, events_with_replies, is_asked_by, line_asked, line_in, lines_of_process, reply_after, with_reply}
unfoldable pub use Rattle.spec_events.specs.CacheReplies.{cache_reply}
