pub mod Events
pub mod CacheReplies
pub mod Words
