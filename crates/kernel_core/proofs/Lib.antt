pub mod Live
pub mod Idle
pub mod Grows
pub mod Associated
pub mod Sending
pub mod Steps
pub mod Readers
pub mod Kept
mod Forking
mod CacheLines
pub mod Tests
pub mod Channels
pub mod Collected
pub mod Due
pub mod Endings
pub mod Fallen
pub mod Watching
pub mod Making
pub mod Acted
pub mod Numbering
pub mod Finishing
mod Told
pub mod Turning
mod Served
mod FirstRuns
mod Losing
mod CanSettle
