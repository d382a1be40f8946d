pub mod Associations
pub mod Timers
pub mod Channels
pub mod Ends
pub mod Closed
pub mod Changed
pub mod Ended
pub mod Told
