pub mod Pools
pub mod Fates
pub mod Exits
pub mod Queues
pub mod Together
pub mod Calls
pub mod Words
