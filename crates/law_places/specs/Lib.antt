pub mod Counts
pub mod Refusals
pub mod Places
pub mod References
