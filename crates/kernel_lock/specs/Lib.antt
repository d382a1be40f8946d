pub mod Ends
pub mod Leaving
pub mod Turning
