pub mod Ready
pub mod Firing
pub mod Named
pub mod Ended
pub mod Value
pub mod Told
pub mod Words
