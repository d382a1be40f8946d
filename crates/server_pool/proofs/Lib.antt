pub mod Order
pub mod Changed
pub mod Matched
