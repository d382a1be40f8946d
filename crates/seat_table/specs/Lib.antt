pub mod Sums
pub mod Rule
