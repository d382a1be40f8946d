pub mod Lowest
pub mod Listed
