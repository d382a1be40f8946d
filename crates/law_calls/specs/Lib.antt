pub mod Backed
pub mod Words
