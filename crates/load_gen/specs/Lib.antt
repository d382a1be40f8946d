pub mod Loads
pub mod LoadText
pub mod Summaries
pub mod Tallies
pub mod Told
pub mod Words
