pub mod Answers
pub mod Counts
pub mod Room
pub mod Words
